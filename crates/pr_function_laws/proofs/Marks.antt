-- What replies leave of the marks of truss and of each process by where truss has come with it, and of which calls of
-- functions they tell.
pub mod CallLemmas
pub mod FunctionSets
pub mod KeptLemmas
pub mod KeptPlaces
pub mod KeptStages
pub mod KeptStops
pub mod LiftLemmas
pub mod MarkLemmas
pub mod MarkWalk
pub mod MetLemmas
pub mod ReturnLemmas
pub mod SoundLemmas
