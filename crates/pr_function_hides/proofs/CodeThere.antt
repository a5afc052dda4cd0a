-- That the code of a function stands where truss plants its breakpoint, is read where it does, and stands again while
-- it is stepped.
pub mod CodeCalls
pub mod CodeLaw
pub mod CodeWalk
pub mod FetchedCode
pub mod PlantedCode
pub mod ReadCode
pub mod StepCode
pub mod TurnCode
pub mod TurnStands
pub mod WrittenCode
