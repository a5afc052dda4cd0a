-- What becomes of each process that truss was given.
pub mod ChildrenLemmas
pub mod GivenLemmas
pub mod OpeningLemmas
pub mod SequenceLemmas
