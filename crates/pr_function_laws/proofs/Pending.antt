-- That an event of a process that truss has not read stays until the next read of the process, which tells of it.
pub mod EventReads
pub mod EventTurns
pub mod FrontLemmas
pub mod KnownFiles
pub mod KnownLaws
pub mod PendingCalls
pub mod PendingPlaces
pub mod PendingReads
pub mod PendingWalk
