-- That each lwp at a fault of one who hides stands on the stop of it, so that truss posts no such fault.
pub mod GoingCalls
pub mod GoingNext
pub mod GoingOwn
pub mod LeftCalls
pub mod PostedLaw
pub mod StoppedCalls
pub mod StoppedFaults
pub mod StoppedTurns
pub mod StoppedWalk
