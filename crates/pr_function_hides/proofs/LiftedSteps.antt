-- That the function of the step that is under way in a process is the one whose breakpoint truss lifted last, right
-- before it ran the process with PRCFAULT and PRSTEP.
pub mod BegunLifts
pub mod LiftCalls
pub mod LiftedLaw
pub mod LiftedNow
pub mod MarkedWalk
pub mod OwnControls
pub mod SinceOpened
pub mod StepEnds
pub mod StepReads
pub mod StepRuns
pub mod SteppedFunctions
pub mod SteppedLast
pub mod SteppedNow
pub mod SteppedThen
pub mod ToldCalls
