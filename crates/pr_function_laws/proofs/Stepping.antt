-- That from a breakpoint to the end of the step over it one lwp of a process moves alone, whatever others do.
pub mod AwayLemmas
pub mod BreakpointLemmas
pub mod FaultLemmas
pub mod HaltingSteps
pub mod OtherSteps
pub mod StepLemmas
pub mod StretchLemmas
pub mod ToldLemmas
