-- That what is fetched at a function which truss has marked as planted is the instruction of a breakpoint, as long as
-- programs leave these functions alone.
pub mod BreakpointBytes
pub mod BreakpointCalls
pub mod CalmEntries
pub mod FetchesLaw
pub mod ForeignEntries
pub mod LeavingBreakpoints
pub mod ShutHalts
pub mod SparedFunctions
pub mod SparedLaw
pub mod StandingBreakpoints
pub mod UnattachedBare
