-- The children of forks that truss has not opened yet: they stand at their births.
pub mod Births
pub mod ChildReads
pub mod ClaimBegun
pub mod ClaimCalls
pub mod ClaimEntries
pub mod ClaimFed
pub mod ClaimOpenings
pub mod ClaimReach
pub mod ClaimReplies
pub mod ClaimRuns
pub mod ClaimStands
pub mod ClaimSteps
pub mod Claims
pub mod LeftChildren
