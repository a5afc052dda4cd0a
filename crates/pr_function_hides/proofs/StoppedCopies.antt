-- That the lwps of a process stop at the entry of each fork, vfork and exec, and which turns and calls let none of
-- these go on.
pub mod CopyOthers
pub mod CopyOuts
pub mod CopyPasses
pub mod CopyRuns
pub mod CopySets
pub mod CopyTurns
pub mod RefusedCopies
