-- That truss has nothing planted, and writes nothing, once the memory of a process was replaced or a child has it too.
pub mod CopyCounts
pub mod ReplacedCalls
pub mod ReplacedReads
pub mod ReplacedTurns
pub mod ReplacedWalk
