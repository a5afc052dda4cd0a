-- Which turns and calls leave the step marks of processes, and that FLTTRACE comes of one alone.
pub mod MarkCalls
pub mod MarkTurns
pub mod StepTurns
