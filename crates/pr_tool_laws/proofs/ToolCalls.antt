-- The calls of a tool: which it makes, why it was refused, and that one that only reads has read once.
pub mod CallLaw
pub mod CallRows
pub mod OnceLaw
pub mod OnceStages
pub mod ReadySteps
pub mod ReasonSteps
pub mod ToolFiles
