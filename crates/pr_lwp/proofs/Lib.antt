pub mod AccessLemmas
pub mod ExecutionLemmas
pub mod RegisterLemmas
pub mod StepLemmas
