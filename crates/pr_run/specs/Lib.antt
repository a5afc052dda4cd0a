pub mod Logs
pub mod ManyRuns
pub mod OneRuns
