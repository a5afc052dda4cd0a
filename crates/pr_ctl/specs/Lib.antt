pub mod Agents
pub mod Aims
pub mod Answers
pub mod Changes
pub mod Memory
pub mod Runs
pub mod Signals
pub mod Watching
