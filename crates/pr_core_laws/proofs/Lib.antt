pub mod StandingProcesses
pub mod OpenFiles
pub mod OneState
pub mod Refused
