pub mod Answered
pub mod Callers
pub mod Controllers
pub mod ControllerStates
pub mod Moves
pub mod Protocol
pub mod Runs
pub mod Worlds
