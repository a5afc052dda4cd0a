pub mod ProcessParts
pub mod LawfulTurns
pub mod LawfulStates
pub mod Following
