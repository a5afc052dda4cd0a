pub mod ProcessLoans
pub mod LendingTurns
pub mod LendingStates
pub mod ShownSpaces
pub mod StopLemmas
