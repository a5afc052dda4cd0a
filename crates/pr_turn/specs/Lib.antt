pub mod CallTurns
pub mod Making
pub mod NextRows
pub mod Turns
