pub mod SeenParts
pub mod SeenTurns
pub mod SeenHistories
