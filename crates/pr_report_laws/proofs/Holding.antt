-- When truss has hold of a process, by the entries of a history alone.
pub mod EndReplies
pub mod HeldLaws
pub mod HoldEnds
pub mod HoldEvents
pub mod HoldPlaces
pub mod OverEnds
pub mod PositionLaws
pub mod SetReleases
