pub mod GapLemmas
pub mod LawLemmas
pub mod PageLemmas
pub mod PlaceLemmas
pub mod RoomLemmas
pub mod RunLemmas
pub mod TextLemmas
pub mod WriteLemmas
