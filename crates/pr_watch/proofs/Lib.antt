pub mod HitLemmas
pub mod LawLemmas
pub mod SlotLemmas
