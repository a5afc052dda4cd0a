pub mod BitLemmas
pub mod WalkLemmas
pub mod BlockLemmas
pub mod MarkLemmas
