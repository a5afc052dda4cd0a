pub mod CloseLemmas
pub mod NextLwpLemmas
pub mod RefusalLemmas
pub mod RepresentativeLemmas
pub mod RunLemmas
pub mod StopLemmas
