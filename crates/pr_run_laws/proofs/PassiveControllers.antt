-- Which controllers make passive calls alone, so that a history is passive.
pub mod OwnPassive
pub mod PassiveLemmas
pub mod TracerLemmas
