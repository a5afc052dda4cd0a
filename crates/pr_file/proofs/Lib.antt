pub mod ByteLemmas
pub mod WaitLemmas
