pub mod PastLemmas
pub mod StepLemmas
pub mod TraceLemmas
