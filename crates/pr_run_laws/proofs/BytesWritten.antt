-- That what the controllers of a run write is bytes.
pub mod ByteLemmas
pub mod ProbeByteLemmas
