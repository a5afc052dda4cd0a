pub mod LogLemmas
pub mod ManyLemmas
pub mod OneLemmas
