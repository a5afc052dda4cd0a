-- States of which nothing, or the same, is hidden, and what hiders leave alone there; where nobody hides all is seen.
pub mod CoverLemmas
pub mod NobodyLemmas
pub mod NoneLemmas
pub mod TameLemmas
