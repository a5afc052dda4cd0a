-- What follows of a lawful system, for the bodies and the laws that need it.
pub mod UseLemmas
pub mod MadeLemmas
pub mod RecordLemmas
