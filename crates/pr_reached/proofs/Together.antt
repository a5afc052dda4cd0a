-- What is so of reached states together, that a history from a first state in range stays in range, and that the
-- processes in reached states have few mappings.
pub mod FirstRanges
pub mod MappedLemmas
pub mod ReachedLemmas
