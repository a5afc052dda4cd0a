pub mod MessageLemmas
pub mod SpellingLemmas
pub mod WordLemmas
