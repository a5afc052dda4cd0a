pub mod HistoryLemmas
pub mod NameLemmas
pub mod StateLemmas
pub mod TurnLemmas
