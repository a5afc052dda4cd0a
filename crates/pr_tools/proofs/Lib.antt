pub mod EntryLemmas
pub mod FieldLemmas
pub mod ReadBackLemmas
pub mod SignalLemmas
pub mod StackLemmas
pub mod TextLemmas
pub mod TotalLemmas
pub mod TreeLemmas
