-- That the text of a tool is that of the fields of the records that it read, and one read has what stands in the state.
pub mod EntryLemmas
pub mod LineLemmas
pub mod ReadBackLemmas
pub mod ReadTextLemmas
pub mod WholeLemmas
