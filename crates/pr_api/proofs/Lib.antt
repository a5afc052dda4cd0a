pub mod ReplyLemmas
pub mod ShapeLemmas
pub mod TableLemmas
