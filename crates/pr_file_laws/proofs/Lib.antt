pub mod CountLemmas
pub mod EndLemmas
pub mod PlaceLemmas
pub mod TableLemmas
pub mod UserLemmas
