pub mod RoundLemmas
pub mod TextLemmas
