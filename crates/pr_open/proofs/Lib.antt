pub mod ExclusionLemmas
pub mod PlaceLemmas
