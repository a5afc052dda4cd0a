pub mod CallerLemmas
pub mod MoveLemmas
pub mod ProtocolLemmas
pub mod RestLemmas
pub mod RunLemmas
pub mod ScheduleLemmas
pub mod SearchLemmas
pub mod ToldLemmas
