-- That one event stands on a process at most, and that the status of an lwp that stopped on an event tells it.
pub mod AloneLemmas
pub mod BridgeLemmas
pub mod OneEventLemmas
pub mod OwnTurnLemmas
pub mod ToldLemmas
