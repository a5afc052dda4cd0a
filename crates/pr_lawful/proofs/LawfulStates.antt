-- That the first state is lawful, and that turns, calls of controllers, messages and ticks leave a state lawful, so
-- that each state of a legal history is.
pub mod MessageLemmas
pub mod ReleasedLemmas
pub mod StateLemmas
pub mod CallLemmas
pub mod StartLemmas
pub mod HistoryLemmas
