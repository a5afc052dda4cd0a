-- That calls of controllers are no step of the untraced machine, and that a history of passive ones is a run of it.
pub mod CallLemmas
pub mod HiddenLemmas
pub mod HistoryLemmas
pub mod OutsideLemmas
