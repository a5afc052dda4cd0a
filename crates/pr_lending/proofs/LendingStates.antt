-- That memory is lent in order in the first state, and stays so through calls of controllers and ticks of the
-- clock, so that it is in each state of a legal history.
pub mod StartLemmas
pub mod CallLemmas
pub mod HistoryLemmas
