-- That a turn of an lwp leaves memory lent in order: a line a change, a system call and a row of the turn table.
pub mod ChangeLemmas
pub mod EffectLemmas
pub mod TurnLemmas
