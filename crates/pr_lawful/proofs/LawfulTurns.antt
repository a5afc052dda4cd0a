-- That a turn of an lwp leaves a lawful system lawful: a line a change, a move, a system call and a row of the turn
-- table.
pub mod LoanLemmas
pub mod EndLemmas
pub mod SuitingLemmas
pub mod ChangeLemmas
pub mod TransitionLemmas
pub mod EffectLemmas
pub mod TurnLemmas
