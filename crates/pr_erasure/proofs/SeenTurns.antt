-- That each turn is steps of the untraced machine, as programs see it: a line a system call and a row of the turn
-- table; and what a turn leaves untouched.
pub mod DecisionLemmas
pub mod EffectLemmas
pub mod FaultLemmas
pub mod KeptSettings
pub mod PointLemmas
pub mod ProperLemmas
pub mod RowLemmas
pub mod StandingLemmas
pub mod TransitionLemmas
pub mod TurnLemmas
pub mod UntouchedLemmas
