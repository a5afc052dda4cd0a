-- When a process stands still, is as it was, or has lent its memory, whoever the controllers are.
pub mod LentLemmas
pub mod SameLemmas
pub mod SparingLemmas
pub mod StandLemmas
pub mod StoppedLemmas
pub mod WaitLemmas
