-- What turns, and what others do, leave of a process that stands still, halts, or is open exclusively, whoever the
-- controllers are.
pub mod ForeignLemmas
pub mod FrameLemmas
pub mod HaltLemmas
pub mod OthersLemmas
pub mod OutlastLemmas
pub mod OverLemmas
pub mod OwnMemoryLemmas
pub mod StillLemmas
pub mod StoresLemmas
pub mod TakenLemmas
