pub mod BareLemmas
pub mod CoverTableLemmas
pub mod HidingLemmas
pub mod HistoryLemmas
pub mod PatchLemmas
pub mod PlayLemmas
