-- That what a process has used is at most what it had used before, and one more for each entry since.
pub mod UsageHistories
pub mod UsageRanges
