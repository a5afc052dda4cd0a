-- That a process that has lent its memory shows what its borrower shows, and so the memory of one process that has it
-- to itself.
pub mod SpaceLemmas
