-- That each state of a legal history whose calls write bytes is in range: registers, bytes, mappings, files and what
-- comes with signals.
pub mod CallRanges
pub mod ChangeRanges
pub mod ControllerRanges
pub mod EndRanges
pub mod FileRanges
pub mod HistoryRanges
pub mod InstructionRanges
pub mod MemoryRanges
pub mod MessageRanges
pub mod PendingRanges
pub mod ProcessRanges
pub mod RegisterRanges
pub mod RowRanges
pub mod TurnRanges
