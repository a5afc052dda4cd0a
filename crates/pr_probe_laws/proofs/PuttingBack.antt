-- That apfiles puts back what it wrote over: its stages, with what it has saved and written.
pub mod MemoryMessages
pub mod ProbeCalls
pub mod ProbeLaw
pub mod ProbeStages
