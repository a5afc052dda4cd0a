-- That what is read from a scenario is in range: words, programs, functions, and what its scripts write.
pub mod FunctionRanges
pub mod ProgramRanges
pub mod ScenarioRangeLemmas
pub mod WordRanges
pub mod WritingRanges
