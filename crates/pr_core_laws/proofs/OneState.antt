-- That gcore prints the core of one state, and tools of the core of a live process what they print of that process.
pub mod GcoreCalls
pub mod GcoreEnds
pub mod GcoreLaw
pub mod GcoreStages
pub mod GcoreSteps
pub mod LiveTexts
pub mod MemoryLemmas
pub mod ReadLemmas
