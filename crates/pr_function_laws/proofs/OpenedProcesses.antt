-- How a process stands that truss opens or has opened: its files, what is set on it, its lwps and events, and the code
-- that is stepped there.
pub mod CodeLemmas
pub mod ComingLwps
pub mod OneEventLemmas
pub mod OneEventTurns
pub mod OpenedCalls
pub mod OpenedLaws
pub mod OpenedLemmas
pub mod StepCode
pub mod StoodCalls
pub mod StoodLemmas
pub mod StopRuns
pub mod StopTurns
pub mod TracedSets
