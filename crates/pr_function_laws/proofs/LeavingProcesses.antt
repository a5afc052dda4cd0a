-- How truss leaves its processes once it was interrupted, and what it has of each and leaves unread until then.
pub mod LeavingAlone
pub mod LeavingCourse
pub mod LeavingFacts
pub mod LeavingHolds
pub mod LeavingKept
pub mod LeavingLaws
pub mod LeavingStages
pub mod LeavingStays
pub mod LeavingSteps
pub mod LeavingWaits
pub mod LeftProcesses
pub mod UnlookedProcesses
