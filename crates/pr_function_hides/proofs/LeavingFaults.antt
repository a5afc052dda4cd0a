-- What faults a process has that truss leaves, from the first interrupt on, and that truss clears no fault but its own
-- then.
pub mod ClearedCalls
pub mod ClearedLaw
pub mod LeavingCalls
pub mod LeavingClears
pub mod LeavingDone
pub mod LeavingFirst
pub mod LeavingHistory
pub mod LeavingMade
pub mod LeavingMet
pub mod LeavingPlaces
pub mod LeavingSent
pub mod LeavingStarts
pub mod LeavingWaits
