-- The lwps that stand at a fault of one who hides: which turns and calls bring them there, and with which run flags
-- truss runs them.
pub mod CountedFaults
pub mod CountedPlaces
pub mod FaultFlags
pub mod FaultRuns
pub mod FaultTurns
pub mod OwnEvents
pub mod OwnFaults
pub mod SoonRuns
pub mod TurnFaults
