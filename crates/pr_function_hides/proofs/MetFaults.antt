-- That each lwp on the stop of a fault which truss takes for its own counts as standing at one, so that truss clears no
-- other, as long as it goes on.
pub mod ClearedRuns
pub mod ClearingCalls
pub mod ClearingLaw
pub mod MetCalls
pub mod MetCounts
pub mod MetTurns
pub mod MetWalk
pub mod RunUnmet
