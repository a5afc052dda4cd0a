-- Which files truss has open of each process along a history, which it has attached, and that it is told of none that
-- it is gone but where that has ended.
pub mod CallFacts
pub mod FilesCalls
pub mod GoneTold
pub mod OwnRuns
pub mod StandingTrusses
pub mod TracedHandles
pub mod YoungOpenings
