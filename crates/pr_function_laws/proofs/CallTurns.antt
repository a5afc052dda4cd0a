-- That a call of a function that truss tells is one turn of its lwp, from the breakpoint to the next read, and that
-- each such turn is told.
pub mod BegunSteps
pub mod CalledLaws
pub mod OwnSteps
pub mod StepMarks
pub mod ToldLaws
pub mod TrapLemmas
pub mod TurnCalls
pub mod TurnLemmas
pub mod TurnOrder
pub mod TurnPoints
pub mod TurnReads
pub mod TurnStarts
pub mod TurnStates
pub mod TurnWalks
