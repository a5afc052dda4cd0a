-- The steps that are under way in a process, the turns that truss has not read yet, which turns are calls of functions,
-- and what one entry adds to these.
pub mod BegunCalls
pub mod CallLists
pub mod CallTurns
pub mod ClosedSteps
pub mod FetchedBreakpoints
pub mod LongMarks
pub mod OpeningMarks
pub mod StatusReads
pub mod TrapStops
pub mod TrapTurns
pub mod UnderWay
pub mod UnreadTurns
