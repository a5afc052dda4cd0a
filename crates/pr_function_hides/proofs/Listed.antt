-- That the calls of functions that truss has shown are the turns that are such calls.
pub mod CallStates
pub mod CallsLeaving
pub mod LeavingLists
pub mod LeavingTurns
pub mod ListedLaw
pub mod ListedWalk
pub mod StartedTrusses
