-- That no lwp is left at a fault of one who hides where truss closes a file of a process that lives.
pub mod CleanCalls
pub mod CleanCovers
pub mod CleanLaw
pub mod CleanTurns
pub mod CleanWalk
pub mod HaltedOpenings
pub mod LiftedCovers
