-- When truss with calls of functions looks at a process, by its last call; and how soon it polls.
pub mod BesideCounts
pub mod LastCalls
pub mod LookPlaces
pub mod NamedLooks
pub mod SoonPolls
