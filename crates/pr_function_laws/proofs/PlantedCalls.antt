-- Which breakpoints truss with calls of functions has marked as planted in a process, by its calls and their replies.
pub mod BreakpointCode
pub mod HeldSince
pub mod PlantedFacts
pub mod PlantedHolds
pub mod PlantedMarks
pub mod WriteCalls
