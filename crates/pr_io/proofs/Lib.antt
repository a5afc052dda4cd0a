pub mod Counts
pub mod Fronts
pub mod InMemory
pub mod Known
