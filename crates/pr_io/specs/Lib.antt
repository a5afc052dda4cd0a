pub mod Faults
pub mod InMemory
pub mod Known
pub mod Reading
pub mod Writing
