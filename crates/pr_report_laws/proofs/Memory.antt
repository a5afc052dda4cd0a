-- That the memory in the line of an event is that of its moment.
pub mod EventComes
pub mod EventMemory
pub mod MemoryReads
pub mod OwnSpaces
pub mod WatchMemory
