-- The memory that a process shows, what is mapped there and written to it, who has borrowed it, and what entries leave
-- of it.
pub mod LentMemory
pub mod MappedMemory
pub mod MarkedPatches
pub mod MemoryEntries
pub mod MemoryTurns
pub mod PassedMemory
pub mod SharedMemory
pub mod SpaceEdits
pub mod Unborrowed
pub mod UnlentFiles
pub mod WriteReplies
