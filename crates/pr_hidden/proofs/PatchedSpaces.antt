-- Spaces with patches: what is read and written there, byte by byte, and what a tidy write leaves.
pub mod AccessLemmas
pub mod ByteLemmas
pub mod MappingLemmas
pub mod PatchLemmas
pub mod StandLemmas
pub mod WrittenCovers
