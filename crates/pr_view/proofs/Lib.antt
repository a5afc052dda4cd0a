pub mod DescriptorLemmas
pub mod HeapLemmas
pub mod ListLemmas
pub mod MemoryLemmas
pub mod ReadLemmas
pub mod StatusLemmas
