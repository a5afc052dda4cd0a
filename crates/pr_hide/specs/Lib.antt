pub mod Bare
pub mod CoverTables
pub mod Hidings
pub mod Walks
