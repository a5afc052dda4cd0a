pub mod BadBytes
pub mod Plain
pub mod Steps
