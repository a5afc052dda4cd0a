pub mod Members
pub mod Blocks
