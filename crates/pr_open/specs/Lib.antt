pub mod Exclusion
pub mod Opening
