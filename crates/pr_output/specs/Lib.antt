pub mod Blocks
pub mod Output
pub mod Puts
pub mod Reports
