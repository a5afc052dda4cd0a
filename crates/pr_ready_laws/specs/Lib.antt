pub mod Reach
pub mod Touched
pub mod Left
