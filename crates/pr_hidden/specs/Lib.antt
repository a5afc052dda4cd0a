pub mod Covers
pub mod Following
pub mod HiddenSteps
pub mod Hiders
pub mod Hiding
pub mod Sparing
pub mod Tidiness
