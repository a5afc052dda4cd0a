pub mod Covers
pub mod Follows
pub mod NothingHidden
pub mod PatchedSpaces
