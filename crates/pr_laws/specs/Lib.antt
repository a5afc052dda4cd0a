pub mod LastCloses
pub mod Refusals
pub mod Runs
