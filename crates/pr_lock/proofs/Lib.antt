pub mod Sums
pub mod Histories
pub mod Keeps
pub mod Sent
