pub mod Ready
pub mod Around
pub mod Walks
pub mod Steps
pub mod Queues
pub mod Following
pub mod Moments
