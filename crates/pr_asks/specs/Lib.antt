pub mod Asks
pub mod Calls
pub mod Messages
pub mod Replies
