pub mod Hearings
pub mod Judgements
pub mod Players
pub mod Replies
pub mod Turns
