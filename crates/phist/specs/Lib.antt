pub mod Answers
pub mod Sources
pub mod Telling
pub mod Words
