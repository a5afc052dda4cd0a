pub mod GcoreCalls
pub mod OneCore
pub mod Refused
pub mod Spared
