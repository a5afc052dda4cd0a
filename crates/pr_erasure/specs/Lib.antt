pub mod PlainEffects
pub mod Suiting
pub mod Transparency
pub mod Untouched
