pub mod Accesses
pub mod Laws
pub mod Setting
pub mod Steps
