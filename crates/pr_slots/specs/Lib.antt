pub mod ByIdLending
pub mod Keys
pub mod Lending
pub mod Walks
