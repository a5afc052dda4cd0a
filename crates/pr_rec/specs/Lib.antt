pub mod Columns
pub mod Fields
pub mod InRange
pub mod NoLwp
pub mod Reading
pub mod RecordBytes
pub mod RecordWords
