-- Which files apfiles has open, which of its handles they are, and what entries leave of open files.
pub mod FileEntries
pub mod FileKinds
pub mod FilePlaces
pub mod FileRows
pub mod OwnCallRows
pub mod OwnFiles
