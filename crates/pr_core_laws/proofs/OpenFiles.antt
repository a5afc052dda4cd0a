-- Which files gcore has open, by their places and by its notes.
pub mod GcoreHolds
pub mod HandleLemmas
pub mod KeptParts
pub mod OwnFiles
