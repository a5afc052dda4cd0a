-- That the memory which truss reads for the line of an event is that of its moment, and that the line shows it.
pub mod LineEvents
pub mod LineMoments
pub mod LineReads
pub mod LineTexts
pub mod MemoryFile
pub mod QuietMoments
pub mod TextsAtOnce
