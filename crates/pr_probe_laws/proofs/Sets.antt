-- That apfiles sets the sets back by which its process was traced when it came.
pub mod SetCalls
pub mod SetFrames
pub mod SetLaw
pub mod SetMessages
pub mod SetStages
pub mod StatusSets
