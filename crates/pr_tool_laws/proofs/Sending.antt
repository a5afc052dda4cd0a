-- What pstop and prun send, and what it makes of their process.
pub mod SentEffects
pub mod SentLaw
pub mod SentPlaces
pub mod SentStages
