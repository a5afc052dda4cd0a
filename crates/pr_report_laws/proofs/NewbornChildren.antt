-- That a followed child does nothing before truss watches it.
pub mod NewbornForks
pub mod NewbornLaws
pub mod NewbornTurns
