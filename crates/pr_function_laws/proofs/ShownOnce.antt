-- That truss with calls of functions shows each new event, and no stop twice.
pub mod GoingOn
pub mod OpenFiles
pub mod OrdinaryNew
pub mod OrdinaryOnce
pub mod WatchedOnce
