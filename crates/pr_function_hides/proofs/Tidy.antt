-- That truss writes tidily, and that the breakpoints that stand are those that it has marked: what is kept along a
-- history, and what entries leave hidden.
pub mod CalledCovers
pub mod CopyFree
pub mod OwnCalls
pub mod OwnTidy
pub mod OwnWrites
pub mod StillMessages
pub mod TidyCalls
pub mod TidyChanges
pub mod TidyCovers
pub mod TidyEntries
pub mod TidyKept
pub mod TidyLaw
pub mod TidyOwn
pub mod TidySent
pub mod WritesLaw
pub mod WrittenFunctions
