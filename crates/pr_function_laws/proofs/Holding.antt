-- When truss with calls of functions has hold of a process, by its calls and their replies: that this is when it
-- watches the process, that it gets hold of it once, that no event comes before from the wait on, and why it lets it
-- go; that it closes all files of what has ended; and that of each process that it was given it gets hold, or says that
-- it cannot trace it.
pub mod EndedFiles
pub mod GivenSteps
pub mod GoneCalls
pub mod HoldBegins
pub mod HoldCalls
pub mod HoldEnds
pub mod HoldGiven
pub mod HoldLaws
pub mod HoldOnce
pub mod HoldOpens
pub mod HoldQuiet
pub mod HoldReasons
