-- That only who runs a process has set step marks in it, and that none outlives the close of its control file.
pub mod PassiveHiders
pub mod ReleasedMarks
pub mod StepLaw
pub mod StepWalk
pub mod SteplessCalls
pub mod StepsGoing
pub mod StepsKept
pub mod StepsOwn
