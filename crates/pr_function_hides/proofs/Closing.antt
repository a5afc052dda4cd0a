-- That truss closes the files of a process that lives only where no breakpoint stands there.
pub mod ClosingCalls
pub mod ClosingCourse
pub mod ClosingLaw
pub mod LeavingBare
