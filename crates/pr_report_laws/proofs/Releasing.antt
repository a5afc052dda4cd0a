-- What truss has set of the processes that it traces, and what it leaves of them.
pub mod ReleaseCalls
pub mod ReleaseFreed
pub mod ReleaseGrants
pub mod ReleaseLaws
pub mod ReleaseMarks
pub mod ReleaseModes
pub mod ReleaseStays
pub mod ReleaseSteps
