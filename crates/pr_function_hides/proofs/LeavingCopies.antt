-- That a fork, a vfork and an exec that is granted finds no breakpoint, also where truss leaves its processes.
pub mod CopyBegins
pub mod CopyHalts
pub mod CopyHistory
pub mod CopyLeaves
pub mod CopyLeavingCalls
pub mod CopyLeft
pub mod CopyLooks
pub mod CopyStill
