-- That a fork, a vfork and an exec that is granted finds no breakpoint, as long as truss does not leave its processes.
pub mod CopyActs
pub mod CopyCalls
pub mod CopyClosing
pub mod CopyEnds
pub mod CopyFeeds
pub mod CopyForeign
pub mod CopyLooking
pub mod CopyOpening
pub mod CopyOwn
pub mod CopyPatching
pub mod CopyPlaces
pub mod CopyReading
pub mod CopyReads
pub mod CopyRows
pub mod CopyRunning
pub mod CopyStretches
pub mod CopyWalk
