-- What becomes of each child of a fork that truss has read.
pub mod FollowCalm
pub mod FollowForks
pub mod FollowLaws
pub mod FollowOpenings
pub mod FollowUnseen
pub mod FreedLaws
