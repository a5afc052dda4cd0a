-- That no child is left of a fork that came while truss watched its parent.
pub mod ForkEvents
pub mod NoneLeft
pub mod ReadChildren
pub mod ReadForks
pub mod Splits
