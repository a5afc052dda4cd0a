-- What truss has read of the processes that it watches.
pub mod NewReads
pub mod ReadLaws
