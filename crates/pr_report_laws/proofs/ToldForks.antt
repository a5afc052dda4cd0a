-- Which read tells truss of a child: by its own state, and by calls and replies.
pub mod OldStops
pub mod OldOpenings
pub mod OldHolds
pub mod ToldReads
