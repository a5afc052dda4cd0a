-- How soon truss polls, and how soon it runs a process that a poll named, or closes one.
pub mod LeavingLemmas
pub mod LookLemmas
pub mod PolledLemmas
pub mod SoonLemmas
