-- Which files truss has open, that it closes them, and what it leaves of a process then.
pub mod ClosesLemmas
pub mod HeldLemmas
pub mod OpensLemmas
pub mod OwnLemmas
pub mod ReleaseLemmas
