-- That pstack runs its process again, or lets it be where that stood when it came, and takes back its request where it
-- was refused.
pub mod LeavingLemmas
pub mod LeavingStages
pub mod LookLemmas
pub mod NoRunLemmas
pub mod RequestLemmas
pub mod RunAgainLemmas
pub mod StandingLwps
