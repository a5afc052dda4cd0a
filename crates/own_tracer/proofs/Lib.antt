pub mod GoingLemmas
pub mod HoldingLemmas
pub mod LeavingLemmas
pub mod OrderLemmas
pub mod RoundLemmas
pub mod RunLemmas
pub mod ScenarioLemmas
