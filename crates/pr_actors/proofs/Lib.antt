pub mod ReportLemmas
pub mod ScenarioLemmas
