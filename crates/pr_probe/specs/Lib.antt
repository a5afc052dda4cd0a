pub mod AgentCode
pub mod DescriptorLines
pub mod ProbeStages
pub mod ProbeRuns
pub mod ProbeText
pub mod Probes
pub mod Regions
pub mod TracedSets
