-- What is kept of runs of scenarios, whose histories grow at their end.
pub mod GrowthLemmas
pub mod KeptLemmas
pub mod SilentLemmas
