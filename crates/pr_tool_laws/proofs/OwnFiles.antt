-- Which files a tool opens, and that it has none open once it has finished.
pub mod HandleLemmas
pub mod NotedFiles
pub mod NothingOpenLemmas
pub mod StandingLemmas
