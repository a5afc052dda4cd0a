-- That the handles which truss remembers are those of the files that it opened them for.
pub mod FedFiles
pub mod FileLaws
pub mod FileSteps
pub mod FileUses
pub mod KeepLemmas
pub mod WatchHistories
