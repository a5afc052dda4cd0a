-- What keeps the parts of a lawful process lawful: its lwps, signals and what comes with them, programs, files,
-- and the open handles; and the changes of one process in its system.
pub mod SumLemmas
pub mod LocalLemmas
pub mod SystemLemmas
pub mod SignalLemmas
pub mod HoldableLemmas
pub mod FileLemmas
pub mod HandleLemmas
pub mod InfoLemmas
pub mod ProgramLemmas
