-- The stages of the tools, what replies make of them, and what is kept in a history in which a tool makes its own
-- calls.
pub mod EndedLemmas
pub mod KindLemmas
pub mod LawLemmas
pub mod OtherStages
pub mod ProtocolLemmas
pub mod ReaderLemmas
pub mod StageLemmas
pub mod ToolLemmas
