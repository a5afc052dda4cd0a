-- A truss among the controllers of a run: its words, options, calls and replies, and whether it hides breakpoints.
pub mod FunctionLemmas
pub mod TrussHiders
pub mod TrussLemmas
pub mod TrussOptions
pub mod TrussWords
