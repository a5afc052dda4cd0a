-- What is found and what is changed in a state, as programs see it: signals, beginnings and ends, moves.
pub mod BareLemmas
pub mod ChangeLemmas
pub mod LifeLemmas
pub mod MoveLemmas
pub mod SignalLemmas
pub mod StateLemmas
