-- What turns, calls and changes make of a state without what is hidden: the same as in the state with it.
pub mod BareCovers
pub mod CallCovers
pub mod ChangeCovers
pub mod FileCovers
pub mod HiddenCovers
pub mod InstructionCovers
pub mod LifeCovers
pub mod MoveCovers
pub mod OneLemmas
pub mod PointCovers
pub mod RowCovers
pub mod RunCovers
pub mod SeenLemmas
pub mod SignalCovers
pub mod StateCovers
pub mod TurnCovers
