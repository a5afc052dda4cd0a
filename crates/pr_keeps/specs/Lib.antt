pub mod LwpEdits
pub mod ProcessEdits
pub mod MessageEdits
pub mod MessageAnswers
pub mod CallEdits
pub mod RowKinds
