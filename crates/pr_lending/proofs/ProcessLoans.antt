-- Who lends to whom, and that memory stays lent in order where one process changes, begins, makes a child, runs another
-- program or ends.
pub mod LoanLemmas
pub mod PassLemmas
pub mod LifeLemmas
pub mod BirthLemmas
