-- That each state of a legal history from a fit state is fit: a line a message, a call of a controller, a change and
-- a row of the turn table.
pub mod CalmLemmas
pub mod FitChangeLemmas
pub mod FitHistoryLemmas
pub mod FitLemmas
pub mod FitMessageLemmas
pub mod FitRowLemmas
pub mod FitSignalLemmas
pub mod FitTurnLemmas
