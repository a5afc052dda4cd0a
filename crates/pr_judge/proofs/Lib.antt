pub mod FirstLemmas
pub mod HearingLemmas
pub mod JudgementLemmas
pub mod PlayLemmas
pub mod ReplyLemmas
pub mod TryLemmas
pub mod TurnLemmas
