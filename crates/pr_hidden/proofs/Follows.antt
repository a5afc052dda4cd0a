-- What programs see of the entries of a history of those who hide, and that each leaves what is hidden in order.
pub mod CallFollows
pub mod FaultRows
pub mod FirstLemmas
pub mod FollowLemmas
pub mod HistoryFollows
pub mod MessageFollows
pub mod OrderLemmas
pub mod QuietLemmas
pub mod ReplacedLemmas
pub mod RunFollows
pub mod TurnFollows
