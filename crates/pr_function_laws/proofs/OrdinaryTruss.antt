-- That truss with calls of functions is, without its breakpoints, a truss: its replies, calls and exchanges, its files,
-- what it shows and what it prints.
pub mod HandledLaws
pub mod OrdinaryCalls
pub mod OrdinaryEntries
pub mod OrdinaryExchanges
pub mod OrdinaryFiles
pub mod OrdinaryLaws
pub mod OrdinaryLines
pub mod OrdinaryPatches
pub mod OrdinaryPolls
pub mod OrdinaryReplies
pub mod OrdinaryRows
pub mod OrdinaryShown
pub mod OrdinaryStops
pub mod RefusalLaws
