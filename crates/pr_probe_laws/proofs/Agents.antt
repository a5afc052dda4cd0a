-- A process with an agent, what each turn of the agent makes of it, and how the agent ends.
pub mod AgentCalls
pub mod AgentEntries
pub mod AgentGone
pub mod AgentMemory
pub mod AgentMoves
pub mod AgentRows
pub mod AgentTurns
pub mod DeathLemmas
pub mod LeavingRows
