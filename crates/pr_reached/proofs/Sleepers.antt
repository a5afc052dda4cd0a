-- That no lwp is asleep in a fork, a vfork or an exec: in the first state, and after each turn and each message.
pub mod SleptHistories
pub mod SleptTurns
