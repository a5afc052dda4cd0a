-- That pstack prints the stacks of one state.
pub mod StackCalls
pub mod StackEnds
pub mod StackHalts
pub mod StackLaw
pub mod StackReads
pub mod StackStages
pub mod StackSteps
pub mod StackTexts
pub mod StackWalks
pub mod StackWords
