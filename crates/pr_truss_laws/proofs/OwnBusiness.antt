-- That truss does its own business, a file for each part of that.
pub mod BusinessCalls
pub mod BusinessLemmas
pub mod EndedLemmas
pub mod InterruptLemmas
pub mod KnownLemmas
pub mod LineLemmas
pub mod OpenTimes
pub mod PollsLemmas
pub mod RefusalLemmas
pub mod SentLemmas
pub mod WholeLemmas
