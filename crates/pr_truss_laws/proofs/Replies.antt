-- What a reply makes of truss, whatever the machine is: the nine kinds of steps, its files, its reports and its
-- options.
pub mod AnswerLemmas
pub mod ExchangeLemmas
pub mod FedLemmas
pub mod FedSteps
pub mod FitLemmas
pub mod FunctionOptionLemmas
pub mod GoneLemmas
pub mod OptionLemmas
pub mod ReplySteps
pub mod TracedChanges
