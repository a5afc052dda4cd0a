pub mod CountLemmas
pub mod ForkLemmas
pub mod FunctionLemmas
pub mod RecordLemmas
pub mod StopLemmas
pub mod TextLemmas
