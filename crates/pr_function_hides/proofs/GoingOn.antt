-- What is known along a history of a truss that goes on: its next call, the processes that it acts on, and that which
-- it runs soon.
pub mod AwayCalls
pub mod CalmCalls
pub mod CalmSoon
pub mod KnownTrusses
pub mod OldStops
pub mod SentMessages
