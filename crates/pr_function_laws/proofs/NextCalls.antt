-- Which calls of truss come next, where it has read a status, where it opens or leaves a process, and how soon it runs
-- one that a poll named.
pub mod BreakpointCallLemmas
pub mod ComingLemmas
pub mod EventCalls
pub mod KindLemmas
pub mod LastLooks
pub mod LookReads
pub mod LookReplies
pub mod MarkedFlags
pub mod PatchCalls
pub mod PlainFlags
pub mod PlantedLaws
pub mod RefusedOpenings
pub mod SoonLemmas
pub mod SoonNamed
pub mod SteadyReplies
pub mod ToPlant
pub mod TracedWords
pub mod TreatedLaws
