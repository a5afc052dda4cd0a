use Rattle.pr_function_laws.proofs.NextCalls.KindLemmas.{event-kinds}
use Rattle.pr_function_laws.proofs.kinds.what_each_event_is_to_breakpoints.Goals as goal

pub returns : goal.returns
returns c = event-kinds
