use Rattle.pr_function_laws.proofs.NextCalls.BreakpointCallLemmas.{breakpoint-calls}
use Rattle.pr_function_laws.proofs.messages.what_truss_reads_plants_and_lifts.Goals as goal

pub returns : goal.returns
returns c = breakpoint-calls
