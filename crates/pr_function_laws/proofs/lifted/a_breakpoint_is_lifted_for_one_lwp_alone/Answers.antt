use Rattle.pr_function_laws.proofs.Stepping.BreakpointLemmas.{breakpoint-stops}
use Rattle.pr_function_laws.proofs.lifted.a_breakpoint_is_lifted_for_one_lwp_alone.Goals as goal

pub returns : goal.returns
returns c = breakpoint-stops
