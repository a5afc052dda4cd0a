use Rattle.pr_function_laws.proofs.Marks.ReturnLemmas.{planted-first}
use Rattle.pr_function_laws.proofs.returns.a_breakpoint_is_planted_again_first.Goals as goal

pub returns : goal.returns
returns c = planted-first
