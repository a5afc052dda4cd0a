use Rattle.pr_function_laws.proofs.CallTurns.ToldLaws.{tells-turns}
use Rattle.pr_function_laws.proofs.told.in_each_history_only_turns_are_told.Goals as goal

pub returns : goal.returns
returns c = tells-turns
