use Rattle.pr_function_laws.proofs.CallTurns.CalledLaws.{calls-are-turns}
use Rattle.pr_function_laws.proofs.called.in_each_history_calls_are_turns.Goals as goal

pub returns : goal.returns
returns c = calls-are-turns
