use Rattle.pr_tool_laws.proofs.AnswerLemmas.{reply-passive}
use Rattle.pr_run_laws.proofs.tracers.calls_that_send_passive_messages_are_passive.Goals as goal

pub returns : goal.returns
returns c = reply-passive
