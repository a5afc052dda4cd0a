use Rattle.pr_run_laws.proofs.PassiveControllers.PassiveLemmas.{tool-passive}
use Rattle.pr_run_laws.proofs.tracers.tools_send_passive_messages.Goals as goal

pub returns : goal.returns
returns c = tool-passive
