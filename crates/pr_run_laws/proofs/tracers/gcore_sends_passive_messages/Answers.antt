use Rattle.pr_run_laws.proofs.PassiveControllers.PassiveLemmas.{gcore-passive}
use Rattle.pr_run_laws.proofs.tracers.gcore_sends_passive_messages.Goals as goal

pub returns : goal.returns
returns c = gcore-passive
