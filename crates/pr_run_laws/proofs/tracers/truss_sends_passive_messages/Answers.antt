use Rattle.pr_run_laws.proofs.PassiveControllers.PassiveLemmas.{truss-passive}
use Rattle.pr_run_laws.proofs.tracers.truss_sends_passive_messages.Goals as goal

pub returns : goal.returns
returns c = truss-passive
