use Rattle.pr_run_laws.proofs.PassiveControllers.TracerLemmas.{tracers-passive}
use Rattle.pr_run_laws.proofs.tracers.histories_of_tracers_are_passive.Goals as goal

pub returns : goal.returns
returns c = tracers-passive
