use Rattle.pr_run_laws.proofs.KeptRuns.KeptLemmas.{came-kept, run-kept}
use Rattle.pr_run_laws.proofs.laws.histories_of_runs_are_kept.Goals as goal

pub returns : goal.returns
returns c = record { any_order = came-kept; one_thread = run-kept }
