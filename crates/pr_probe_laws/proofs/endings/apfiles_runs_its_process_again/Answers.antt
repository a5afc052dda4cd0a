use Rattle.pr_model.specs.FirstState.{first_state}
use Rattle.pr_probe_laws.proofs.Ending.RunAgainLaw.{runs-at-last}
use Rattle.pr_probe_laws.proofs.endings.apfiles_runs_its_process_again.Goals as goal
use Rattle.pr_reached.proofs.Together.FirstRanges.{first-stays}

pub returns : goal.returns
returns c = record {
  later = runs-at-last;
  first = λ programs files spawns controllers n k pid h p first run ends ended accepted.
      runs-at-last controllers n k pid (first_state programs files spawns) h p
      (first-stays programs files spawns h first) run ends ended accepted;
}
