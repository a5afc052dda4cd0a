use Rattle.pr_model.specs.FirstState.{first_state}
use Rattle.pr_probe_laws.proofs.Sets.SetLaw.{sets-back}
use Rattle.pr_probe_laws.proofs.sets_back.apfiles_sets_the_traced_sets_back.Goals as goal
use Rattle.pr_reached.proofs.Together.FirstRanges.{first-stays}

pub returns : goal.returns
returns c = record {
  later = sets-back;
  first = λ programs files spawns controllers n k pid h p first run ends ended accepted.
      sets-back controllers n k pid (first_state programs files spawns) h p
      (first-stays programs files spawns h first) run ends ended accepted;
}
