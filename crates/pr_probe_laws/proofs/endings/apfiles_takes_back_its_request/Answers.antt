use Rattle.pr_model.specs.FirstState.{first_state}
use Rattle.pr_probe_laws.proofs.Ending.TakesBack.{probe-takes-back}
use Rattle.pr_probe_laws.proofs.endings.apfiles_takes_back_its_request.Goals as goal
use Rattle.pr_reached.proofs.Together.FirstRanges.{first-stays}

pub returns : goal.returns
returns c = record {
  later = probe-takes-back;
  first = λ programs files spawns controllers n k pid h p first run ends ended.
      probe-takes-back controllers n k pid (first_state programs files spawns) h p
      (first-stays programs files spawns h first) run ends ended;
}
