use Rattle.pr_core_laws.proofs.OneState.GcoreLaw.{shows-one-core}
use Rattle.pr_core_laws.proofs.snapshots.gcore_shows_one_state.Goals as goal
use Rattle.pr_model.specs.FirstState.{first_state}
use Rattle.pr_reached.proofs.Together.FirstRanges.{first-stays}

pub returns : goal.returns
returns c = record {
  later = shows-one-core;
  first = λ programs files spawns controllers n k pid h g first run ends ended accepted.
      shows-one-core controllers n k pid (first_state programs files spawns) h g
      (first-stays programs files spawns h first) run ends ended accepted;
}
