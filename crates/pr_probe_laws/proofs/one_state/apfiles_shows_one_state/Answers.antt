use Rattle.pr_model.specs.FirstState.{first_state}
use Rattle.pr_probe_laws.proofs.OneState.TextLaw.{shows-one}
use Rattle.pr_probe_laws.proofs.one_state.apfiles_shows_one_state.Goals as goal
use Rattle.pr_reached.proofs.Together.ReachedLemmas.{first-reached}

pub returns : goal.returns
returns c = record {
  later = shows-one;
  first = λ programs files spawns controllers n k pid h p first run ends ended accepted.
      shows-one controllers n k pid (first_state programs files spawns) h p
      (first-reached programs files spawns first.start first.in_range) first.bytes run ends ended accepted;
}
