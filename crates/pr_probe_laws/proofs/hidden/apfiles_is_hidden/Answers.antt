use Rattle.pr_hidden.proofs.Follows.FirstLemmas.{first-untouched}
use Rattle.pr_model.specs.FirstState.{first_state}
use Rattle.pr_probe_laws.proofs.Hiding.HiddenLaw.{alone-hidden, alone-spares, alone-tidy}
use Rattle.pr_probe_laws.proofs.hidden.apfiles_is_hidden.Goals as goal
use Rattle.pr_reached.proofs.Together.ReachedLemmas.{first-reached}

pub returns : goal.returns
returns c = record {
  tidy = λ n who controllers s h reached unstepped run. alone-tidy n who controllers s h reached run unstepped;
  spares = λ n who controllers s h reached unstepped run. alone-spares n who controllers s h reached run unstepped;
  later = λ n who controllers s h reached untouched run. alone-hidden n who controllers s h reached run untouched;
  first = λ programs files spawns n who controllers h start ranged run.
      alone-hidden n who controllers (first_state programs files spawns) h
      (first-reached programs files spawns start ranged) run (first-untouched programs files spawns);
}
