use Rattle.pr_probe_laws.proofs.Hiding.HiddenLaw.{alone-accepted}
use Rattle.pr_probe_laws.proofs.hidden.apfiles_is_refused_nothing_while_it_hides_something.Goals as goal

pub returns : goal.returns
returns c = λ n who controllers s h reached unstepped run. alone-accepted n who controllers s h reached run unstepped
