use Rattle.pr_probe_laws.proofs.Hiding.HiddenLaw.{alone-gone}
use Rattle.pr_probe_laws.proofs.hidden.apfiles_waits_until_its_agent_has_ended.Goals as goal

pub returns : goal.returns
returns c = λ n who controllers s h reached unstepped run. alone-gone n who controllers s h reached run unstepped
