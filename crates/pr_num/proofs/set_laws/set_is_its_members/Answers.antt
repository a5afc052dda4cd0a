use Rattle.pr_num.proofs.SetLemmas.{same_set}
use Rattle.pr_num.proofs.set_laws.set_is_its_members.Goals as goal

pub returns : goal.returns
returns c = same_set
