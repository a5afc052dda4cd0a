use Rattle.pr_num.proofs.SetLemmas.{has_flags-one}
use Rattle.pr_num.proofs.set_laws.flags_are_members.Goals as goal

pub returns : goal.returns
returns c = has_flags-one
