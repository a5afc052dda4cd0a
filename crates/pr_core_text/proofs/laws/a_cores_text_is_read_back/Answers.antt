use Rattle.pr_core_text.proofs.RoundLemmas.{read-back}
use Rattle.pr_core_text.proofs.laws.a_cores_text_is_read_back.Goals as goal

pub returns : goal.returns
returns c = read-back
