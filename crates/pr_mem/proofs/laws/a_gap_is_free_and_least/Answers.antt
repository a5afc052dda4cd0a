use Rattle.pr_mem.proofs.LawLemmas.{gap_in-all, gap_in-least}
use Rattle.pr_mem.proofs.laws.a_gap_is_free_and_least.Goals as goal

pub returns : goal.returns
returns c = record { found = gap_in-least; none = gap_in-all }
