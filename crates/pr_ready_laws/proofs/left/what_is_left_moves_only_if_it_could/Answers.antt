use Rattle.pr_ready_laws.proofs.MoveLemmas.{moves-before}
use Rattle.pr_ready_laws.proofs.left.what_is_left_moves_only_if_it_could.Goals as goal

pub returns : goal.returns
returns c = λ pid id files clock s u h can. moves-before pid files clock s u h id can
