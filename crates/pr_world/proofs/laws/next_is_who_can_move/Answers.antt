use Rattle.pr_world.proofs.RestLemmas.{all-rest, next-acts}
use Rattle.pr_world.proofs.laws.next_is_who_can_move.Goals as goal

pub returns : goal.returns
returns c = record { next = next-acts; nobody = all-rest }
