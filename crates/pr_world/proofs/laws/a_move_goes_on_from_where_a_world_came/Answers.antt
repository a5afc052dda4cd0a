use Rattle.pr_world.proofs.RunLemmas.{came-first, came-on}
use Rattle.pr_world.proofs.laws.a_move_goes_on_from_where_a_world_came.Goals as goal

pub returns : goal.returns
returns c = record { first = came-first; next = came-on }
