use Rattle.pr_world.proofs.RunLemmas.{moves-counted}
use Rattle.pr_world.proofs.laws.each_move_is_an_entry.Goals as goal

pub returns : goal.returns
returns c = moves-counted
