use Rattle.std.proofs.Common.{refl}
use Rattle.pr_turn.proofs.TurnLemmas.{makes-used}
use Rattle.pr_turn.proofs.turns.turn_in_call.Goals as goal

pub settle_under-requires : goal.settle_under-requires
settle_under-requires c = makes-used _ _ _ _ _ _ _ c.in_ok-made.ensures.ok c.requires.room

pub returns-clause-ok : goal.returns-clause-ok
returns-clause-ok c = record {
  did = c.in_ok-made.made;
  stop = c.in_ok-made.stop;
  after = c.perform_next.new.sys;
  makes = c.in_ok-made.ensures.ok;
  settled = c.settle_under.ensures;
  told = refl;
}
