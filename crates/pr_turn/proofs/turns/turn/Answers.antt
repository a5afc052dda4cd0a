use Rattle.pr_turn.proofs.SettleLemmas.{turned-used}
use Rattle.pr_turn.proofs.turns.turn.Goals as goal

pub returns-clause-used : goal.returns-clause-used
returns-clause-used c n h =
    turned-used c.args.sys.now c.make_turn.new.sys c.args.pid c.args.lwp c.in_ok-turned.turned c.in_ok-turned.ensures.ok
    n h
