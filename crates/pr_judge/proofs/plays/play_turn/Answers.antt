use Rattle.std.proofs.Common.{◌∙◌, sym}
use Rattle.pr_judge.proofs.PlayLemmas.{not-movable, turned-so}
use Rattle.pr_judge.proofs.plays.play_turn.Goals as goal

pub returns-then-not-lwp_movable : goal.returns-then-not-lwp_movable
returns-then-not-lwp_movable g c =
    not-movable c.args.controllers _ (g.Q.Kernel.view c.args.kernel.now)
    (g.met.Q.Kernel.lawful c.args.kernel.now) c.args.pid c.args.lwp c.args.turned
    (sym c.lwp_movable.ensures ∙ c.if-not-lwp_movable.true)

pub returns : goal.returns
returns g c =
    turned-so c.args.controllers (g.Q.Kernel.view c.args.kernel.now)
    (g.Q.Kernel.view c.lwp_turn.new.self) c.args.pid c.args.lwp c.in_ok-lwp_turn.field-0 c.args.turned
    c.in_ok-lwp_turn.ensures.ok
    c.same_turn.result c.same_turn.ensures.same c.same_turn.ensures.differ
