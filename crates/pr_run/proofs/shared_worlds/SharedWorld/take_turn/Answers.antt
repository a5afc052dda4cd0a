use Rattle.std.proofs.Common.{sym, subst}
use Rattle.pr_world.specs.Runs.{CameFrom}
use Rattle.pr_world.specs.Worlds.{seen}
use Rattle.pr_run.proofs.ManyLemmas.{made-turn, over-stays, turn-came}
use Rattle.pr_run.proofs.shared_worlds.SharedWorld.take_turn.Goals as goal

pub returns-in-Ok-clause-turn : goal.returns-in-Ok-clause-turn
returns-in-Ok-clause-turn g c =
    made-turn c.args.worker.processors c.args.worker.number c.args.last.now c.make_turn.new.last
    (seen g.Q.Kernel.view c.args.self.now.world)
    (seen g.Q.Kernel.view c.make_turn.new.world) c.in-Ok.progress c.in-Ok.ensures.ok

pub returns-in-Ok-clause-came : goal.returns-in-Ok-clause-came
returns-in-Ok-clause-came g c = λ first came.
    let w = c.args.self.now.world in
    let v = c.make_turn.new.world in
    let turn =
    made-turn c.args.worker.processors c.args.worker.number c.args.last.now c.make_turn.new.last
    (seen g.Q.Kernel.view w) (seen g.Q.Kernel.view v) c.in-Ok.progress c.in-Ok.ensures.ok in
    turn-came c.args.worker.processors c.args.worker.number c.args.last.now c.make_turn.new.last
    (seen g.Q.Kernel.view w) (seen g.Q.Kernel.view v) first (g.met.Q.Kernel.lawful w.kernel) came turn

pub returns-in-Ok-clause-stays : goal.returns-in-Ok-clause-stays
returns-in-Ok-clause-stays g c =
    let w = c.args.self.now.world in
    let v = c.make_turn.new.world in
    over-stays c.args.worker.processors c.args.worker.number c.args.last.now c.make_turn.new.last
    (seen g.Q.Kernel.view w) (seen g.Q.Kernel.view v) c.in-Ok.progress c.args.self.now.refusal w.made v.made
    (g.met.Q.Kernel.lawful w.kernel) c.in-Ok.ensures.ok c.in-Ok.ensures.asked

pub returns-in-Err-clause-came : goal.returns-in-Err-clause-came
returns-in-Err-clause-came g c = λ first came. subst (CameFrom first) (sym c.in-Err.ensures.err) came
