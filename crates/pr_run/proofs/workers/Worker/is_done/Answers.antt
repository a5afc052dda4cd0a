use Rattle.std.proofs.Common.{◌∙◌}
use Rattle.pr_world.specs.Worlds.{seen}
use Rattle.pr_run.proofs.ManyLemmas.{ended-done, finished-done}
use Rattle.pr_run.proofs.workers.Worker.is_done.Goals as goal

pub returns-then-is_finished : goal.returns-then-is_finished
returns-then-is_finished g c =
    finished-done
    (seen g.Q.Kernel.view c.args.world.now) c.args.self.processors c.args.self.number c.is_finished.result
    c.is_finished.ensures c.if-is_finished.true

pub returns : goal.returns
returns g c =
    c.is_some.ensures
    ∙ ended-done
    (seen g.Q.Kernel.view c.args.world.now) c.args.self.processors c.args.self.number c.is_finished.result
    c.end.result c.is_finished.ensures c.if-is_finished.false c.end.ensures
