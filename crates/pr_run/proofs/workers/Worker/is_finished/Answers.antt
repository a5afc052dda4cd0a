use Rattle.pr_world.specs.Worlds.{seen}
use Rattle.pr_run.proofs.ManyLemmas.{controller-finished, processor-moves_on}
use Rattle.pr_run.proofs.workers.Worker.is_finished.Goals as goal

pub returns-then-self : goal.returns-then-self
returns-then-self g c =
    processor-moves_on (seen g.Q.Kernel.view c.args.world.now) c.args.self.processors c.args.self.number c.if-self.true

pub returns : goal.returns
returns g c =
    controller-finished c.is_finished.result
    (seen g.Q.Kernel.view c.args.world.now) c.args.self.processors c.args.self.number c.if-self.false
    c.requires.number c.is_finished.ensures
