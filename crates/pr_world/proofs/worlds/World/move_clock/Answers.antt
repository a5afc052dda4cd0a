use Rattle.pr_world.proofs.MoveLemmas.{clock-early, clock-moved}
use Rattle.pr_world.proofs.worlds.World.move_clock.Goals as goal

pub tick-requires-clause-clock : goal.tick-requires-clause-clock
tick-requires-clause-clock g c =
    clock-early g.Q.Kernel.view g.met.Q.Kernel.lawful c.args.self.now _ c.self.view_is c.requires.acts

pub returns-clause-moves : goal.returns-clause-moves
returns-clause-moves g c =
    clock-moved g.Q.Kernel.view g.met.Q.Kernel.lawful c.args.self.now _ c.self.view_is c.tick.new.self c.requires.acts
    c.tick.ensures
