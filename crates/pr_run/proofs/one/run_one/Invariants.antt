use Rattle.std.proofs.Common.{◌-◌, length}
use Rattle.pr_world.specs.Runs.{RunsFor}
use Rattle.pr_world.specs.Worlds.{seen}
use Rattle.pr_run.proofs.one.run_one.Given as goal

-- so many steps were made
abbrev pub invariant-loop : goal.invariant-loop
invariant-loop g l =
    RunsFor (l.counter - length (g.Q.Kernel.view l.fn.world.kernel).history) (seen g.Q.Kernel.view l.fn.world)
    (seen g.Q.Kernel.view l.world)
