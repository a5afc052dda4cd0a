use Rattle.own_tracer.specs.Going.{Goes}
use Rattle.own_tracer.specs.Rounds.{MovesFor}
use Rattle.own_tracer.specs.Stances.{HoldsNothing}
use Rattle.own_tracer.proofs.running.run_alone.Given as goal

-- the programs went on by so many moves
abbrev pub invariant-loop : goal.invariant-loop
invariant-loop g l =
    Goes HoldsNothing (g.Q.Kernel.view l.fn.kern) (g.Q.Kernel.view l.kern)
    × MovesFor l.counter (record { kernel = g.Q.Kernel.view l.fn.kern; last = l.fn.programs.last })
    (record { kernel = g.Q.Kernel.view l.kern; last = l.programs.last })
