use Rattle.own_tracer.specs.Running.{InHand}
use Rattle.own_tracer.proofs.running.run_beside.Given as goal

-- the process is held after so many rounds, and there is room to leave it
abbrev pub invariant-loop : goal.invariant-loop
invariant-loop g l =
    InHand l.fn.grip l.counter l.fn.faults l.faults
    (record { kernel = g.Q.Kernel.view l.fn.kern; last = l.fn.programs.last })
    (record { kernel = g.Q.Kernel.view l.kern; last = l.programs.last })
