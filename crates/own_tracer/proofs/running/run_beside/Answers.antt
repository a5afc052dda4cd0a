use Rattle.std.proofs.Common.{refl, arith}
use Rattle.own_tracer.proofs.GoingLemmas.{on-ok}
use Rattle.own_tracer.proofs.RunLemmas.{in-hand, in-hand-ends, in-hand-on, left-goes, left-runs}
use Rattle.own_tracer.specs.Going.{Goes}
use Rattle.own_tracer.specs.Rounds.{Leaves}
use Rattle.own_tracer.specs.Stances.{HasLeft}
use Rattle.own_tracer.proofs.running.run_beside.Goals as goal

pub loop-init : goal.loop-init
loop-init g c =
    in-hand c.args.grip c.args.faults
    (record { kernel = g.Q.Kernel.view c.args.kern.now; last = c.args.programs.now.last }) c.requires.stands
    c.requires.room

pub loop-preserved : goal.loop-preserved
loop-preserved g c =
    let view = g.Q.Kernel.view in
    in-hand-on c.args.grip c.loop.counter c.args.faults c.loop.faults c.round.new.faults
    (record { kernel = view c.args.kern.now; last = c.args.programs.now.last })
    (record { kernel = view c.loop.kern; last = c.loop.programs.last })
    (record { kernel = view c.round.new.kern; last = c.round.new.programs.last }) c.in_ok-round.field-0
    c.if-not-branch.false c.loop.invariant c.in_ok-round.ensures.goes c.in_ok-round.ensures.room
    c.in_ok-round.ensures.round

pub returns-then-not-branch-clause-goes : goal.returns-then-not-branch-clause-goes
returns-then-not-branch-clause-goes g c =
    let view = g.Q.Kernel.view in
    on-ok c.leave.result (Goes (HasLeft c.args.grip.pid) (view c.round.new.kern) (view c.leave.new.kern)) _
    (λ left. left-goes c.args.grip (view c.args.kern.now) (view c.loop.kern) (view c.round.new.kern)
    (view c.leave.new.kern) c.loop.invariant.goes c.in_ok-round.ensures.goes left) c.leave.ensures.goes

pub returns-then-not-branch-clause-runs : goal.returns-then-not-branch-clause-runs
returns-then-not-branch-clause-runs g c =
    let view = g.Q.Kernel.view in
    on-ok c.leave.result (Leaves c.args.grip.control (view c.round.new.kern).history (view c.leave.new.kern).history) _
    (λ left. left-runs c.args.grip c.loop.counter c.args.faults c.loop.faults c.round.new.faults
    (record { kernel = view c.args.kern.now; last = c.args.programs.now.last })
    (record { kernel = view c.loop.kern; last = c.loop.programs.last })
    (record { kernel = view c.round.new.kern; last = c.round.new.programs.last })
    (record { kernel = view c.leave.new.kern; last = c.round.new.programs.last }) c.in_ok-round.field-0
    c.if-not-branch.true c.loop.invariant.made c.in_ok-round.ensures.round left refl) c.leave.ensures.leaves

-- the loop does not come to its end
pub returns-clause-goes : goal.returns-clause-goes
returns-clause-goes g c =
    absurd
    (omega (
      arith,
      c.loop-test.false,
      c.places-end.ensures,
      in-hand-ends c.args.grip c.loop.counter c.args.faults c.loop.faults _ _ c.loop.invariant,
    ))

pub returns-clause-runs : goal.returns-clause-runs
returns-clause-runs g c =
    absurd
    (omega (
      arith,
      c.loop-test.false,
      c.places-end.ensures,
      in-hand-ends c.args.grip c.loop.counter c.args.faults c.loop.faults _ _ c.loop.invariant,
    ))
