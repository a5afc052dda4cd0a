use Rattle.std.proofs.Common.{arith}
use Rattle.own_tracer.proofs.GoingLemmas.{goes-nowhere}
use Rattle.own_tracer.proofs.RoundLemmas.{alone-full, alone-stuck, moves-longer, moves-on, no-moves}
use Rattle.own_tracer.proofs.RunLemmas.{alone-on}
use Rattle.own_tracer.specs.Stances.{HoldsNothing}
use Rattle.own_tracer.proofs.running.run_alone.Goals as goal

pub loop-init : goal.loop-init
loop-init g c =
    let kernel = g.Q.Kernel.view c.args.kern.now in (
      goes-nowhere HoldsNothing kernel c.requires.stands,
      no-moves (record { kernel = kernel; last = c.args.programs.now.last }),
    )

-- the history is full
pub returns-then-entries-places-clause-goes : goal.returns-then-entries-places-clause-goes
returns-then-entries-places-clause-goes g c = c.loop.invariant.0

pub returns-then-entries-places-clause-runs : goal.returns-then-entries-places-clause-runs
returns-then-entries-places-clause-runs g c =
    alone-full c.loop.counter _ _ c.loop.invariant.1
    (omega (arith, c.entries.ensures.value, c.places.ensures, c.if-entries-places.true))

-- nobody can move
pub returns-then-not-branch-clause-goes : goal.returns-then-not-branch-clause-goes
returns-then-not-branch-clause-goes g c =
    let view = g.Q.Kernel.view in
    alone-on (view c.args.kern.now) (view c.loop.kern) (view c.advance.new.kern) c.loop.invariant.0
    c.in_ok-advance.ensures.goes

pub returns-then-not-branch-clause-runs : goal.returns-then-not-branch-clause-runs
returns-then-not-branch-clause-runs g c =
    alone-stuck c.loop.counter _ _ _ c.in_ok-advance.field-0 c.if-not-branch.true c.loop.invariant.1
    c.in_ok-advance.ensures.moves

pub loop-preserved : goal.loop-preserved
loop-preserved g c =
    let view = g.Q.Kernel.view in (
      alone-on (view c.args.kern.now) (view c.loop.kern) (view c.advance.new.kern) c.loop.invariant.0
          c.in_ok-advance.ensures.goes,
      moves-on c.loop.counter _ _ _ c.in_ok-advance.field-0 c.if-not-branch.false c.loop.invariant.1
          c.loop.invariant.0.stands.is c.in_ok-advance.ensures.moves,
    )

-- as many moves were made as there are places
pub returns-clause-goes : goal.returns-clause-goes
returns-clause-goes g c = c.loop.invariant.0

pub returns-clause-runs : goal.returns-clause-runs
returns-clause-runs g c =
    let view = g.Q.Kernel.view in
    alone-full c.loop.counter _ _ c.loop.invariant.1
    (omega (
      arith,
      c.places-end.ensures,
      c.loop-test.false,
      c.loop.invariant.0.places,
      moves-longer c.loop.counter _ _ c.loop.invariant.1,
    ))
