use Rattle.std.proofs.Common.{arith}
use Rattle.own_tracer.proofs.GoingLemmas.{goes-nowhere, keeps-itself, tick-goes}
use Rattle.own_tracer.proofs.RoundLemmas.{clock-goes, clock-stays, no-sleeper}
use Rattle.own_tracer.specs.Stances.{Keeps}
use Rattle.own_tracer.proofs.programs.tick.Goals as goal

pub returns-then-not-sleeper-clause-goes : goal.returns-then-not-sleeper-clause-goes
returns-then-not-sleeper-clause-goes g c =
    let kernel = g.Q.Kernel.view c.args.kern.now in
    goes-nowhere (Keeps kernel) kernel (keeps-itself kernel c.requires.stands)

pub returns-then-clock-lt-CLOCK_LIMIT-clause-goes : goal.returns-then-clock-lt-CLOCK_LIMIT-clause-goes
returns-then-clock-lt-CLOCK_LIMIT-clause-goes g c =
    let view = g.Q.Kernel.view in
    tick-goes (view c.args.kern.now) (view c.tick.new.self) (g.met.Q.Kernel.lawful c.tick.new.self) c.requires.stands
    (omega (arith, c.clock-clock.ensures.value, c.if-clock-lt-CLOCK_LIMIT.true)) c.tick.ensures

pub returns-clause-goes : goal.returns-clause-goes
returns-clause-goes g c =
    let kernel = g.Q.Kernel.view c.args.kern.now in
    goes-nowhere (Keeps kernel) kernel (keeps-itself kernel c.requires.stands)

pub returns-then-not-sleeper-clause-can : goal.returns-then-not-sleeper-clause-can
returns-then-not-sleeper-clause-can g c =
    no-sleeper (g.Q.Kernel.view c.args.kern.now) c.sleeper.result c.sleeper.ensures c.if-not-sleeper.true

pub returns-then-clock-lt-CLOCK_LIMIT-clause-can : goal.returns-then-clock-lt-CLOCK_LIMIT-clause-can
returns-then-clock-lt-CLOCK_LIMIT-clause-can g c =
    clock-goes (g.Q.Kernel.view c.args.kern.now) c.sleeper.result c.sleeper.ensures c.if-not-sleeper.false
    (omega (arith, c.clock-clock.ensures.value, c.if-clock-lt-CLOCK_LIMIT.true))

pub returns-clause-can : goal.returns-clause-can
returns-clause-can g c =
    clock-stays (g.Q.Kernel.view c.args.kern.now) c.sleeper.result c.sleeper.ensures c.if-not-sleeper.false
    (omega (arith, c.clock-clock.ensures.value, c.if-clock-lt-CLOCK_LIMIT.false))
