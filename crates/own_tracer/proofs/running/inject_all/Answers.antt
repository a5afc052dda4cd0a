use Rattle.std.proofs.Common.{refl, arith, inl, inr}
use Rattle.own_tracer.proofs.GoingLemmas.{goes-nowhere}
use Rattle.own_tracer.proofs.RunLemmas.{attached-calls, attached-held, attached-left, attached-none, attached-pid, kept-calls}
use Rattle.own_tracer.specs.Stances.{HoldsNothing}
use Rattle.own_tracer.proofs.running.inject_all.Goals as goal

pub returns-then-places-entries-lt5-clause-goes : goal.returns-then-places-entries-lt5-clause-goes
returns-then-places-entries-lt5-clause-goes g c =
    goes-nowhere HoldsNothing (g.Q.Kernel.view c.args.kern.now) c.requires.stands

pub run_beside-requires-clause-stands : goal.run_beside-requires-clause-stands
run_beside-requires-clause-stands g c =
    let view = g.Q.Kernel.view in
    let held =
    attached-held c.in_ok-grip.field-0 c.in-Some.grip (view c.args.kern.now) (view c.attach.new.kern) c.in-Some.is
    c.in_ok-grip.ensures.goes in
    held.stands

pub returns-in_ok-run_beside-in-Some-clause-goes : goal.returns-in_ok-run_beside-in-Some-clause-goes
returns-in_ok-run_beside-in-Some-clause-goes g c =
    let view = g.Q.Kernel.view in
    let held =
    attached-held c.in_ok-grip.field-0 c.in-Some.grip (view c.args.kern.now) (view c.attach.new.kern) c.in-Some.is
    c.in_ok-grip.ensures.goes in
    attached-left c.args.pid c.in-Some.grip (view c.args.kern.now) (view c.attach.new.kern)
    (view c.run_beside.new.kern)
    (attached-pid c.in_ok-grip.field-0 c.in-Some.grip c.args.pid c.in-Some.is c.in_ok-grip.ensures.pid) held
    c.in_ok-run_beside-in-Some.ensures.goes

pub returns-in-None-clause-goes : goal.returns-in-None-clause-goes
returns-in-None-clause-goes g c =
    let view = g.Q.Kernel.view in
    attached-none c.in_ok-grip.field-0 (view c.args.kern.now) (view c.attach.new.kern) c.in-None.is
    c.in_ok-grip.ensures.goes

pub returns-then-places-entries-lt5-clause-out : goal.returns-then-places-entries-lt5-clause-out
returns-then-places-entries-lt5-clause-out g c =
    λ kept. record {
      why = inl (omega (arith, c.places.ensures, c.entries.ensures.value, c.if-places-entries-lt5.true), refl);
      last = refl;
    }

pub returns-in-None-clause-out : goal.returns-in-None-clause-out
returns-in-None-clause-out g c =
    let view = g.Q.Kernel.view in
    λ kept. record {
      why = inr (kept-calls c.in_ok-grip.field-0 c.args.pid (view c.args.kern.now).history
          (view c.attach.new.kern).history c.in-None.is c.in_ok-grip.ensures.calls);
      last = refl;
    }

pub returns-in_ok-run_beside-in-Some-clause-beside : goal.returns-in_ok-run_beside-in-Some-clause-beside
returns-in_ok-run_beside-in-Some-clause-beside g c =
    let view = g.Q.Kernel.view in
    λ is. record {
      grip = c.in-Some.grip;
      held = view c.attach.new.kern;
      gets = attached-calls c.in_ok-grip.field-0 c.args.pid (view c.args.kern.now).history
          (view c.attach.new.kern).history c.in-Some.grip c.in-Some.is c.in_ok-grip.ensures.calls;
      goes = attached-held c.in_ok-grip.field-0 c.in-Some.grip (view c.args.kern.now) (view c.attach.new.kern)
          c.in-Some.is c.in_ok-grip.ensures.goes;
      runs = c.in_ok-run_beside-in-Some.ensures.runs;
    }
