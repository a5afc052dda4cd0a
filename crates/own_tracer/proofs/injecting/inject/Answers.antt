use Rattle.std.proofs.Common.{◌∙◌, ap, subst, sym}
use Rattle.pr_api.specs.Steps.{IsCalled}
use Rattle.own_tracer.proofs.GoingLemmas.{goes-nowhere}
use Rattle.own_tracer.proofs.RunLemmas.{inject-goes, injects}
use Rattle.own_tracer.specs.Orders.{order_call}
use Rattle.own_tracer.specs.Stances.{Holds}
use Rattle.own_tracer.proofs.injecting.inject.Goals as goal

pub returns-then-not-ready-clause-goes : goal.returns-then-not-ready-clause-goes
returns-then-not-ready-clause-goes g c =
    goes-nowhere (Holds c.args.grip) (g.Q.Kernel.view c.args.kern.now) c.requires.stands

pub returns-clause-goes : goal.returns-clause-goes
returns-clause-goes g c =
    let view = g.Q.Kernel.view in
    let one =
    subst (λ call. IsCalled 0 call (view c.args.kern.now) (view c.ask.new.kern)) c.in_ok-poll.ensures
    c.in_ok-ask.ensures.called in
    inject-goes c.args.grip c.order.result (view c.args.kern.now) (view c.ask.new.kern) (view c.send.new.kern)
    (g.met.Q.Kernel.lawful c.ask.new.kern) (g.met.Q.Kernel.lawful c.send.new.kern) c.requires.stands one
    c.in_ok-taken.ensures.called

pub returns-clause-injects : goal.returns-clause-injects
returns-clause-injects g c =
    let view = g.Q.Kernel.view in
    let one =
    subst (λ call. IsCalled 0 call (view c.args.kern.now) (view c.ask.new.kern)) c.in_ok-poll.ensures
    c.in_ok-ask.ensures.called in
    let two =
    subst (λ order. IsCalled 0 (order_call c.args.grip.control order) (view c.ask.new.kern) (view c.send.new.kern))
    c.order.ensures c.in_ok-taken.ensures.called in
    injects c.args.grip.control c.args.faults.now c.count.new.self (view c.args.kern.now) (view c.ask.new.kern)
    (view c.send.new.kern) one two c.in_ok-taken.taken c.in_ok-taken.ensures.taken c.count.ensures

pub returns-then-not-ready-clause-ready : goal.returns-then-not-ready-clause-ready
returns-then-not-ready-clause-ready g c =
    let kernel = g.Q.Kernel.view c.args.kern.now in
    sym c.if-not-ready.true ∙ c.ready.ensures ∙ ap (kernel.is_ready 0) c.in_ok-poll.ensures

pub returns-clause-ready : goal.returns-clause-ready
returns-clause-ready g c =
    let kernel = g.Q.Kernel.view c.args.kern.now in
    sym c.if-not-ready.false ∙ c.ready.ensures ∙ ap (kernel.is_ready 0) c.in_ok-poll.ensures
