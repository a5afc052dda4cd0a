use Rattle.std.proofs.Common.{refl}
use Rattle.pr_api.specs.Steps.{IsCalled}
use Rattle.pr_model.specs.declared.calls.Call.TheVariants.{Close}
use Rattle.own_tracer.proofs.GoingLemmas.{on-ok, ready-at-once}
use Rattle.own_tracer.proofs.LeavingLemmas.{leave-goes}
use Rattle.own_tracer.proofs.RoundLemmas.{leaves-by}
use Rattle.own_tracer.proofs.leaving.leave.Goals as goal

pub ask-requires-clause-ready : goal.ask-requires-clause-ready
ask-requires-clause-ready g c =
    ready-at-once (g.Q.Kernel.view c.send-2.new.kern) c.in_ok-send-2.ensures.told (Close c.args.grip.control) refl

pub returns-clause-goes : goal.returns-clause-goes
returns-clause-goes g c =
    let view = g.Q.Kernel.view in
    on-ok c.ask.result (IsCalled 0 (Close c.args.grip.control) (view c.send-2.new.kern) (view c.ask.new.kern)) _
    (λ three. leave-goes c.args.grip (view c.args.kern.now) (view c.send.new.kern) (view c.send-2.new.kern)
    (view c.ask.new.kern) (g.met.Q.Kernel.lawful c.send.new.kern) (g.met.Q.Kernel.lawful c.send-2.new.kern)
    (g.met.Q.Kernel.lawful c.ask.new.kern) c.requires.stands c.in_ok-send.ensures.called c.in_ok-send-2.ensures.called
    three) c.ask.ensures.called

pub returns-clause-leaves : goal.returns-clause-leaves
returns-clause-leaves g c =
    let view = g.Q.Kernel.view in
    on-ok c.ask.result (IsCalled 0 (Close c.args.grip.control) (view c.send-2.new.kern) (view c.ask.new.kern)) _
    (λ three. leaves-by c.args.grip.control (view c.args.kern.now) (view c.send.new.kern) (view c.send-2.new.kern)
    (view c.ask.new.kern) c.in_ok-send.ensures.called c.in_ok-send-2.ensures.called three) c.ask.ensures.called
