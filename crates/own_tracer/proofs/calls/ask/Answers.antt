use Rattle.pr_api.specs.Steps.{IsCalled}
use Rattle.own_tracer.proofs.GoingLemmas.{call-told, on-ok}
use Rattle.own_tracer.proofs.calls.ask.Goals as goal

pub returns-clause-told : goal.returns-clause-told
returns-clause-told g c =
    let view = g.Q.Kernel.view in
    on-ok c.call.result (IsCalled 0 c.args.call (view c.args.kern.now) (view c.call.new.self)) _
    (λ called told. call-told c.args.call (view c.args.kern.now) (view c.call.new.self) called told
    (g.met.Q.Kernel.lawful c.call.new.self)) c.call.ensures.ok
