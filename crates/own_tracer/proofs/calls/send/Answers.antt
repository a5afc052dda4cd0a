use Rattle.std.proofs.Common.{◌∙◌, ap, refl}
use Rattle.own_tracer.proofs.GoingLemmas.{ready-at-once}
use Rattle.own_tracer.specs.Orders.{order_call}
use Rattle.own_tracer.proofs.calls.send.Goals as goal

pub ask-requires-clause-ready : goal.ask-requires-clause-ready
ask-requires-clause-ready g c =
    let kernel = g.Q.Kernel.view c.args.kern.now in
    ap (λ x. kernel.is_ready 0 x) c.in_ok-order_call.ensures
    ∙ ready-at-once kernel c.requires.told (order_call c.args.control c.args.order) refl
