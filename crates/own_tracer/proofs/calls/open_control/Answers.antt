use Rattle.std.proofs.Common.{refl}
use Rattle.own_tracer.proofs.GoingLemmas.{ready-at-once}
use Rattle.own_tracer.specs.Calls.{open_call}
use Rattle.own_tracer.proofs.calls.open_control.Goals as goal

pub ask-requires-clause-ready : goal.ask-requires-clause-ready
ask-requires-clause-ready g c =
    ready-at-once (g.Q.Kernel.view c.args.kern.now) c.requires.told (open_call c.args.pid) refl
