use Rattle.std.proofs.Common.{◌∙◌, sym, subst, arith}
use Rattle.pr_api.specs.Steps.{IsCalled}
use Rattle.pr_judge.proofs.PlayLemmas.{called-so, no-controller, not-ready}
use Rattle.pr_model.specs.declared.calls.Call.{Call}
use Rattle.pr_judge.proofs.plays.play_call.Goals as goal

pub returns-then-by-controllers : goal.returns-then-by-controllers
returns-then-by-controllers g c =
    no-controller c.args.controllers (g.Q.Kernel.view c.args.kernel.now)
    (g.Q.Kernel.view c.args.kernel.now) c.args.by c.args.call.now c.args.reply.now
    (omega (arith, c.if-by-controllers.true))

pub returns-then-not-ready : goal.returns-then-not-ready
returns-then-not-ready g c =
    not-ready c.args.controllers (g.Q.Kernel.view c.args.kernel.now) (g.Q.Kernel.view c.args.kernel.now)
    (g.met.Q.Kernel.lawful c.args.kernel.now) c.args.by c.args.call.now c.args.reply.now
    (sym c.ready.ensures ∙ c.if-not-ready.true)

pub returns : goal.returns
returns g c =
    called-so c.args.controllers (g.Q.Kernel.view c.args.kernel.now)
    (g.Q.Kernel.view c.call.new.self) c.args.by c.args.call.now c.args.reply.now
    (subst (λ (x : Call). IsCalled c.args.by x (g.Q.Kernel.view c.args.kernel.now) (g.Q.Kernel.view c.call.new.self))
    c.in_ok-copy.ensures c.in_ok-call.ensures.ok)
    (omega (arith, c.if-by-controllers.false)) c.has_replied.result c.has_replied.ensures.same
    c.has_replied.ensures.differ
