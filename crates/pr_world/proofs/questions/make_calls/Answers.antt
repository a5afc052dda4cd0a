use Rattle.std.proofs.Common.{◌≡◌, ◌∙◌, sym, ap, arith}
use Rattle.pr_world.proofs.CallerLemmas.{cores-same, made-all, made-next}
use Rattle.pr_world.specs.Callers.{CallerState}
use Rattle.pr_world.proofs.questions.make_calls.Goals as goal

pub returns-in_err-make_next-clause-cores : goal.returns-in_err-make_next-clause-cores
returns-in_err-make_next-clause-cores c =
    let stays = c.make_next.ensures.core ∙ ap (λ (y : CallerState). y.core) (sym c.caller-item.is) in
    cores-same c.loop-caller.callers c.loop-caller.caller-index c.caller-item.result c.make_next.new.self
    c.caller-item.is stays
    ∙ c.loop-caller.invariant.cores

pub loop-caller-preserved : goal.loop-caller-preserved
loop-caller-preserved c =
    let stays = c.make_next.ensures.core ∙ ap (λ (y : CallerState). y.core) (sym c.caller-item.is) in
    record {
      cores =
          cores-same c.loop-caller.callers c.loop-caller.caller-index c.caller-item.result c.make_next.new.self
          c.caller-item.is stays
          ∙ c.loop-caller.invariant.cores;
      made =
          made-next c.loop-caller.callers c.loop-caller.caller-index c.make_next.new.self
          (omega (arith, c.loop-caller-test.true))
          c.loop-caller.invariant.made c.in_ok-make_next.ensures.made;
    }

pub returns-clause-made : goal.returns-clause-made
returns-clause-made c =
    made-all c.loop-caller.callers c.loop-caller.caller-index
    (omega (arith, c.loop-caller-test.false)) c.loop-caller.invariant.made
