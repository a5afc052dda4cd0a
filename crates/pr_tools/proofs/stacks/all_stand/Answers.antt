use Rattle.std.proofs.Common.{◌≡◌, ◌-◌, ℕ, sym, ap, ◌∙◌, arith}
use Rattle.pr_tools.specs.Stacks.{all_stand}
use Rattle.pr_tools.proofs.StackLemmas.{all_stand-none, all_stand-not, all_stand-on}
use Rattle.pr_tools.proofs.stacks.all_stand.Goals as goal

pub returns-then-not-stands_in : goal.returns-then-not-stands_in
returns-then-not-stands_in c =
    sym (c.loop-left.invariant
    ∙ all_stand-not c.loop-left.left c.loop-left.rest.now (omega arith)
    (sym c.stands_in.ensures ∙ c.if-not-stands_in.true))

pub loop-left-preserved : goal.loop-left-preserved
loop-left-preserved c =
    c.loop-left.invariant
    ∙ all_stand-on c.loop-left.left c.loop-left.rest.now (omega arith)
    (sym c.stands_in.ensures ∙ c.if-not-stands_in.false)
    ∙ ap (all_stand (c.loop-left.left - 1)) (sym c.behind-rest.ensures)

pub returns : goal.returns
returns c =
    let none : c.loop-left.left ≡ 0 = omega arith in
    sym (c.loop-left.invariant ∙ ap (λ (k : ℕ). all_stand k c.loop-left.rest.now) none
    ∙ all_stand-none c.loop-left.rest.now)
