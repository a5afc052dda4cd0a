use Rattle.std.proofs.Common.{is_some, ap, sym, ◌∙◌, rules, arith}
use Rattle.pr_proc.proofs.LoanLemmas.{shown-gone, shown-next, shown-own, shown-past}
use Rattle.pr_proc.proofs.systems.seen.Goals as goal

-- it has lent nothing
pub returns-in_default : goal.returns-in_default
returns-in_default c = sym (shown-own c.args.sys.now _ _ _ (ap is_some c.in_default.is)) ∙ c.loop.invariant

-- its borrower is gone
pub returns-in_default-get : goal.returns-in_default-get
returns-in_default-get c =
    c.empty_space.ensures
    ∙ sym (shown-gone c.args.sys.now _ _ _ c.loop.shown.now.space _ c.loop-test.true c.in-Some.is
    (search (rules, c.get.ensures, c.in_default-get.is)))
    ∙ c.loop.invariant

-- its borrower is the next
pub loop-preserved : goal.loop-preserved
loop-preserved c =
    sym (shown-next c.args.sys.now _ _ _ c.loop.shown.now.space _ c.in-Some-get.next.now c.loop-test.true c.in-Some.is
    (search (rules, c.get.ensures, c.in-Some-get.is)))
    ∙ c.loop.invariant

-- as many were followed as can be
pub returns-then-is_some : goal.returns-then-is_some
returns-then-is_some c =
    c.empty_space-then-is_some.ensures
    ∙ sym (shown-past c.args.sys.now c.args.sys.now.made c.loop.counter _ c.loop.shown.now.space (omega arith)
    (sym c.is_some.ensures ∙ c.if-is_some.true))
    ∙ c.loop.invariant

pub returns : goal.returns
returns c = sym (shown-own c.args.sys.now _ _ _ (sym c.is_some.ensures ∙ c.if-is_some.false)) ∙ c.loop.invariant
