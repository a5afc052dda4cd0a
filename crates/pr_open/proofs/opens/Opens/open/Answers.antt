use Rattle.std.proofs.Common.{is_none, sym, ap, ◌∙◌}
use Rattle.std.specs.List.{position}
use Rattle.pr_open.specs.Opening.{or_full}
use Rattle.pr_open.proofs.PlaceLemmas.{busy, no_conflict}
use Rattle.pr_open.proofs.opens.Opens.open.Goals as goal

pub returns-then-conflicts-clause-answer : goal.returns-then-conflicts-clause-answer
returns-then-conflicts-clause-answer c =
    busy c.args.self.now c.args.h (sym c.conflicts.ensures ∙ c.if-conflicts.true)

pub returns-in_default-clause-answer : goal.returns-in_default-clause-answer
returns-in_default-clause-answer c =
    ap or_full (sym c.in_default.is)
    ∙ no_conflict c.args.self.now c.args.h _ (sym c.conflicts.ensures ∙ c.if-conflicts.false)
    (c.least_free.ensures.least ∙ ap (position is_none) c.self.view_is)

pub returns-clause-answer : goal.returns-clause-answer
returns-clause-answer c =
    ap or_full (sym c.in-Some.is)
    ∙ no_conflict c.args.self.now c.args.h _ (sym c.conflicts.ensures ∙ c.if-conflicts.false)
    (c.least_free.ensures.least ∙ ap (position is_none) c.self.view_is)
