use Rattle.std.proofs.Common.{None, get_or, sym, ap, ◌∙◌}
use Rattle.pr_open.proofs.PlaceLemmas.{own_handle}
use Rattle.pr_open.proofs.opens.Opens.get.Goals as goal

pub returns-clause-ok : goal.returns-clause-ok
returns-clause-ok c =
    own_handle c.args.self.now c.args.controller c.args.handle c.in-Some.h.now
    (ap (λ places. get_or places c.args.handle None) (sym c.self.view_is) ∙ sym c.in-Some.ensures)
    c.if-h-controller.false
