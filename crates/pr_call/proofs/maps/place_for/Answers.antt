use Rattle.std.proofs.Common.{sym, ◌∙◌}
use Rattle.pr_call.proofs.MapLemmas.{mmap-can}
use Rattle.pr_call.proofs.maps.place_for.Goals as goal

pub returns-then-can_grow-clause-fits : goal.returns-then-can_grow-clause-fits
returns-then-can_grow-clause-fits c =
    mmap-can c.args.sys.now c.args.process.now c.args.len c.args.prot c.in-Some.at _ c.rounded-size.ensures
    (sym c.are_bad.ensures.value ∙ c.if-are_bad.false) (sym c.in-Some.ensures)
    (sym c.can_grow.ensures ∙ c.if-can_grow.true)
