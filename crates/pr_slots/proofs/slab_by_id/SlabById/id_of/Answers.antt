use Rattle.std.proofs.Common.{◌≤◌, None, is_some, length, sym, ap, ◌∙◌, arith}
use Rattle.std.proofs.lemmas.List.{get_or_past}
use Rattle.pr_slots.proofs.PairLemmas.{under_seen}
use Rattle.pr_slots.proofs.slab_by_id.SlabById.id_of.Goals as goal

pub returns-then-number-places-clause-some : goal.returns-then-number-places-clause-some
returns-then-number-places-clause-some g c =
    let slots = c.self.inside.slots in
    let past : length slots ≤ c.args.number = omega arith in
    ap is_some
    (sym (under_seen slots c.args.self.now c.self.view_is c.args.number
    ∙ get_or_past slots c.args.number None past))
