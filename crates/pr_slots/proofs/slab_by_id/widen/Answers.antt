use Rattle.std.proofs.Common.{◌≡◌, ◌+◌, ◌≤◌, [], ◌∷◌, None, length, ap, ◌∙◌, arith}
use Rattle.std.proofs.lemmas.List.{length-append}
use Rattle.slab.specs.Slab.{entries_from}
use Rattle.pr_slots.proofs.PairLemmas.{entries-wider}
use Rattle.pr_slots.proofs.slab_by_id.widen.Goals as goal

pub loop-slots-preserved : goal.loop-slots-preserved
loop-slots-preserved g c =
    let slots = c.loop-slots.slots in
    let wide = c.in_ok-add_place.ensures.ok in
    let longer : length c.add_place.new.self ≡ length slots + 1 = ap length wide ∙ length-append slots (None ∷ []) in
    let short : length slots ≤ c.args.id = omega arith in
    (ap (entries_from 0) wide ∙ entries-wider slots ∙ c.loop-slots.invariant.0, λ limit. omega arith)
