use Rattle.std.proofs.Common.{◌<◌, ◌≡◌, ◌∙◌, ap, sym, refl, length, arith, Some}
use Rattle.std.specs.List.{slice_get}
use Rattle.std.proofs.lemmas.Option.{slice_get_read}
use Rattle.pr_num.specs.ById.{place_from}
use Rattle.pr_num.proofs.ByIdLemmas.{under-past, under-passed, id_at-slice_get}
use Rattle.pr_num.proofs.by_id.place_of.Goals as goal

pub returns-then-place-items-clause-none : goal.returns-then-place-items-clause-none
returns-then-place-items-clause-none g c = under-past c.args.id c.args.items.now c.requires (omega arith)

pub returns-then-entry-id-clause-some : goal.returns-then-entry-id-clause-some
returns-then-entry-id-clause-some g c =
    let es = c.args.items.now in
    let within : c.place_from-place.result < length es = omega arith in
    let here = slice_get_read es _ _ _ (refl {a = length es}) within c.index-items-place.is in
    id_at-slice_get es _ _ here ∙ ap Some c.if-entry-id.true

pub returns-else-entry-id-clause-none : goal.returns-else-entry-id-clause-none
returns-else-entry-id-clause-none g c =
    let es = c.args.items.now in
    let within : c.place_from-place.result < length es = omega arith in
    let here = slice_get_read es _ _ _ (refl {a = length es}) within c.index-items-place.is in
    let there : slice_get es (place_from c.args.id es) ≡ Some c.index-items-place.result =
    ap (slice_get es) (sym c.place_from-place.ensures.place) ∙ here in
    under-passed c.args.id es _ c.requires there c.if-entry-id.false
