use Rattle.std.proofs.Common.{◌<◌, ◌≡◌, Some, refl, sym, length}
use Rattle.std.proofs.lemmas.Option.{slice_get_read}
use Rattle.pr_num.specs.ById.{id_at}
use Rattle.pr_num.proofs.ByIdLemmas.{under-id_at}
use Rattle.pr_num.proofs.by_id.ById.get_u64.Goals as goal

pub returns : goal.returns
returns g c =
    let es = c.self.inside.items.items in
    let at : id_at c.in_ok-place.place es ≡ Some c.args.id = rw (← c.deref.ensures.value) c.in_ok-place.ensures.some in
    let within : c.in_ok-place.place < length es = rw (← c.deref.ensures.value) c.in_ok-place.ensures.within in
    let here = slice_get_read es _ _ _ (refl {a = length es}) within c.index-entry.ensures in
    rw (← c.self.view_is) (sym (under-id_at es _ c.args.id _ c.self.invariant at here))
