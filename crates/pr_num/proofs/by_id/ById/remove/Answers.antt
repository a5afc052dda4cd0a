use Rattle.std.proofs.Common.{◌<◌, ◌≡◌, ◌∙◌, Some, refl, length}
use Rattle.std.proofs.lemmas.Option.{slice_get_read}
use Rattle.pr_num.specs.ById.{id_at, without_id}
use Rattle.pr_num.proofs.ByIdLemmas.{under-id_at, remove-id_at, rises_from-without_id}
use Rattle.pr_num.proofs.by_id.ById.remove.Goals as goal

pub invariant_of-self : goal.invariant_of-self
invariant_of-self g c =
    let es = c.self.inside.items.items in
    let at : id_at c.unwrap-place.result es ≡ Some c.args.id =
    rw (← c.deref.ensures.value) (rw c.unwrap-place.ensures at c.place_of.ensures.some) in
    let within : c.unwrap-place.result < length es =
    rw (← c.deref.ensures.value) (rw c.unwrap-place.ensures at c.place_of.ensures.within) in
    let here = slice_get_read es _ _ _ (refl {a = length es}) within c.remove-thing.ensures.value in
    let new : c.remove-thing.new.self.items ≡ without_id c.args.id es =
    c.remove-thing.ensures.items ∙ remove-id_at es _ c.args.id _ c.self.invariant at here in
    rw new (rises_from-without_id 0 c.args.id es c.self.invariant)

pub returns-clause-value : goal.returns-clause-value
returns-clause-value g c =
    let es = c.self.inside.items.items in
    let at : id_at c.unwrap-place.result es ≡ Some c.args.id =
    rw (← c.deref.ensures.value) (rw c.unwrap-place.ensures at c.place_of.ensures.some) in
    let within : c.unwrap-place.result < length es =
    rw (← c.deref.ensures.value) (rw c.unwrap-place.ensures at c.place_of.ensures.within) in
    let here = slice_get_read es _ _ _ (refl {a = length es}) within c.remove-thing.ensures.value in
    rw (← c.self.view_is) (under-id_at es _ c.args.id _ c.self.invariant at here)

pub returns-clause-rest : goal.returns-clause-rest
returns-clause-rest g c =
    let es = c.self.inside.items.items in
    let at : id_at c.unwrap-place.result es ≡ Some c.args.id =
    rw (← c.deref.ensures.value) (rw c.unwrap-place.ensures at c.place_of.ensures.some) in
    let within : c.unwrap-place.result < length es =
    rw (← c.deref.ensures.value) (rw c.unwrap-place.ensures at c.place_of.ensures.within) in
    let here = slice_get_read es _ _ _ (refl {a = length es}) within c.remove-thing.ensures.value in
    rw (← c.self.view_is) (c.remove-thing.ensures.items ∙ remove-id_at es _ c.args.id _ c.self.invariant at here)
