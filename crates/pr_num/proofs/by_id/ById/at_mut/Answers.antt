use Rattle.std.proofs.Common.{◌<◌, ◌∙◌, refl, length}
use Rattle.std.proofs.lemmas.Option.{slice_get_read}
use Rattle.pr_num.proofs.ByIdLemmas.{set-put_at, rises_from-put_at, thing_at-slice_get}
use Rattle.pr_num.proofs.by_id.ById.at_mut.Goals as goal

pub invariant_of-self-lent : goal.invariant_of-self-lent
invariant_of-self-lent g c =
    let es = c.self.inside.items.items in
    let within : c.args.place < length es = rw c.self.view_is c.requires in
    let here = slice_get_read es _ _ _ (refl {a = length es}) within c.index_mut.ensures.value in
    λ w. rw (set-put_at es _ _ w here) (rises_from-put_at 0 c.args.place w es ∙ c.self.invariant)

pub returns : goal.returns
returns g c =
    let es = c.self.inside.items.items in
    let within : c.args.place < length es = rw c.self.view_is c.requires in
    let here = slice_get_read es _ _ _ (refl {a = length es}) within c.index_mut.ensures.value in
    rw (← c.self.view_is) (
      (refl, λ w. set-put_at es _ _ w here),
      record {
        writes_back = tt;
        value = thing_at-slice_get es _ _ here;
      },
    )
