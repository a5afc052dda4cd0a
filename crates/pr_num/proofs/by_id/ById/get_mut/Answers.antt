use Rattle.std.proofs.Common.{◌≡◌, ◌∙◌, Some, refl}
use Rattle.pr_num.specs.ById.{id_at, IsRising}
use Rattle.pr_num.proofs.ByIdLemmas.{put_at-id_at, under-thing_at}
use Rattle.pr_num.proofs.by_id.ById.get_mut.Goals as goal

pub returns : goal.returns
returns g c =
    let es = c.args.self.now in
    let at : id_at c.unwrap-place.result es ≡ Some c.args.id =
    rw (← c.self.view_is, ← c.deref.ensures.value) (rw c.unwrap-place.ensures at c.place_of.ensures.some) in
    let rises : IsRising es = rw (← c.self.view_is) c.self.invariant in (
      (refl, λ w. put_at-id_at 0 es _ c.args.id w rises at),
      record {
        writes_back = tt;
        value = under-thing_at 0 es _ c.args.id rises at ∙ c.at_mut.ensures.value;
      },
    )
