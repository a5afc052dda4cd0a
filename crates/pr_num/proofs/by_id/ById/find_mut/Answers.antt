use Rattle.std.proofs.Common.{◌≡◌, ◌∙◌, Some, sym, inl}
use Rattle.pr_num.specs.ById.{id_at, IsRising}
use Rattle.pr_num.proofs.ByIdLemmas.{put_at-id_at, under-thing_at}
use Rattle.pr_num.proofs.by_id.ById.find_mut.Goals as goal

pub returns : goal.returns
returns g c =
    let es = c.args.self.now in
    let at : id_at c.in_ok-place.place es ≡ Some c.args.id =
    rw (← c.self.view_is, ← c.deref.ensures.value) c.in_ok-place.ensures.some in
    let rises : IsRising es = rw (← c.self.view_is) c.self.invariant in (
      (λ i. inl (c.at_mut.result.ghost_name, λ w. put_at-id_at 0 es _ c.args.id w rises at i)),
      record {
        writes_back = tt;
        value = sym (under-thing_at 0 es _ c.args.id rises at ∙ c.at_mut.ensures.value);
      },
    )
