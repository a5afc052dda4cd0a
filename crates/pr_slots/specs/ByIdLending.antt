use Rattle.std.specs.Prelude.{ℕ, List}
use Rattle.std.specs.Borrow.{Lends, MutBor, Fml, RattleType}
use Rattle.pr_num.specs.ById.{put_under}
use Rattle.pr_slots.specs.contracts.slab_by_id.SlabById.{the_row}

-- the list ends with the thing under this id as it was left behind r
module _ (T : RattleType) (s : MutBor (List (ℕ × T.Denot))) where
  abbrev pub lends_under : ℕ → MutBor T.Denot → Fml
  lends_under id r = Lends (the_row T) T s r (λ w. put_under id w s.now)
