use Rattle.std.specs.Prelude.{ℕ, List, Option}
use Rattle.std.specs.Borrow.{Lends, LendsIf, MutBor, Fml, RattleType}
use Rattle.pr_num.specs.ById.{put_at, put_under}
use Rattle.pr_num.specs.contracts.by_id.ById.{the_row}

-- the list ends with one thing as it was left behind r
module _ (T : RattleType) (s : MutBor (List (ℕ × T.Denot))) where
  abbrev pub lends_at : ℕ → MutBor T.Denot → Fml
  lends_at i r = Lends (the_row T) T s r (λ w. put_at i w s.now)

  abbrev pub lends_under : ℕ → MutBor T.Denot → Fml
  lends_under id r = Lends (the_row T) T s r (λ w. put_under id w s.now)

  -- the list stays where there is none
  abbrev pub lends_found : ℕ → Option (MutBor T.Denot) → Fml
  lends_found id r = LendsIf (the_row T) T s r (λ w. put_under id w s.now) s.now
