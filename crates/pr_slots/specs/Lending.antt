use Rattle.std.specs.Prelude.{ℕ, List, Option, Some, slice_set}
use Rattle.std.specs.Borrow.{Lends, MutBor, Fml, RattleType}
use Rattle.pr_slots.specs.contracts.slots.Slots.{the_row}

-- the places end with the thing of this number as it was left behind r
module _ (T : RattleType) (s : MutBor (List (Option T.Denot))) where
  abbrev pub lends_thing : ℕ → MutBor T.Denot → Fml
  lends_thing number r = Lends (the_row T) T s r (λ w. slice_set s.now number (Some w))
