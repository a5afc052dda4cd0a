use Rattle.std.specs.Prelude.{◌≡◌, ◌≤◌, ℕ, [], ◌∷◌, Option, Some, None}
use Rattle.pr_num.specs.Layout.{break_limit, heap_base}
use Rattle.pr_num.specs.Spaces.{Space}
use Rattle.pr_num.specs.declared.errnos.Errno.{Errno}
use Rattle.pr_parts.specs.AddressSpaces.{with_break}
use Rattle.pr_mem.specs.Answers.{break_refusal}
use Rattle.pr_model.specs.Changes.{Effect, fails, gives, space_is}

-- Where brk(2) moves the break.

-- the effect of a brk that is not refused, or is
abbrev pub break_meant : Space → ℕ → Option Errno → Effect
break_meant space end None = gives 0 (space_is (with_break end space) ∷ [])
break_meant space end (Some e) = fails e

-- the break can come to an address, and the space stays within its limit
pub record CanStand (space : Space) (end : ℕ) : Type 0 where
  pub least : heap_base ≤ end
  pub most : end ≤ break_limit
  pub room : break_refusal end space ≡ None
