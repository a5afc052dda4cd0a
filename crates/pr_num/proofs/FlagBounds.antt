use Rattle.std.proofs.Common.{ℕ, ◌≡◌, ◌≢◌, ◌∙◌, sym, ap, ◌-◌, ◌^◌, ◌%◌, ◌<◌, arith, cond, Some, None, inl, inr}
use Rattle.std.proofs.lemmas.Bool.{cases_lt, le-ltb}
use Rattle.std.proofs.Math.Nat.{mod-eq_of_lt}
use Rattle.std.proofs.lemmas.Nat.{and_mask, mod_below, pow_pos}
use Rattle.std.specs.Int.RustNames.{bit_and}
use Rattle.pr_num.specs.Sets.{set_of_word}

-- ---- a word has known flags alone exactly where it is below the lowest bit that is none

pub known-lt : (k w : ℕ) → bit_and w (2 ^ k - 1) ≡ w → w < 2 ^ k
known-lt k w known =
    let low : w ≡ w % 2 ^ k = sym known ∙ and_mask w k in
    let below = mod_below w (2 ^ k) (pow_pos k) in
    omega (arith, low, below)

pub lt-known : (k w : ℕ) → w < 2 ^ k → bit_and w (2 ^ k - 1) ≡ w
lt-known k w within = and_mask w k ∙ mod-eq_of_lt within

-- the word of unknown flags is none
pub unknown-none : (k known w : ℕ) → known ≡ 2 ^ k - 1 → (bit_and w known ≢ w) → set_of_word k w ≡ None
unknown-none k known w lowest other =
    elim (cases_lt w (2 ^ k)) [
      | inl below ↦ absurd (other (rw lowest (lt-known k w below)))
      | inr above ↦ ap (λ b. cond b (Some w) None) (le-ltb w (2 ^ k) above)
    ]
