-- The bytes that were read of the memory of a process: at most `asked_limit`, which lie at the front of as many places.
use Rattle.std.specs.Prelude.{◌≡◌, ℕ, ◌≤◌, List, length, take}
use Rattle.std.proofs.Common.{ap, arith, ◌∙◌}
use Rattle.std.proofs.lemmas.List.{length-take-le}
use Rattle.pr_num.specs.Limits.{asked_limit}
use Rattle.pr_num.specs.Padding.{padded}

-- how they lie there: at the front, with zeros behind them
pub record IsText (bytes : List ℕ) (len : ℕ) : Type 0 where
  pub fits : len ≤ asked_limit
  pub whole : length bytes ≡ asked_limit
  pub front : padded asked_limit (take len bytes) ≡ bytes

-- whatever is made of the places and the number of bytes is made of what is shown
pub text_back : {X : Type 0} (bytes : List ℕ) (len : ℕ) → IsText bytes len → (f : List ℕ → ℕ → X)
    → f (padded asked_limit (take len bytes)) (length (take len bytes)) ≡ f bytes len
text_back bytes len h f =
    ap (λ bs. f bs (length (take len bytes))) h.front ∙ ap (f bytes) (length-take-le len bytes (omega arith))
