use Rattle.std.specs.Prelude.{◌≡◌, ◌==◌, ℕ, ◌-◌, ◌≤◌, Bool, List, ◌++◌, length, take, replicate}
use Rattle.std.proofs.Common.{ap, arith, ◌∙◌}
use Rattle.std.proofs.lemmas.List.{length-take-le}
use Rattle.pr_num.specs.Limits.{name_limit}

-- whether a byte ends a text
abbrev pub is_zero : ℕ → Bool
is_zero b = b == 0

-- bytes, and zeros up to n bytes in all
abbrev pub padded : ℕ → List ℕ → List ℕ
padded n bytes = bytes ++ replicate (n - length bytes) 0

-- how the bytes of a name lie in as many as a name can have: at the front, with zeros behind them
pub record IsName (bytes : List ℕ) (len : ℕ) : Type 0 where
  pub some : 1 ≤ len
  pub fits : len ≤ name_limit
  pub whole : length bytes ≡ name_limit
  pub front : padded name_limit (take len bytes) ≡ bytes

-- the bytes of a name, and their number, are what its fields show
pub length-front : (bytes : List ℕ) (len : ℕ) → IsName bytes len → length (take len bytes) ≡ len
length-front bytes len h = length-take-le len bytes (omega arith)

-- whatever is made of both is made of what is shown
pub name_back : {X : Type 0} (bytes : List ℕ) (len : ℕ) → IsName bytes len → (f : List ℕ → ℕ → X)
    → f (padded name_limit (take len bytes)) (length (take len bytes)) ≡ f bytes len
name_back bytes len h f = ap (λ bs. f bs (length (take len bytes))) h.front ∙ ap (f bytes) (length-front bytes len h)
