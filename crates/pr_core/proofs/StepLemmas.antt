-- Steps of a reading of which each gave something.
use Rattle.std.proofs.Common.{◌≡◌, ◌∙◌, ℕ, Result, Ok, Err, refl, sym, ap}
use Rattle.pr_text.specs.Steps.{◌>>=◌}

-- what a first step gave, where all gave something
pub record Gave {A B E : Type 0} (step : Result A E) (rest : A → Result B E) (y : B) : Type 0 where
  pub first : A
  pub step_is : step ≡ Ok first
  pub rest_is : rest first ≡ Ok y

pub gave : {A B E : Type 0} (step : Result A E) (rest : A → Result B E) (y : B) → (step >>= rest) ≡ Ok y
    → Gave step rest y
gave (Ok x) rest y is = record { first = x; step_is = refl; rest_is = is }
gave (Err fault) rest y is = absurd cc

-- what a step gave of a number is what it gives of the same number
pub given_of : {A E : Type 0} (step : ℕ → Result A E) (m n : ℕ) (r : Result A E) → m ≡ n → r ≡ step m → step n ≡ r
given_of step m n r same is = sym (is ∙ ap step same)
