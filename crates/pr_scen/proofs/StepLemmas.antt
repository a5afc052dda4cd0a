-- What holds of all that steps give which may be refused.
use Rattle.std.proofs.Common.{◌≡◌, ℕ, ◌+◌, Bool, true, false, cond, Option, Some, None, List, [], ◌∷◌, Result, Ok, Err, refl, sym}
use Rattle.std.specs.Option.{IfSome}
use Rattle.std.specs.Result.{IfOk}
use Rattle.pr_text.specs.Steps.{◌>>=◌, ok_or, folded}
use Rattle.pr_scen.specs.Blocks.{numbered}
use Rattle.pr_scen.specs.declared.refusals.ScenKind.{ScenKind}

-- of what is given: where one of two answers is chosen, where a step follows another, and where steps follow one
-- another
pub if_ok : {A E : Type 0} (P : A → Type 0) (b : Bool) (r s : Result A E) → (b ≡ true → IfOk r P)
    → (b ≡ false → IfOk s P) → IfOk (cond b r s) P
if_ok P true r s f g = f refl
if_ok P false r s f g = g refl

pub then_ok : {A B E : Type 0} (P : A → Type 0) (r : Result B E) (f : B → Result A E)
    → ((x : B) → r ≡ Ok x → IfOk (f x) P) → IfOk (r >>= f) P
then_ok P (Ok x) f g = g x refl
then_ok P (Err e) f g = tt

pub of_ok : {A E : Type 0} (P : A → Type 0) (r : Result A E) (x : A) → r ≡ Ok x → IfOk r P → P x
of_ok P (Ok y) x e p = let same : y ≡ x = cc in rw (sym same) p
of_ok P (Err k) x e p = cc

pub numbered_ok : {A : Type 0} (P : A → Type 0) (n : ℕ) (r : Result A ScenKind) → IfOk r P → IfOk (numbered n r) P
numbered_ok P n (Ok x) p = p
numbered_ok P n (Err k) p = tt

pub folded_ok : {D L E : Type 0} (P : D → Type 0) (step : ℕ → D → L → Result D E)
    → ((n : ℕ) (d : D) (x : L) → P d → IfOk (step n d x) P) → (n : ℕ) (d : D) (xs : List L) → P d
    → IfOk (folded step n d xs) P
unfolding folded
folded_ok P step keeps n d [] p = p
folded_ok P step keeps n d (x ∷ xs) p =
    then_ok P (step n d x) (λ e. folded step (n + 1) e xs)
    (λ e is. folded_ok P step keeps (n + 1) e xs (of_ok P (step n d x) e is (keeps n d x p)))

-- what there is
pub ok_some : {A E : Type 0} (e : E) (o : Option A) (x : A) → ok_or e o ≡ Ok x → o ≡ Some x
ok_some e None x h = cc
ok_some e (Some y) x h = cc

pub of_some : {A : Type 0} (P : A → Type 0) (o : Option A) (x : A) → o ≡ Some x → IfSome o P → P x
of_some P None x e p = cc
of_some P (Some y) x e p = let same : y ≡ x = cc in rw (sym same) p
