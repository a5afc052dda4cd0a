-- Steps that may be refused, and operands of the right number. Each is for any kind of refusal.
use Rattle.std.specs.Prelude.{◌+◌, ℕ, List, [], ◌∷◌, Result, Ok, Err, Option, None, Some}

-- what follows a step that may be refused
infixl 10 ◌>>=◌
abbrev pub ◌>>=◌ : {A B E : Type 0} → Result A E → (A → Result B E) → Result B E
(Ok x) >>= f = f x
(Err e) >>= f = Err e

-- what there is, or else a refusal
abbrev pub ok_or : {A E : Type 0} → E → Option A → Result A E
ok_or e None = Err e
ok_or e (Some x) = Ok x

-- operands of the right number; another number is refused
abbrev pub none : {E : Type 0} → E → List (List ℕ) → Result (Unit {0}) E
none e [] = Ok tt
none e _ = Err e

abbrev pub one : {E : Type 0} → E → List (List ℕ) → Result (List ℕ) E
one e (a ∷ []) = Ok a
one e _ = Err e

abbrev pub two : {E : Type 0} → E → List (List ℕ) → Result (List ℕ × List ℕ) E
two e (a ∷ b ∷ []) = Ok (a, b)
two e _ = Err e

abbrev pub three : {E : Type 0} → E → List (List ℕ) → Result (List ℕ × List ℕ × List ℕ) E
three e (a ∷ b ∷ c ∷ []) = Ok (a, b, c)
three e _ = Err e

abbrev pub four : {E : Type 0} → E → List (List ℕ) → Result (List ℕ × List ℕ × List ℕ × List ℕ) E
four e (a ∷ b ∷ c ∷ d ∷ []) = Ok (a, b, c, d)
four e _ = Err e

-- an operand and those after it
abbrev pub some : {E : Type 0} → E → List (List ℕ) → Result (List ℕ × List (List ℕ)) E
some e [] = Err e
some e (a ∷ others) = Ok (a, others)

-- What a list makes of a start, an element after another, each with its number, or the first refusal.
unfoldable pub folded : {D L E : Type 0} → (ℕ → D → L → Result D E) → ℕ → D → List L → Result D E
folded step n d [] = Ok d
folded step n d (x ∷ xs) = step n d x >>= λ e. folded step (n + 1) e xs
