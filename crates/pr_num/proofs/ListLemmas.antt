use Rattle.std.proofs.Common.{◌≡◌, ℕ, zero, suc, ◌+◌, ◌*◌, Some, None, List, [], ◌∷◌, ◌++◌, length, take, drop, refl, ap, ◌∙◌, add-one, arith, true}
use Rattle.std.proofs.lemmas.List.{length-append, take-append-le, take_all}
use Rattle.std.proofs.lemmas.Option.{none-some, same_Some}
use Rattle.std.specs.List.{flat_map, slice_get}
use Rattle.pr_num.specs.Instructions.{instruction_bytes}
use Rattle.pr_num.specs.Words.{word_bytes}
use Rattle.pr_num.specs.declared.instructions.Instruction.{Instruction}
use Rattle.std.specs.Str.{bytes_eq}
use Rattle.std.proofs.lemmas.Slice.Eq.{bytes_eq-Decides}

-- A list cut at one of its places, for walks by index.

-- from a place on: what stands there, and the others
pub drop-at : {X : Type 0} (xs : List X) (i : ℕ) (x : X) → slice_get xs i ≡ Some x → drop i xs ≡ x ∷ drop (i + 1) xs
drop-at [] i x e = absurd (none-some x e)
drop-at (y ∷ xs) zero x e = ap (λ z. z ∷ xs) (same_Some y x e)
drop-at (y ∷ xs) (suc i) x e =
    let step : suc (i + 1) ≡ suc i + 1 = omega arith in
    drop-at xs i x e ∙ ap (λ n. x ∷ drop n (y ∷ xs)) step

next : {X : Type 0} (i : ℕ) (xs : List X) (x : X) → slice_get xs i ≡ Some x → take (suc i) xs ≡ take i xs ++ x ∷ []
next i [] x is = cc
next zero (y ∷ ys) x is = ap (λ z. z ∷ []) (same_Some y x is)
next (suc i) (y ∷ ys) x is = ap (λ zs. y ∷ zs) (next i ys x is)

past : {X : Type 0} (i : ℕ) (xs : List X) → slice_get xs i ≡ None → take (suc i) xs ≡ take i xs
past zero [] is = refl
past (suc i) [] is = refl
past zero (x ∷ xs) is = cc
past (suc i) (x ∷ xs) is = ap (λ zs. x ∷ zs) (past i xs is)

-- what stands before the next place is one more where something stands at this place, and else as much
pub take-next : {X : Type 0} (i : ℕ) (xs : List X) (x : X) → slice_get xs i ≡ Some x
    → take (i + 1) xs ≡ take i xs ++ x ∷ []
take-next i xs x is = ap (λ k. take k xs) (add-one i) ∙ next i xs x is

pub take-past : {X : Type 0} (i : ℕ) (xs : List X) → slice_get xs i ≡ None → take (i + 1) xs ≡ take i xs
take-past i xs is = ap (λ k. take k xs) (add-one i) ∙ past i xs is

-- the front of what begins with a list
pub take-front : {X : Type 0} (xs ys : List X) → take (length xs) (xs ++ ys) ≡ xs
take-front xs ys = take-append-le (length xs) xs ys (omega arith) ∙ take_all (length xs) xs (omega arith)

-- ---- the text of a program

-- an instruction has 16 bytes
pub length-instruction : (i : Instruction) → length (instruction_bytes i) ≡ 16
unfolding word_bytes
length-instruction i = refl

pub length-text : (code : List Instruction) → length (flat_map instruction_bytes code) ≡ 16 * length code
length-text [] = refl
length-text (i ∷ code) =
    omega (
      arith,
      length-append (instruction_bytes i) (flat_map instruction_bytes code),
      length-instruction i,
      length-text code,
    )

-- ---- bytes

-- bytes are equal to themselves
pub bytes_eq-self : (bytes : List ℕ) → bytes_eq bytes bytes ≡ true
bytes_eq-self bytes = (bytes_eq-Decides bytes bytes).1 refl
