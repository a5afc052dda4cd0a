use Rattle.std.proofs.Common.{◌≡◌, ℕ, zero, suc, ◌+◌, ◌-◌, ◌≤◌, List, [], ◌∷◌, ◌++◌, eqb, false, length, take, drop, replicate, refl, sym, ◌∙◌, ap, arith, inl, inr}
use Rattle.std.proofs.lemmas.Bool.{cases_lt}
use Rattle.std.proofs.lemmas.List.{append-nil, take-append-le, take-replicate, drop-replicate, drop_all, take_all, take_at}
use Rattle.pr_parts.specs.FileTransfers.{after_write, written_over}

-- What is written into the middle of a string of bytes.

take-append-ge : {X : Type 0} (n : ℕ) (xs ys : List X) → length xs ≤ n
    → take n (xs ++ ys) ≡ xs ++ take (n - length xs) ys
take-append-ge n [] ys past = let same : n ≡ n - 0 = omega arith in ap (λ m. take m ys) same
take-append-ge zero (x ∷ xs) ys past = absurd (omega arith)
take-append-ge (suc n) (x ∷ xs) ys past =
    let same : n - length xs ≡ suc n - length (x ∷ xs) = omega arith in
    ap (λ zs. x ∷ zs) (take-append-ge n xs ys (omega arith)) ∙ ap (λ m. (x ∷ xs) ++ take m ys) same

drop-append-ge : {X : Type 0} (n : ℕ) (xs ys : List X) → length xs ≤ n → drop n (xs ++ ys) ≡ drop (n - length xs) ys
drop-append-ge n [] ys past = let same : n ≡ n - 0 = omega arith in ap (λ m. drop m ys) same
drop-append-ge zero (x ∷ xs) ys past = absurd (omega arith)
drop-append-ge (suc n) (x ∷ xs) ys past =
    let same : n - length xs ≡ suc n - length (x ∷ xs) = omega arith in
    drop-append-ge n xs ys (omega arith) ∙ ap (λ m. drop m ys) same

-- bytes with zeros behind them, up to the end of what is written at an offset
abbrev pub grown : List ℕ → ℕ → List ℕ
grown bytes end = bytes ++ replicate (end - length bytes) 0

take-grown : (bytes : List ℕ) (offset end : ℕ) → offset ≤ end
    → take offset (grown bytes end) ≡ take offset bytes ++ replicate (offset - length bytes) 0
take-grown bytes offset end within =
    elim (cases_lt (length bytes) offset) [
      | inl past ↦ take-append-ge offset bytes (replicate (end - length bytes) 0) (omega arith)
          ∙ (let zeros = take-replicate {X = ℕ} (offset - length bytes) (end - length bytes) 0 (omega arith) in
          let all = take_all offset bytes (omega arith) in rw (zeros, all) refl)
      | inr inside ↦
          (let none : offset - length bytes ≡ 0 = omega arith in
          let front = take-append-le offset bytes (replicate (end - length bytes) 0) inside in
          rw (front, none) (sym (append-nil (take offset bytes))))
    ]

drop-grown : (bytes : List ℕ) (end : ℕ) → drop end (grown bytes end) ≡ drop end bytes
drop-grown bytes end =
    elim (cases_lt (length bytes) end) [
      | inl past ↦ drop-append-ge end bytes (replicate (end - length bytes) 0) (omega arith)
          ∙ drop-replicate {X = ℕ} (end - length bytes) (end - length bytes) 0
          ∙ (let none : (end - length bytes) - (end - length bytes) ≡ 0 = omega arith in
          let gone = drop_all end bytes (omega arith) in rw (none, gone) refl)
      | inr inside ↦ (let none : end - length bytes ≡ 0 = omega arith in rw none (ap (drop end) (append-nil bytes)))
    ]

pub written_over-grown : (bytes others : List ℕ) (offset : ℕ)
    → take offset (grown bytes (offset + length others)) ++ others
    ++ drop (offset + length others) (grown bytes (offset + length others)) ≡ written_over bytes offset others
written_over-grown bytes others offset =
    let front = take-grown bytes offset (offset + length others) (omega arith) in
    let back = drop-grown bytes (offset + length others) in
    rw (front, back) refl

-- a vector that was grown, whose bytes were then written over as a slice
pub after_write-grown : (bytes others slice pasted vector : List ℕ) (offset len : ℕ) → eqb (length others) 0 ≡ false
    → slice ≡ grown bytes (offset + length others)
    → pasted ≡ take offset slice ++ others ++ drop (offset + length others) slice → length pasted ≡ len
    → take len (pasted ++ drop (length pasted) vector) ≡ after_write bytes offset others
after_write-grown bytes others slice pasted vector offset len some grew wrote same =
    rw (take_at pasted (drop (length pasted) vector) len same, some, wrote, grew)
    (written_over-grown bytes others offset)
