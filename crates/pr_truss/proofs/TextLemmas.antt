-- Bytes at the front of the places of a text.
use Rattle.std.proofs.Common.{◌≡◌, ℕ, ◌+◌, ◌-◌, ◌≤◌, List, ◌++◌, length, take, drop, replicate, min, ap, arith, ◌∙◌, sym}
use Rattle.std.proofs.Math.Nat.{min-le_left}
use Rattle.std.proofs.lemmas.List.{length-append, drop-replicate, length-replicate, length-take, take_min}
use Rattle.pr_num.specs.Limits.{asked_limit}
use Rattle.pr_num.specs.Padding.{padded}
use Rattle.pr_truss.specs.Texts.{IsText}
use Rattle.pr_num.proofs.ListLemmas.{take-front}

-- bytes written over the front of zeros are a text
pub lies_in_front : (s : List ℕ) → length s ≤ asked_limit
    → IsText (s ++ drop (length s) (replicate asked_limit 0)) (length s)
lies_in_front s fits = record {
  fits = fits;
  whole = length-append s _ ∙ ap (λ m. length s + length m) (drop-replicate (length s) asked_limit 0)
      ∙ ap (λ m. length s + m) (length-replicate (asked_limit - length s) 0) ∙ omega arith;
  front = ap (padded asked_limit) (take-front s _) ∙ ap (λ zs. s ++ zs) (sym (drop-replicate (length s) asked_limit 0));
}

-- the front of a list, as much as a text can have
pub front_fits : (xs : List ℕ) (m : ℕ) → m ≡ min asked_limit (length xs) → length (take m xs) ≤ asked_limit
front_fits xs m is = omega (arith, is, length-take m xs, min-le_left m (length xs), min-le_left asked_limit (length xs))

-- is what is shown where it was written
pub front_shown : (xs zs : List ℕ) (m : ℕ) → m ≡ min asked_limit (length xs)
    → take (length (take m xs)) (take m xs ++ zs) ≡ take asked_limit xs
front_shown xs zs m is = take-front (take m xs) zs ∙ ap (λ k. take k xs) is ∙ take_min asked_limit xs
