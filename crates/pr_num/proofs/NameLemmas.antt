use Rattle.std.proofs.Common.{ℕ, ◌+◌, ◌-◌, ◌≤◌, List, ◌++◌, length, drop, replicate, ap, arith, ◌∙◌, sym}
use Rattle.std.proofs.lemmas.List.{length-append, drop-replicate, length-replicate}
use Rattle.pr_num.specs.Padding.{padded, IsName}
use Rattle.pr_num.proofs.ListLemmas.{take-front}

-- bytes written over the front of 31 zeros are a name
pub named : (s : List ℕ) → 1 ≤ length s → length s ≤ 31 → IsName (s ++ drop (length s) (replicate 31 0)) (length s)
named s some fits = record {
  some = some;
  fits = fits;
  whole = length-append s _ ∙ ap (λ m. length s + length m) (drop-replicate (length s) 31 0)
      ∙ ap (λ m. length s + m) (length-replicate (31 - length s) 0) ∙ omega arith;
  front = ap (padded 31) (take-front s _) ∙ ap (λ zs. s ++ zs) (sym (drop-replicate (length s) 31 0));
}
