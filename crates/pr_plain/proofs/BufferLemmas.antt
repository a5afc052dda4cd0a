-- Buffers to which text is appended.
use Rattle.std.proofs.Common.{◌≡◌, ℕ, List, [], ◌++◌, Result, Ok, Err, is_ok, cond, length, take, sym, ap, ◌∙◌, append_assoc}
use Rattle.std.proofs.Math.Seq.{take-append_seam}
use Rattle.std.proofs.lemmas.List.{append-nil}
use Rattle.pr_plain.specs.Buffers.{StartsWith}

pub StartsWith-refl : (xs : List ℕ) → StartsWith xs xs
StartsWith-refl xs = record { more = []; is = sym (append-nil xs) }

-- a buffer to which bytes were appended, or for which there was no memory
pub StartsWith-grown : {E : Type 0} (r : Result Unit E) (new old bytes : List ℕ)
    → new ≡ cond (is_ok r) (old ++ bytes) old → StartsWith new old
StartsWith-grown (Ok u) new old bytes e = record { more = bytes; is = e }
StartsWith-grown (Err x) new old bytes e = record { more = []; is = e ∙ sym (append-nil old) }

pub StartsWith-after : (old mid new : List ℕ) → StartsWith mid old → StartsWith new mid → StartsWith new old
StartsWith-after old mid new h k = record {
  more = h.more ++ k.more;
  is = k.is ∙ ap (λ xs. xs ++ k.more) h.is ∙ append_assoc old h.more k.more;
}

-- cut to what it was
pub cut-to-old : (new old : List ℕ) → StartsWith new old → take (length old) new ≡ old
cut-to-old new old h = ap (take (length old)) h.is ∙ take-append_seam old h.more

pub ruleset grown = (StartsWith-grown)

pub ruleset cut = (cut-to-old)

pub ruleset kept = (StartsWith-refl, StartsWith-after)
