-- The first piece of bytes, and the others.
use Rattle.std.proofs.Common.{◌≡◌, ℕ, ◌+◌, ◌<◌, ◌≤◌, Bool, true, false, not, cond, eqb, ltb, Option, Some, None, is_none, List, [], ◌∷◌, length, take, drop, ◌-◌, refl, sym, ap, ◌∙◌, arith}
use Rattle.std.proofs.lemmas.Bool.{ltb-true, ltb-false}
use Rattle.std.proofs.lemmas.List.{take_all, length-drop}
use Rattle.std.proofs.lemmas.List.Splits.{length-slice_split, slice_split_first}
use Rattle.std.specs.Borrow.{Bor}
use Rattle.std.specs.List.{position, position_or_len, slice_split, onto_first}
use Rattle.std.specs.Option.{option_copied}
use Rattle.pr_plain.specs.Cuts.{pieces_left}
use Rattle.pr_plain.specs.WordReading.{Words, is_done, word_at}

-- whether a byte is this one
abbrev is_cut : ℕ → ℕ → Bool
is_cut cut b = eqb b cut

found_within : (b : Bool) (n end : ℕ) → cond b (Some n) None ≡ Some end → (b ≡ true) × (n ≡ end)
found_within true n end e = (refl, cc)
found_within false n end e = cc

not_found : (b : Bool) (n : ℕ) → cond b (Some n) None ≡ None → b ≡ false
not_found true n e = cc
not_found false n e = refl

whole_piece : (cut : ℕ) (bs : List ℕ) → length bs ≤ position_or_len (is_cut cut) bs
    → slice_split (is_cut cut) bs ≡ bs ∷ []
whole_piece cut [] far = refl
whole_piece cut (b ∷ bs) far =
    elim (eqb b cut)
    as (λ t. length (b ∷ bs) ≤ cond (not t) (1 + position_or_len (is_cut cut) bs) 0
    → cond t ([] ∷ slice_split (is_cut cut) bs) (onto_first b (slice_split (is_cut cut) bs)) ≡ (b ∷ bs) ∷ [])
    [ true ↦ λ none. absurd (omega arith) | false ↦ λ more. ap (onto_first b) (whole_piece cut bs (omega arith)) ]
    far

pub piece_none : (cut : ℕ) (bs : List ℕ) → position (λ b. eqb b cut) bs ≡ None
    → slice_split (λ b. eqb b cut) bs ≡ bs ∷ []
piece_none cut bs e =
    whole_piece cut bs
    (ltb-false (position_or_len (is_cut cut) bs) (length bs)
    (not_found (ltb (position_or_len (is_cut cut) bs) (length bs)) (position_or_len (is_cut cut) bs) e))

pub piece_some : (cut : ℕ) (bs : List ℕ) (end : ℕ) → position (λ b. eqb b cut) bs ≡ Some end
    → slice_split (λ b. eqb b cut) bs
    ≡ take end bs ∷ slice_split (λ b. eqb b cut) (take (length bs - (end + 1)) (drop (end + 1) bs))
piece_some cut bs end e =
    let here =
    found_within (ltb (position_or_len (is_cut cut) bs) (length bs)) (position_or_len (is_cut cut) bs) end e in
    slice_split_first (is_cut cut) bs 0 (ltb-true (position_or_len (is_cut cut) bs) (length bs) here.0)
    ∙ ap (λ n. take n bs ∷ slice_split (is_cut cut) (drop (n + 1) bs)) here.1
    ∙ ap (λ rest. take end bs ∷ slice_split (is_cut cut) rest)
    (sym (take_all (length bs - (end + 1)) (drop (end + 1) bs) (omega (arith, length-drop (end + 1) bs))))

-- where there is a piece, it is to be read
some_piece : (ws : Words) → 0 < length ws → is_done ws ≡ false
unfolding word_at
some_piece [] h = absurd (omega (arith, h))
some_piece (w ∷ ws) h = refl

-- no piece is left exactly where nothing is left to cut
pub none_left : (cut : ℕ) (rest : Option (Bor (List ℕ))) → is_none rest ≡ is_done (pieces_left cut (option_copied rest))
unfolding word_at
none_left cut None = refl
none_left cut (Some bytes) =
    sym (some_piece (slice_split (λ b. eqb b cut) bytes.now)
    (omega (arith, length-slice_split (λ b. eqb b cut) bytes.now)))

pub ruleset done = (none_left)
