-- How the loop of `hex_digits` writes a number's digits, the last first.
use Rattle.std.proofs.Common.{◌≡◌, ◌≢◌, ℕ, suc, ◌+◌, ◌/◌, ◌%◌, ◌^◌, ◌<◌, ◌≤◌, false, true, Bool, cond, eqb, eq-eqb, subst, add-one, List, ◌∷◌, length, take, drop, replicate, set, refl, sym, ap, ◌∙◌, arith}
use Rattle.std.proofs.Math.Nat.{pow-suc}
use Rattle.std.proofs.lemmas.List.{drop-set, take-set, take-take, take-replicate, length-set}
use Rattle.std.proofs.lemmas.Bool.{ne_eqb}
use Rattle.std.specs.Fmt.{digit_glyph, digits, digits_onto}

-- the digits of n but for those of rest stand from `at` on, with zeros before them
pub record HexSoFar (n rest at : ℕ) (out : List ℕ) : Type 0 where
  pub whole : length out ≡ 16
  pub small : rest < 16 ^ at
  pub unfinished : at < 16 → rest ≢ 0
  pub zeros : take at out ≡ replicate at 48
  pub value : digits_onto (48 + at) 16 false rest (drop at out) ≡ digits 16 false n

onto_by : (k n : ℕ) (acc : List ℕ) (t : Bool) → eqb (n / 16) 0 ≡ t
    → digits_onto (suc k) 16 false n acc
    ≡ cond t (digit_glyph false (n % 16) ∷ acc) (digits_onto k 16 false (n / 16) (digit_glyph false (n % 16) ∷ acc))
onto_by k n acc t is =
    ap (λ (b : Bool).
    cond b (digit_glyph false (n % 16) ∷ acc)
    (digits_onto k 16 false (n / 16) (digit_glyph false (n % 16) ∷ acc))) is

-- nothing is written yet
pub hex_start : (n : ℕ) → n < 2 ^ 64 → HexSoFar n n 16 (replicate 16 48)
unfolding digits
hex_start n fits =
    record {
      whole = refl;
      small = omega arith;
      unfinished = λ below. absurd (omega (arith, below));
      zeros = refl;
      value = refl;
    }

-- what a digit before the others leaves of the zeros
zeros_left : (at d : ℕ) (out : List ℕ) → take (suc at) out ≡ replicate (suc at) 48
    → take at (set out at d) ≡ replicate at 48
zeros_left at d out zeros =
    take-set out at d ∙ sym (take-take at (suc at) out (omega arith)) ∙ ap (take at) zeros
    ∙ take-replicate at (suc at) 48 (omega arith)

-- one digit more stands before the others
one_more : (rest at d : ℕ) (out : List ℕ) (t : Bool) → at < length out → d ≡ digit_glyph false (rest % 16)
    → eqb (rest / 16) 0 ≡ t
    → digits_onto (48 + suc at) 16 false rest (drop (suc at) out)
    ≡ cond t (drop at (set out at d)) (digits_onto (48 + at) 16 false (rest / 16) (drop at (set out at d)))
one_more rest at d out t inside is tested =
    let front : digit_glyph false (rest % 16) ∷ drop (suc at) out ≡ drop at (set out at d) =
    ap (λ x. x ∷ drop (suc at) out) (sym is) ∙ ap (λ k. d ∷ drop k out) (sym (add-one at))
    ∙ sym (drop-set out at d inside) in
    ap (λ k. digits_onto k 16 false rest (drop (suc at) out)) {x = 48 + suc at} {y = suc (48 + at)} (omega arith)
    ∙ onto_by (48 + at) rest (drop (suc at) out) t tested
    ∙ ap (λ shown. cond t shown (digits_onto (48 + at) 16 false (rest / 16) shown)) front

pub hex_more : (n rest from at d : ℕ) (out : List ℕ) → from ≡ suc at → at < 16 → HexSoFar n rest from out
    → d ≡ digit_glyph false (rest % 16) → rest / 16 ≢ 0 → HexSoFar n (rest / 16) at (set out at d)
hex_more n rest from at d out next inside so_far is more =
    let before : HexSoFar n rest (suc at) out = subst (λ k. HexSoFar n rest k out) next so_far in
    record {
      whole = length-set out at d ∙ before.whole;
      small = omega (arith, pow-suc 16 at, before.small);
      unfinished = λ below. more;
      zeros = zeros_left at d out before.zeros;
      value = sym (one_more rest at d out false (omega (arith, before.whole)) is (ne_eqb (rest / 16) 0 more))
          ∙ before.value;
    }

-- the last digit that is written stands first
pub hex_first : (n rest from at d : ℕ) (out : List ℕ) → from ≡ suc at → at < 16 → HexSoFar n rest from out
    → d ≡ digit_glyph false (rest % 16) → rest / 16 ≡ 0
    → (take at (set out at d) ≡ replicate at 48) × (drop at (set out at d) ≡ digits 16 false n)
hex_first n rest from at d out next inside so_far is done =
    let before : HexSoFar n rest (suc at) out = subst (λ k. HexSoFar n rest k out) next so_far in (
      zeros_left at d out before.zeros,
      sym (one_more rest at d out true (omega (arith, before.whole)) is (eq-eqb (rest / 16) 0 done)) ∙ before.value,
    )

-- the first digit is found before the places end
pub hex_ends : (n rest at : ℕ) (out : List ℕ) → at ≤ 0 → HexSoFar n rest at out → ⊥
hex_ends n rest at out none so_far =
    let ended : HexSoFar n rest 0 out = subst (λ k. HexSoFar n rest k out) {x = at} {y = 0} (omega arith) so_far in
    ended.unfinished (omega arith) (omega (arith, ended.small))
