-- Gaps: the first one that is found is the least, and where none is found there is none.
use Rattle.std.proofs.Common.{◌≡◌, ℕ, zero, suc, ◌+◌, ◌-◌, ◌*◌, ◌/◌, ◌^◌, ◌%◌, ◌<◌, ◌≤◌, true, false, cond, Option, Some, None, Result, Ok, Err, List, [], ◌∷◌, length, take, drop, map, get_or, refl, sym, ◌∙◌, ap, arith, inl, inr}
use Rattle.std.specs.Prelude.{◌&&◌, nat_le, nat_lt}
use Rattle.std.specs.List.{find}
use Rattle.std.proofs.lemmas.Bool.{and_from, and_parts, cases_Bool, false≢true, false_from_ne_true, le-leb, lt-ltb, ltb-false, ltb-true}
use Rattle.std.proofs.lemmas.List.{drop_more, take_all}
use Rattle.std.proofs.lemmas.Option.{same_Some}
use Rattle.pr_num.specs.Layout.{gap_base, stack_base, page_size}
use Rattle.pr_num.specs.Control.{has_flags}
use Rattle.pr_num.specs.Spaces.{Space, byte_for, bytes_for, covers, one_more}
use Rattle.pr_num.specs.declared.mappings.BadByte.{BadByte}
use Rattle.pr_num.specs.declared.mappings.Mapping.{Mapping}
use Rattle.pr_parts.specs.AddressSpaces.{gap_places, gap_from, gap_in, is_free, is_gap, with_bytes, with_written, written_byte, written_bytes}
use Rattle.pr_mem.specs.Laws.{HasNoGap, IsGapPlace, IsLeastGap}

-- ---- gaps

-- where the first gap is
record FirstGap (size : ℕ) (space : Space) (at to : ℕ) : Type 0 where
  pub step : ℕ
  pub is : to ≡ at + page_size * step
  pub gap : is_gap size space to ≡ true
  pub before : (j : ℕ) → j < step → is_gap size space (at + page_size * j) ≡ false

first_gap : (size : ℕ) (space : Space) (at places to : ℕ) → gap_from size space at places ≡ Some to
    → FirstGap size space at to
unfolding gap_from
first_gap size space at zero to e = absurd (cc)
first_gap size space at (suc places) to e =
    elim (is_gap size space at)
    as (λ b. is_gap size space at ≡ b → cond b (Some at) (gap_from size space (at + page_size) places) ≡ Some to
    → FirstGap size space at to) [
      | true ↦ λ t p. here t (same_Some at to p)
      | false ↦ λ f p. later f (first_gap size space (at + page_size) places to p)
    ] refl e
  where
    here : is_gap size space at ≡ true → at ≡ to → FirstGap size space at to
    here t same =
        record {
          step = 0;
          is = omega arith;
          gap = ap (is_gap size space) (sym same) ∙ t;
          before =
              λ j h. absurd (omega arith);
        }

    earlier : (step : ℕ) → is_gap size space at ≡ false
        → ((j : ℕ) → j < step → is_gap size space (at + page_size + page_size * j) ≡ false) → (j : ℕ) → j < suc step
        → is_gap size space (at + page_size * j) ≡ false
    earlier step f rest zero h = let start : at + page_size * 0 ≡ at = omega arith in ap (is_gap size space) start ∙ f
    earlier step f rest (suc j) h = let next : at + page_size * suc j ≡ at + page_size + page_size * j = omega arith in
        ap (is_gap size space) next ∙ rest j (omega arith)

    later : is_gap size space at ≡ false → FirstGap size space (at + page_size) to → FirstGap size space at to
    later f rest =
        record {
          step = suc rest.step;
          is = omega (arith, rest.is);
          gap = rest.gap;
          before =
              earlier rest.step f rest.before;
        }

no_gap : (size : ℕ) (space : Space) (at places : ℕ) → gap_from size space at places ≡ None → (k : ℕ) → k < places
    → is_gap size space (at + page_size * k) ≡ false
unfolding gap_from
no_gap size space at zero e k h = absurd (omega arith)
no_gap size space at (suc places) e k h =
    elim (is_gap size space at)
    as (λ b. is_gap size space at ≡ b → cond b (Some at) (gap_from size space (at + page_size) places) ≡ None
    → is_gap size space (at + page_size * k) ≡ false)
    [ true ↦ λ t p. absurd (cc) | false ↦ λ f p. go k f (λ j. no_gap size space (at + page_size) places p j) h ]
    refl e
  where
    go : (k : ℕ) → is_gap size space at ≡ false
        → ((j : ℕ) → j < places → is_gap size space (at + page_size + page_size * j) ≡ false) → k < suc places
        → is_gap size space (at + page_size * k) ≡ false
    go zero f rest h = let start : at + page_size * 0 ≡ at = omega arith in ap (is_gap size space) start ∙ f
    go (suc k) f rest h = let next : at + page_size * suc k ≡ at + page_size + page_size * k = omega arith in
        ap (is_gap size space) next ∙ rest k (omega arith)

-- a free place is a gap
free_gap : (size : ℕ) (space : Space) (a : ℕ) → a + size < stack_base → is_free a size space ≡ true
    → is_gap size space a ≡ true
free_gap size space a low free = and_from _ _ (lt-ltb (a + size) stack_base low) free

pub gap_in-least : (size : ℕ) (space : Space) (at : ℕ) → gap_in size space ≡ Some at → IsLeastGap size space at
unfolding gap_in
gap_in-least size space at e =
    let first = first_gap size space gap_base gap_places at e in
    let parts = and_parts _ _ first.gap in
    let high : at + size < stack_base = ltb-true (at + size) stack_base parts.0 in
    let is = first.is in
    record {
      place = record { aligned = omega arith; low = omega arith; high = high };
      free = parts.1;
      least = λ other place free. least first other place free;
    }
  where
    clash : FirstGap size space gap_base at → (other : ℕ) → IsGapPlace size other → is_free other size space ≡ true
        → other < at → ⊥
    clash first other place free below =
        let even = place.aligned in
        let low = place.low in
        let high = place.high in
        let at_is = first.is in
        let is : gap_base + page_size * ((other - gap_base) / page_size) ≡ other = omega arith in
        let never = first.before ((other - gap_base) / page_size) (omega arith) in
        false≢true (sym never ∙ ap (is_gap size space) is ∙ free_gap size space other high free)

    least : FirstGap size space gap_base at → (other : ℕ) → IsGapPlace size other → is_free other size space ≡ true
        → at ≤ other
    least first other place free =
        elim (cases_Bool (nat_lt other at))
        [ inl t ↦ absurd (clash first other place free (ltb-true other at t)) | inr f ↦ ltb-false other at f ]

pub gap_in-all : (size : ℕ) (space : Space) → gap_in size space ≡ None → HasNoGap size space
unfolding gap_in
gap_in-all size space e other place =
    let even = place.aligned in
    let low = place.low in
    let high = place.high in
    let is : gap_base + page_size * ((other - gap_base) / page_size) ≡ other = omega arith in
    let never = no_gap size space gap_base gap_places e ((other - gap_base) / page_size) (omega arith) in
    false_from_ne_true (is_free other size space)
    (λ free. false≢true (sym never ∙ ap (is_gap size space) is ∙ free_gap size space other high free))
