-- Where an address comes to lie that was moved past all mappings is the least gap.
use Rattle.std.proofs.Common.{◌≡◌, ◌⊎◌, ℕ, zero, suc, ◌+◌, ◌-◌, ◌*◌, ◌/◌, ◌%◌, ◌<◌, ◌≤◌, true, false, ltb, cond, Some, None, [], ◌∷◌, length, min, refl, sym, ◌∙◌, ap, arith, inl, inr}
use Rattle.std.specs.List.{All, AllPairs, list_any}
use Rattle.std.proofs.lemmas.Bool.{ltb-true, ltb-false, lt-ltb, le-ltb, and_from, and_left, and_parts, and_right, or_from, or_left, or_right, cases_Bool, not_from_true, not_from_false, false≢true}
use Rattle.std.proofs.lemmas.List.Elements.{All-head, All-tail, All-weaker}
use Rattle.pr_num.specs.Layout.{gap_base, stack_base, page_size}
use Rattle.pr_num.specs.Programs.{rounded}
use Rattle.pr_num.specs.Spaces.{Space, IsBefore, IsSpace}
use Rattle.pr_num.specs.declared.mappings.Mapping.{Mapping}
use Rattle.pr_parts.specs.AddressSpaces.{gap_places, gap_from, gap_in, is_free, is_gap, meets}
use Rattle.pr_parts.proofs.ByAddressLemmas.{AllPairs-head, AllPairs-tail}
use Rattle.pr_mem.specs.Gaps.{moved_behind, moved_past}

-- ---- ranges and mappings

meets-low : (at size : ℕ) (m : Mapping) → meets at size m ≡ true → at < m.at + length m.bytes
meets-low at size m e = ltb-true _ _ (and_parts _ _ e).0

meets-high : (at size : ℕ) (m : Mapping) → meets at size m ≡ true → m.at < at + size
meets-high at size m e = ltb-true _ _ (and_parts _ _ e).1

meets-from : (at size : ℕ) (m : Mapping) → at < m.at + length m.bytes → m.at < at + size → meets at size m ≡ true
meets-from at size m low high = and_from _ _ (lt-ltb _ _ low) (lt-ltb _ _ high)

misses-behind : (at size : ℕ) (m : Mapping) → m.at + length m.bytes ≤ at → meets at size m ≡ false
misses-behind at size m behind = and_left _ _ (le-ltb _ _ behind)

-- a range that misses a mapping is behind it or before it
misses : (at size : ℕ) (m : Mapping) → meets at size m ≡ false → (m.at + length m.bytes ≤ at) ⊎ (at + size ≤ m.at)
misses at size m e =
    elim (cases_Bool (ltb at (m.at + length m.bytes)))
    [ inl t ↦ inr (ltb-false m.at (at + size) (rest t)) | inr f ↦ inl (ltb-false _ _ f) ]
  where
    rest : ltb at (m.at + length m.bytes) ≡ true → ltb m.at (at + size) ≡ false
    rest t =
        elim (cases_Bool (ltb m.at (at + size))) [ inl u ↦ absurd (false≢true (sym e ∙ and_from _ _ t u)) | inr f ↦ f ]

-- ---- moving

-- what holds of an address that was moved past a space
record Moved (size at : ℕ) (space : Space) (to : ℕ) : Type 0 where
  pub on : at ≤ to
  pub limit : to ≤ stack_base
  pub aligned : to % page_size ≡ 0
  pub taken : (a : ℕ) → a % page_size ≡ 0 → at ≤ a → a < to → list_any (meets a size) space ≡ true
  pub free : to < stack_base → list_any (meets to size) space ≡ false

-- nothing stands in the way of a range that ends before all begin
stays : (size at : ℕ) (space : Space) → All (λ (m : Mapping). at + size ≤ m.at) space → moved_past size at space ≡ at
unfolding moved_behind
stays size at [] before = refl
stays size at (m ∷ space) before =
    let here = All-head (λ (n : Mapping). at + size ≤ n.at) m space before in
    let off : meets at size m ≡ false = and_right _ _ (le-ltb _ _ here) in
    rw off (stays size at space (All-tail (λ (n : Mapping). at + size ≤ n.at) m space before))

rounded-low : (x : ℕ) → x ≤ rounded x
rounded-low x = omega arith

rounded-high : (x : ℕ) → x ≤ stack_base → rounded x ≤ stack_base
rounded-high x h = omega arith

rounded-aligned : (x : ℕ) → rounded x % page_size ≡ 0
rounded-aligned x = omega arith

below_rounded : (a x : ℕ) → a % page_size ≡ 0 → a < rounded x → a < x
below_rounded a x even h = omega arith

-- a mapping in the way, and one that is not
met : (size at : ℕ) (m : Mapping) (space : Space) (to : ℕ) → at ≤ stack_base → meets at size m ≡ true
    → Moved size (rounded (min (m.at + length m.bytes) stack_base)) space to → Moved size at (m ∷ space) to
met size at m space to range hit rest =
    let low = meets-low at size m hit in
    let high = meets-high at size m hit in
    let start = rounded-low (min (m.at + length m.bytes) stack_base) in
    record {
      on = omega (arith, rest.on);
      limit = rest.limit;
      aligned = rest.aligned;
      taken = λ a even from below. elim (cases_Bool (ltb a (rounded (min (m.at + length m.bytes) stack_base)))) [
        | inl t ↦ here a even from (ltb-true _ _ t) high
        | inr f ↦ or_right _ _ (rest.taken a even (ltb-false _ _ f) below)
      ];
      free = λ below. or_from _ _ (misses-behind to size m (omega (arith, rest.on))) (rest.free below);
    }
  where
    here : (a : ℕ) → a % page_size ≡ 0 → at ≤ a → a < rounded (min (m.at + length m.bytes) stack_base)
        → m.at < at + size → list_any (meets a size) (m ∷ space) ≡ true
    here a even from below high =
        let inside = below_rounded a (min (m.at + length m.bytes) stack_base) even below in
        or_left _ _ (meets-from a size m (omega arith) (omega arith))

missed : (size at : ℕ) (m : Mapping) (space : Space) (to : ℕ) → All (IsBefore m) space → moved_past size at space ≡ to
    → meets at size m ≡ false → Moved size at space to → Moved size at (m ∷ space) to
missed size at m space to behind is miss rest = record {
  on = rest.on;
  limit = rest.limit;
  aligned = rest.aligned;
  taken = λ a even from below. or_right _ _ (rest.taken a even from below);
  free = λ below. or_from _ _ (clear (misses at size m miss) rest.on) (rest.free below);
}
  where
    clear : (m.at + length m.bytes ≤ at) ⊎ (at + size ≤ m.at) → at ≤ to → meets to size m ≡ false
    clear (inl past) on = misses-behind to size m (omega arith)
    clear (inr before) on =
        let same : to ≡ at =
        sym is ∙ stays size at space
        (All-weaker (IsBefore m) (λ (n : Mapping). at + size ≤ n.at) (λ n h. omega arith) space behind) in
        ap (λ a. meets a size m) same ∙ miss

moved : (size at : ℕ) (space : Space) → at ≤ stack_base → at % page_size ≡ 0 → AllPairs IsBefore space
    → Moved size at space (moved_past size at space)
unfolding moved_behind
moved size at [] range even apart =
    record {
      on = omega arith;
      limit = range;
      aligned = even;
      taken = λ a e from below. absurd (omega arith);
      free =
          λ below. refl;
    }
moved size at (m ∷ space) range even apart =
    let behind = AllPairs-head IsBefore m space apart in
    let rest =
    λ (a : ℕ) (r : a ≤ stack_base) (e : a % page_size ≡ 0).
    moved size a space r e (AllPairs-tail IsBefore m space apart) in
    let end = min (m.at + length m.bytes) stack_base in
    elim (meets at size m)
    as (λ b. meets at size m ≡ b → Moved size at (m ∷ space) (moved_past size (cond b (rounded end) at) space)) [
      | true ↦ λ t.
          met size at m space _ range t (rest (rounded end) (rounded-high end (omega arith)) (rounded-aligned end))
      | false ↦ λ f. missed size at m space _ behind refl f (rest at range even)
    ] refl

-- ---- the first gap

none_from : (size : ℕ) (space : Space) (at places : ℕ)
    → ((k : ℕ) → k < places → is_gap size space (at + page_size * k) ≡ false) → gap_from size space at places ≡ None
unfolding gap_from
none_from size space at zero none = refl
none_from size space at (suc places) none =
    let start : at + page_size * 0 ≡ at = omega arith in
    let here : is_gap size space at ≡ false = ap (is_gap size space) (sym start) ∙ none 0 (omega arith) in
    let rest =
    none_from size space (at + page_size) places
    (λ k h. let next : at + page_size + page_size * k ≡ at + page_size * suc k = omega arith in
    ap (is_gap size space) next ∙ none (suc k) (omega arith)) in
    rw here rest

first_from : (size : ℕ) (space : Space) (at places k : ℕ) → k < places
    → ((j : ℕ) → j < k → is_gap size space (at + page_size * j) ≡ false) → is_gap size space (at + page_size * k) ≡ true
    → gap_from size space at places ≡ Some (at + page_size * k)
unfolding gap_from
first_from size space at zero k within before here = absurd (omega arith)
first_from size space at (suc places) zero within before here =
    let start : at + page_size * 0 ≡ at = omega arith in
    let gap : is_gap size space at ≡ true = ap (is_gap size space) (sym start) ∙ here in
    rw (gap, start) refl
first_from size space at (suc places) (suc k) within before here =
    let start : at + page_size * 0 ≡ at = omega arith in
    let next : at + page_size + page_size * k ≡ at + page_size * suc k = omega arith in
    let none : is_gap size space at ≡ false = ap (is_gap size space) (sym start) ∙ before 0 (omega arith) in
    let rest =
    first_from size space (at + page_size) places k (omega arith)
    (λ j h. let later : at + page_size + page_size * j ≡ at + page_size * suc j = omega arith in
    ap (is_gap size space) later ∙ before (suc j) (omega arith)) (ap (is_gap size space) next ∙ here) in
    rw none (rest ∙ ap (λ n. Some n) next)

-- whether an address is a gap, by where it lies
not_gap-taken : (size : ℕ) (space : Space) (a : ℕ) → list_any (meets a size) space ≡ true → is_gap size space a ≡ false
unfolding is_free
not_gap-taken size space a taken = and_right _ _ (not_from_true _ taken)

not_gap-high : (size : ℕ) (space : Space) (a : ℕ) → stack_base ≤ a + size → is_gap size space a ≡ false
not_gap-high size space a high = and_left _ _ (le-ltb _ _ high)

gap-free : (size : ℕ) (space : Space) (a : ℕ) → a + size < stack_base → list_any (meets a size) space ≡ false
    → is_gap size space a ≡ true
unfolding is_free
gap-free size space a low free = and_from _ _ (lt-ltb _ _ low) (not_from_false _ free)

-- no range of this size ends before the limit
pub gap_in-too_big : (size : ℕ) (space : Space) → stack_base ≤ size → gap_in size space ≡ None
unfolding gap_in
gap_in-too_big size space big =
    none_from size space gap_base gap_places (λ k h. not_gap-high size space (gap_base + page_size * k) (omega arith))

start_moved : (size : ℕ) (space : Space) → IsSpace space → Moved size gap_base space (moved_past size gap_base space)
start_moved size space kept = moved size gap_base space (omega arith) refl kept.apart

pub gap_in-found : (size : ℕ) (space : Space) → IsSpace space → moved_past size gap_base space + size < stack_base
    → gap_in size space ≡ Some (moved_past size gap_base space)
unfolding gap_in
gap_in-found size space kept low = go (moved_past size gap_base space) (start_moved size space kept) low
  where
    go : (to : ℕ) → Moved size gap_base space to → to + size < stack_base
        → gap_from size space gap_base gap_places ≡ Some to
    go to facts low =
        let even = facts.aligned in
        let on = facts.on in
        let is : gap_base + page_size * ((to - gap_base) / page_size) ≡ to = omega arith in
        first_from size space gap_base gap_places ((to - gap_base) / page_size) (omega arith)
        (λ j h. not_gap-taken size space (gap_base + page_size * j)
        (facts.taken (gap_base + page_size * j) (omega arith) (omega arith) (omega arith)))
        (ap (is_gap size space) is ∙ gap-free size space to low (facts.free (omega arith))) ∙ ap (λ n. Some n) is

pub gap_in-none : (size : ℕ) (space : Space) → IsSpace space → stack_base ≤ moved_past size gap_base space + size
    → gap_in size space ≡ None
unfolding gap_in
gap_in-none size space kept high = go (moved_past size gap_base space) (start_moved size space kept) high
  where
    go : (to : ℕ) → Moved size gap_base space to → stack_base ≤ to + size
        → gap_from size space gap_base gap_places ≡ None
    go to facts high =
        none_from size space gap_base gap_places
        (λ k h. elim (cases_Bool (ltb (gap_base + page_size * k) to)) [
          | inl t ↦
              not_gap-taken size space (gap_base + page_size * k)
              (facts.taken (gap_base + page_size * k) (omega arith) (omega arith) (ltb-true _ _ t))
          | inr f ↦
              not_gap-high size space (gap_base + page_size * k)
              (let past = ltb-false (gap_base + page_size * k) to f in omega arith)
        ])

pub ruleset gaps = (gap_in-too_big, gap_in-found, gap_in-none)
