-- How an access finds its mappings: the first by a search, and each other behind the one before it.
use Rattle.std.proofs.Common.{◌≡◌, ℕ, zero, suc, ◌+◌, ◌<◌, ◌≤◌, Bool, true, false, ltb, Some, None, [], ◌∷◌, length, get_or, refl, sym, ◌∙◌, ap, arith, subst, inl, inr}
use Rattle.std.specs.List.{All, AllWithin, find, slice_get}
use Rattle.std.specs.List.Sorted.{IsPartitionedBy, IsPartitionPoint}
use Rattle.std.proofs.lemmas.Bool.{cases_Bool, ltb-true, ltb-false, leb-true, leb-false, le-leb}
use Rattle.std.proofs.lemmas.Option.{same_Some, slice_get_within, get_or_from_slice_get}
use Rattle.pr_num.specs.Spaces.{Space, IsSpace, covers}
use Rattle.pr_num.specs.declared.mappings.Mapping.{Mapping}
use Rattle.pr_parts.proofs.AccessLemmas.{covers-at, covers-end, covers-from}
use Rattle.pr_mem.specs.Places.{IsPlace, ends_before}

-- ---- the search for the first

-- the mapping before another ends before it begins
pub ends_first : (space : Space) (i j : ℕ) (d : Mapping) → IsSpace space → i < j → j < length space
    → (get_or space i d).at + length (get_or space i d).bytes ≤ (get_or space j d).at
ends_first space i j d kept order within = kept.apart i j d order within

pub are_partitioned : (space : Space) (address : ℕ) → IsSpace space → IsPartitionedBy (ends_before address) space
are_partitioned space address kept i j d order within ends =
    elim (cases_Bool (ltb i j)) [ inl t ↦ earlier (ltb-true i j t) | inr f ↦ same (ltb-false i j f) ]
  where
    earlier : i < j → ends_before address (get_or space i d) ≡ true
    earlier less = le-leb _ _ (omega (arith, ends_first space i j d kept less within, leb-true _ _ ends))

    same : j ≤ i → ends_before address (get_or space i d) ≡ true
    same more = let e : j ≡ i = omega arith in ap (λ k. ends_before address (get_or space k d)) (sym e) ∙ ends

pub IsPlace-searched : (space : Space) (address place : ℕ) → place ≤ length space
    → IsPartitionPoint (λ m. ends_before address m ≡ true) (λ m. ends_before address m ≡ false) space place
    → IsPlace space address place
IsPlace-searched space address place within point = record {
  within = within;
  before = λ k d low high. leb-true _ _ (point.0 k d low high);
  behind = λ k d low high. leb-false _ _ (point.1 k d low high);
}

-- ---- what stands in a place

-- the mapping in a place ends behind the address
pub place-end : (space : Space) (a i : ℕ) (m : Mapping) → IsPlace space a i → slice_get space i ≡ Some m
    → a < m.at + length m.bytes
place-end space a i m place is =
    subst (λ (n : Mapping). a < n.at + length n.bytes) (get_or_from_slice_get space i m m is)
    (place.behind i m (omega arith) (slice_get_within space i m is))

-- an address that is not in a mapping
past : (a : ℕ) (m : Mapping) → m.at + length m.bytes ≤ a → covers a m ≡ false
past a m ends =
    elim (cases_Bool (covers a m)) [ inl t ↦ let high = covers-end a m t in absurd (omega arith) | inr f ↦ f ]

ahead : (a : ℕ) (m : Mapping) → a < m.at → covers a m ≡ false
ahead a m begins =
    elim (cases_Bool (covers a m)) [ inl t ↦ let low = covers-at a m t in absurd (omega arith) | inr f ↦ f ]

find_first : (p : Mapping → Bool) (xs : Space) (i : ℕ) (x : Mapping) → slice_get xs i ≡ Some x → p x ≡ true
    → AllWithin (λ y. p y ≡ false) xs 0 i → find p xs ≡ Some x
find_first p [] i x is passes fails = absurd (cc)
find_first p (y ∷ ys) zero x is passes fails =
    let same = same_Some y x is in
    let here : p y ≡ true = ap p same ∙ passes in
    rw here is
find_first p (y ∷ ys) (suc i) x is passes fails =
    rw (fails 0 y (omega arith) (omega arith))
    (find_first p ys i x is passes (λ k d low high. fails (suc k) d (omega arith) (omega arith)))

find_nowhere : (p : Mapping → Bool) (xs : Space) → All (λ y. p y ≡ false) xs → find p xs ≡ None
find_nowhere p [] fails = refl
find_nowhere p (y ∷ ys) fails =
    rw (fails 0 y (omega arith)) (find_nowhere p ys (λ k d within. fails (suc k) d (omega arith)))

-- the byte at the address is in the mapping in its place, or in none
pub find-there : (space : Space) (a i : ℕ) (m : Mapping) → IsPlace space a i → slice_get space i ≡ Some m → m.at ≤ a
    → find (covers a) space ≡ Some m
find-there space a i m place is low =
    find_first (covers a) space i m is (covers-from a m low (place-end space a i m place is))
    (λ k d from near. past a (get_or space k d) (place.before k d from near))

pub find-behind_all : (space : Space) (a i : ℕ) → IsPlace space a i → length space ≤ i → find (covers a) space ≡ None
find-behind_all space a i place all =
    find_nowhere (covers a) space
    (λ k d within. past a (get_or space k d) (place.before k d (omega arith) (omega arith)))

pub find-between : (space : Space) (a i : ℕ) (m : Mapping) → IsSpace space → IsPlace space a i
    → slice_get space i ≡ Some m → a < m.at → find (covers a) space ≡ None
find-between space a i m kept place is begins = find_nowhere (covers a) space out
  where
    starts : (d : Mapping) → a < (get_or space i d).at
    starts d = subst (λ (n : Mapping). a < n.at) (sym (get_or_from_slice_get space i m d is)) begins

    later : (k : ℕ) (d : Mapping) → i < k → k < length space → a < (get_or space k d).at
    later k d order within = omega (arith, starts d, ends_first space i k d kept order within)

    here : (k : ℕ) (d : Mapping) → k < length space → i ≤ k → covers a (get_or space k d) ≡ false
    here k d within from =
        elim (cases_Bool (ltb i k)) [
          | inl t ↦ ahead a (get_or space k d) (later k d (ltb-true i k t) within)
          | inr f ↦ let order =
              ltb-false i k f in let e : i ≡ k = omega arith in
              ahead a (get_or space k d) (subst (λ (n : ℕ). a < (get_or space n d).at) e (starts d))
        ]

    out : (k : ℕ) (d : Mapping) → k < length space → covers a (get_or space k d) ≡ false
    out k d within =
        elim (cases_Bool (ltb k i)) [
          | inl t ↦ past a (get_or space k d) (place.before k d (omega arith) (ltb-true k i t))
          | inr f ↦ here k d within (ltb-false k i f)
        ]

-- ---- an access under way

-- so many bytes of an access are done, and the next of them, if there is one, has this place
pub record IsUnderWay (space : Space) (at len done i : ℕ) : Type 0 where
  pub place : done < len → IsPlace space (at + done) i

pub IsUnderWay-start : (space : Space) (at len first : ℕ) → IsPlace space at first → IsUnderWay space at len 0 first
IsUnderWay-start space at len first is =
    let start : at ≡ at + 0 = omega arith in
    record { place = λ some. subst (λ (a : ℕ). IsPlace space a first) start is }
