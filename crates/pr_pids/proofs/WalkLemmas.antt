use Rattle.std.proofs.Common.{◌≡◌, ℕ, ◌+◌, ◌*◌, ◌/◌, ◌%◌, ◌<◌, ◌≤◌, false, true, eqb, List, Option, Some, None, length, ◌∙◌, ap, arith, inl, inr}
use Rattle.std.specs.Int.{bit_at}
use Rattle.std.specs.Prelude.{slice_index, IfNone, IfSome}
use Rattle.std.proofs.Math.ListN.{get_or-eq_default}
use Rattle.std.proofs.Math.Nat.{div-add-mod}
use Rattle.std.proofs.lemmas.Bool.{cases_lt}
use Rattle.std.proofs.lemmas.Nat.Bits.{bit_at-zero}
use Rattle.pr_pids.specs.Members.{HasNoneFrom, IsNextFrom, IsSummed, has_pid}
use Rattle.pr_pids.proofs.BitLemmas.{bit-within}

-- What a walk over the words of a set finds.

-- ---- where an id stands

abbrev pub IsEmpty : List ℕ → ℕ → ℕ → Type 0
IsEmpty words from end = (other : ℕ) → from ≤ other → other < end → has_pid words other ≡ false

pub word-of : (at bit : ℕ) → bit < 64 → ((at * 64 + bit) / 64 ≡ at) × ((at * 64 + bit) % 64 ≡ bit)
word-of at bit within =
    let parts = div-add-mod (at * 64 + bit) 64 in
    let less = bit-within (at * 64 + bit) in (
      omega arith,
      omega arith,
    )

has-one : (words : List ℕ) (at bit : ℕ) → bit < 64 → bit_at (slice_index words at) bit ≡ 1
    → has_pid words (at * 64 + bit) ≡ true
unfolding has_pid
has-one words at bit within one =
    let place = word-of at bit within in
    rw (place.0, place.1) (ap (λ n. eqb n 1) one)

has-none : (words : List ℕ) (at other : ℕ) → other / 64 ≡ at → bit_at (slice_index words at) (other % 64) ≡ 0
    → has_pid words other ≡ false
unfolding has_pid
has-none words at other there none = rw there (ap (λ n. eqb n 1) none)

beyond : (words : List ℕ) (other : ℕ) → length words ≡ 64 → 4096 ≤ other → has_pid words other ≡ false
unfolding has_pid
beyond words other all past =
    let parts = div-add-mod other 64 in
    let less = bit-within other in
    ap (λ n. eqb (bit_at n (other % 64)) 1) (get_or-eq_default words 0 (omega arith))
    ∙ ap (λ n. eqb n 1) (bit_at-zero (other % 64))

word-between : (at other : ℕ) → at * 64 ≤ other → other < at * 64 + 64 → other / 64 ≡ at
word-between at other above below =
    let parts = div-add-mod other 64 in
    let less = bit-within other in
    omega arith

-- ---- the walk

module _ (words : List ℕ) (from at low : ℕ) (empty : IsEmpty words from (at * 64)) (behind : from ≤ at * 64 + low)
    (each : (other : ℕ) → from ≤ other → other / 64 ≡ at → low ≤ other % 64) where
  -- the ids of a word up to a bit
  before-bit : (bit : ℕ) → bit ≤ 64 → ((i : ℕ) → low ≤ i → i < bit → bit_at (slice_index words at) i ≡ 0)
      → IsEmpty words from (at * 64 + bit)
  before-bit bit within none other past under =
      elim (cases_lt other (at * 64)) [
        | inl before ↦ empty other past before
        | inr above ↦ here (word-between at other (omega arith) (omega arith))
      ]
    where
      here : other / 64 ≡ at → has_pid words other ≡ false
      here there =
          let parts = div-add-mod other 64 in
          has-none words at other there (none (other % 64) (each other past there) (omega arith))

  pub found-next : (bit : ℕ) → low ≤ bit → bit < 64 → bit_at (slice_index words at) bit ≡ 1
      → ((i : ℕ) → low ≤ i → i < bit → bit_at (slice_index words at) i ≡ 0) → IsNextFrom words from (at * 64 + bit)
  found-next bit above within one none = record {
    member = has-one words at bit within one;
    behind = omega arith;
    least = before-bit bit (omega arith) none;
  }

  pub none-here : ((i : ℕ) → low ≤ i → i < 64 → bit_at (slice_index words at) i ≡ 0)
      → IsEmpty words from ((at + 1) * 64)
  none-here none other past under = before-bit 64 (omega arith) none other past (omega arith)

pub none-left : (words : List ℕ) (from at : ℕ) → length words ≡ 64 → 64 ≤ at → IsEmpty words from (at * 64)
    → HasNoneFrom words from
none-left words from at all end empty = record { none = λ other past. by other past }
  where
    by : (other : ℕ) → from ≤ other → has_pid words other ≡ false
    by other past =
        elim (cases_lt other (at * 64)) [
          | inl before ↦ empty other past before
          | inr above ↦ beyond words other all (omega arith)
        ]

-- ---- where a word begins

pub low-each : (at from other : ℕ) → at ≡ from / 64 → from ≤ other → other / 64 ≡ at → from % 64 ≤ other % 64
low-each at from other begins past there =
    let one = div-add-mod from 64 in
    let two = div-add-mod other 64 in
    omega arith

pub low-behind : (at from : ℕ) → at ≡ from / 64 → from ≤ at * 64 + from % 64
low-behind at from begins = let one = div-add-mod from 64 in omega arith

pub word-inside : (pid : ℕ) → pid < 4096 → pid / 64 < 64
word-inside pid small =
    let one = div-add-mod pid 64 in
    let less = bit-within pid in
    omega arith

-- ---- words that are passed over

word-of-other : (at word other : ℕ) → at * 64 ≤ other → other < word * 64 → (at ≤ other / 64) × (other / 64 < word)
word-of-other at word other above below =
    let parts = div-add-mod other 64 in
    let less = bit-within other in (
      omega arith,
      omega arith,
    )

pub passed : (words : List ℕ) (some from at word : ℕ) → IsSummed some words → word ≤ 64 → IsEmpty words from (at * 64)
    → ((i : ℕ) → at ≤ i → i < word → bit_at some i ≡ 0) → IsEmpty words from (word * 64)
unfolding has_pid
passed words some from at word h within empty zero other past under =
    elim (cases_lt other (at * 64)) [
      | inl before ↦ empty other past before
      | inr above ↦ here (word-of-other at word other (omega arith) under)
    ]
  where
    here : (at ≤ other / 64) × (other / 64 < word)
        → eqb (bit_at (slice_index words (other / 64)) (other % 64)) 1 ≡ false
    here place =
        let low = place.0 in
        let high = place.1 in
        ap (λ n. eqb (bit_at n (other % 64)) 1) (h.summed (other / 64) (omega arith) (zero (other / 64) low high))
        ∙ ap (λ n. eqb n 1) (bit_at-zero (other % 64))

-- ---- a walk that goes on at the next word

module _ (words : List ℕ) (from at : ℕ) (empty : IsEmpty words from (at * 64)) (past : from ≤ at * 64) where
  pub next-behind : (pid : ℕ) → IsNextFrom words (at * 64) pid → IsNextFrom words from pid
  next-behind pid next = record {
    member = next.member;
    behind = let behind = next.behind in omega arith;
    least = λ other low under. by other low under;
  }
    where
      by : (other : ℕ) → from ≤ other → other < pid → has_pid words other ≡ false
      by other low under =
          elim (cases_lt other (at * 64)) [
            | inl before ↦ empty other low before
            | inr above ↦ next.least other (omega arith) under
          ]

  pub none-behind_word : HasNoneFrom words (at * 64) → HasNoneFrom words from
  none-behind_word none = record { none = λ other low. by other low }
    where
      by : (other : ℕ) → from ≤ other → has_pid words other ≡ false
      by other low =
          elim (cases_lt other (at * 64)) [
            | inl before ↦ empty other low before
            | inr above ↦ none.none other (omega arith)
          ]

  pub if-next-behind : (o : Option ℕ) → IfSome o (λ pid. IsNextFrom words (at * 64) pid)
      → IfSome o (λ pid. IsNextFrom words from pid)
  if-next-behind None next = tt
  if-next-behind (Some pid) next = next-behind pid next

  pub if-none-behind : (o : Option ℕ) → IfNone o (HasNoneFrom words (at * 64)) → IfNone o (HasNoneFrom words from)
  if-none-behind None none = none-behind_word none
  if-none-behind (Some pid) none = tt

-- before the word of an id there is none
pub none-before : (words : List ℕ) (from : ℕ) → IsEmpty words from (from / 64 * 64)
none-before words from other past under = let parts = div-add-mod from 64 in
    absurd (let wrong : ⊥ = omega arith in wrong)
