-- What holds of the places by the keys of their numbers.
use Rattle.std.proofs.Common.{◌≡◌, ◌≢◌, ◌+◌, ◌<◌, ◌≤◌, ℕ, zero, suc, false, cond, ◌⊎◌, List, [], ◌∷◌, ◌++◌, length, replicate, get_or, set, Option, None, Some, IsSome, OnSome, is_some, is_none, refl, sym, ap, ◌∙◌, arith, inl, inr}
use Rattle.std.specs.List.{count_by, position, position_from}
use Rattle.std.proofs.lemmas.Bool.{cases_eq, cases_lt, false≢true}
use Rattle.std.proofs.lemmas.List.{length-append, length-set, length-map, length-replicate, get_or-set_same, get_or-set_other, get_or_past, set-get_or, replicate-append-replicate}
use Rattle.std.proofs.lemmas.List.Sums.{count_by-le-length, sum_by-append, sum_by-set}
use Rattle.std.proofs.lemmas.Iterator.Adapters.{position_from-zero}
use Rattle.std.proofs.lemmas.Option.{same_Some, none-some}
use Rattle.slab.specs.Slab.{Slab, get, slab_len, with_value, Updates}
use Rattle.pr_slots.specs.Keys.{thing_of, places_of, IsKeyed}

-- ---- reading

-- the place of a number has the thing of its key
pub place-of : {T : Type 0} → (slab : Slab T) → (keys : List (Option ℕ)) → (number : ℕ)
    → get_or (places_of slab keys) number None ≡ thing_of slab (get_or keys number None)
place-of slab [] zero = refl
place-of slab [] (suc number) = refl
place-of slab (key ∷ keys) zero = refl
place-of slab (key ∷ keys) (suc number) = place-of slab keys number

-- so it is of a table as it is seen
module _ {T : Type 0} (slab : Slab T) (keys : List (Option ℕ)) (places : List (Option T))
    (seen : places_of slab keys ≡ places) (number : ℕ) where
  pub seen_at : (key : Option ℕ) → get_or keys number None ≡ key → get_or places number None ≡ thing_of slab key
  seen_at key is =
      ap (λ ps. get_or ps number None) (sym seen) ∙ place-of slab keys number ∙ ap (thing_of slab) is

  pub as_many : length keys ≡ length places
  as_many = sym (length-map keys (thing_of slab)) ∙ ap length seen

  -- a place that is not free has a key
  pub has_key : IsSome (get_or places number None) → IsSome (get_or keys number None)
  has_key some = by (get_or keys number None) refl
    where
      by : (key : Option ℕ) → get_or keys number None ≡ key → IsSome (get_or keys number None)
      by None is = absurd (false≢true (sym (ap is_some (seen_at None is)) ∙ some))
      by (Some key) is = ap is_some is

-- ---- free places

-- a place is free where its number has no key
none-thing_of : {T : Type 0} → (slab : Slab T) → (key : Option ℕ) → ((k : ℕ) → key ≡ Some k → IsSome (get slab k))
    → is_none (thing_of slab key) ≡ is_none key
none-thing_of slab None there = refl
none-thing_of {T} slab (Some k) there = by (get slab k) (there k refl)
  where
    by : (o : Option T) → IsSome o → is_none o ≡ false
    by (Some h) some = refl
    by None some = absurd (false≢true some)

position-places_of : {T : Type 0} → (slab : Slab T) → (keys : List (Option ℕ)) → (at : ℕ)
    → ((n k : ℕ) → get_or keys n None ≡ Some k → IsSome (get slab k))
    → position_from is_none at (places_of slab keys) ≡ position_from is_none at keys
position-places_of slab [] at there = refl
position-places_of slab (key ∷ keys) at there =
    rw (none-thing_of slab key (there 0))
    (ap (cond (is_none key) (Some at)) (position-places_of slab keys (at + 1) (λ n k is. there (suc n) k is)))

-- the least number whose place is free is the least that has no key
pub least_seen : {T : Type 0} → (slab : Slab T) → (keys : List (Option ℕ)) → (places : List (Option T))
    → places_of slab keys ≡ places → IsKeyed slab keys → position is_none keys ≡ position is_none places
least_seen slab keys places seen keyed =
    sym (ap (position is_none) (sym seen) ∙ position_from-zero is_none (places_of slab keys)
    ∙ position-places_of slab keys 0 keyed.there ∙ sym (position_from-zero is_none keys))

-- What the least number without a key is.
record IsFree (keys : List (Option ℕ)) (at number : ℕ) : Type 0 where
  place : ℕ
  stands : number ≡ at + place
  inside : place < length keys
  free : get_or keys place None ≡ None

free_from : (keys : List (Option ℕ)) (at number : ℕ) → position_from is_none at keys ≡ Some number
    → IsFree keys at number
free_from [] at number found = absurd cc
free_from (None ∷ keys) at number found =
    let here : at ≡ number = cc in
    record { place = 0; stands = omega arith; inside = omega arith; free = refl }
free_from (Some key ∷ keys) at number found =
    let later = free_from keys (at + 1) number found in
    record {
      place = suc later.place;
      stands = omega (arith, later.stands);
      inside = omega (arith, later.inside);
      free =
          later.free;
    }

module _ {T : Type 0} (slab : Slab T) (keys : List (Option ℕ)) (places : List (Option T))
    (seen : places_of slab keys ≡ places) (number : ℕ) (found : position is_none keys ≡ Some number) where
  least : IsFree keys 0 number
  least = free_from keys 0 number (sym (position_from-zero is_none keys) ∙ found)

  stands : least.place ≡ number
  stands = omega (arith, least.stands)

  pub free_inside : number < length places
  free_inside = omega (arith, stands, least.inside, as_many slab keys places seen number)

  pub free_place : get_or places number None ≡ None
  free_place =
      seen_at slab keys places seen number None (ap (λ (n : ℕ). get_or keys n None) (sym stands) ∙ least.free)

-- ---- one place changed

-- keys whose things are as they were
thing_of-same : {T : Type 0} → (old new : Slab T) → (key : Option ℕ)
    → ((k : ℕ) → key ≡ Some k → get new k ≡ get old k) → thing_of new key ≡ thing_of old key
thing_of-same old new None kept = refl
thing_of-same old new (Some k) kept = kept k refl

places_of-same : {T : Type 0} → (old new : Slab T) → (keys : List (Option ℕ))
    → ((m k : ℕ) → get_or keys m None ≡ Some k → get new k ≡ get old k) → places_of new keys ≡ places_of old keys
places_of-same old new [] kept = refl
places_of-same old new (x ∷ keys) kept =
    ap (λ p. p ∷ places_of new keys) (thing_of-same old new x (kept 0))
    ∙ ap (λ ps. thing_of old x ∷ ps) (places_of-same old new keys (λ m k is. kept (suc m) k is))

-- another key at one number changes that place alone, where the other keys keep their things
places_of-set : {T : Type 0} → (old new : Slab T) → (keys : List (Option ℕ)) → (number : ℕ) → (key : Option ℕ)
    → ((m k : ℕ) → m ≢ number → get_or keys m None ≡ Some k → get new k ≡ get old k)
    → places_of new (set keys number key) ≡ set (places_of old keys) number (thing_of new key)
places_of-set old new [] number key kept = refl
places_of-set old new (x ∷ keys) zero key kept =
    ap (λ ps. thing_of new key ∷ ps) (places_of-same old new keys (λ m k is. kept (suc m) k (λ e. omega arith) is))
places_of-set old new (x ∷ keys) (suc number) key kept =
    ap (λ p. p ∷ places_of new (set keys number key)) (thing_of-same old new x (λ k is. kept 0 k (λ e. omega arith) is))
    ∙ ap (λ ps. thing_of old x ∷ ps)
    (places_of-set old new keys number key (λ m k differs is. kept (suc m) k (λ e. differs (omega arith)) is))

-- 1 for a key
abbrev one_if : Option ℕ → ℕ
one_if o = cond (is_some o) 1 0

-- the number of keys after a change
count-set : (keys : List (Option ℕ)) (number : ℕ) (key : Option ℕ) → number < length keys
    → count_by is_some (set keys number key) + cond (is_some (get_or keys number None)) 1 0
    ≡ count_by is_some keys + cond (is_some key) 1 0
count-set keys number key inside = sum_by-set (λ k. cond (is_some k) 1 0) keys number key None inside

-- a number without a key is not counted
count-free : (keys : List (Option ℕ)) (number : ℕ) → number < length keys → get_or keys number None ≡ None
    → count_by is_some keys + 1 ≤ length keys
count-free keys number inside none =
    let one = count-set keys number (Some 0) inside in
    omega (
      arith,
      one,
      ap one_if none,
      count_by-le-length is_some (set keys number (Some 0)),
      length-set keys number (Some 0),
    )

-- ---- a place is filled

module _ {T : Type 0} (slab : Slab T) (keys : List (Option ℕ)) (places : List (Option T))
    (seen : places_of slab keys ≡ places) (keyed : IsKeyed slab keys) (number : ℕ) (within : number < length places)
    (free : get_or places number None ≡ None) where
  pub number_inside : number < length keys
  number_inside = omega (arith, within, as_many slab keys places seen number)

  pub no_key_yet : get_or keys number None ≡ None
  no_key_yet = by (get_or keys number None) refl
    where
      by : (key : Option ℕ) → get_or keys number None ≡ key → key ≡ None
      by None is = refl
      by (Some key) is =
          absurd (false≢true
          (sym (ap is_some (sym (seen_at slab keys places seen number (Some key) is) ∙ free))
          ∙ keyed.there number key is))

  pub has_room : slab_len slab + 1 ≤ slab.capacity
  has_room = omega (arith, count-free keys number number_inside no_key_yet, keyed.counted, keyed.room)

  -- the slab has one thing more, under a key that it did not have
  module _ (new : Slab T) (thing : T) (key : ℕ) (vacant : get slab key ≡ None)
      (updates : Updates slab new key (Some thing)) (size : slab_len new ≡ slab_len slab + 1)
      (capacity : new.capacity ≡ slab.capacity) where
    -- a key that some number has is not the new one
    not_new : (m k : ℕ) → get_or keys m None ≡ Some k → k ≢ key
    not_new m k is e =
        false≢true (sym (ap is_some vacant) ∙ ap (λ (j : ℕ). is_some (get slab j)) (sym e) ∙ keyed.there m k is)

    pub filled_places : places_of new (set keys number (Some key)) ≡ set places number (Some thing)
    filled_places =
        places_of-set slab new keys number (Some key) (λ m k _ is. updates.others k (not_new m k is))
        ∙ ap (set (places_of slab keys) number) updates.changed ∙ ap (λ ps. set ps number (Some thing)) seen

    key_at : (m k : ℕ) → get_or (set keys number (Some key)) m None ≡ Some k
        → ((m ≡ number) × (k ≡ key)) ⊎ ((m ≢ number) × (get_or keys m None ≡ Some k))
    key_at m k is =
        elim (cases_eq m number) [
          | inl same ↦
              inl (
                same,
                same_Some k key
                    (sym is ∙ ap (λ (n : ℕ). get_or (set keys number (Some key)) n None) same
                    ∙ get_or-set_same keys number (Some key) None number_inside),
              )
          | inr differs ↦ inr (differs, sym (get_or-set_other keys number m (Some key) None differs) ∙ is)
        ]

    pub filled_keyed : IsKeyed new (set keys number (Some key))
    filled_keyed = record {
      room = omega (arith, keyed.room, capacity, length-set keys number (Some key));
      counted =
          omega (arith, size, keyed.counted, count-set keys number (Some key) number_inside, ap one_if no_key_yet);
      there = λ m k is. elim (key_at m k is) [
        | inl new_one ↦ ap (λ (j : ℕ). is_some (get new j)) new_one.1 ∙ ap is_some updates.changed
        | inr old_one ↦ ap is_some (updates.others k (not_new m k old_one.1)) ∙ keyed.there m k old_one.1
      ];
      apart = λ m n k here there. elim (key_at m k here) [
        | inl a ↦ elim (key_at n k there) [ inl b ↦ a.0 ∙ sym b.0 | inr b ↦ absurd (not_new n k b.1 a.1) ]
        | inr a ↦ elim (key_at n k there)
            [ inl b ↦ absurd (not_new m k a.1 b.1) | inr b ↦ keyed.apart m n k a.1 b.1 ]
      ];
    }

-- ---- a place is freed

-- the slab has one thing less, that of a number
module _ {T : Type 0} (old new : Slab T) (keys : List (Option ℕ)) (places : List (Option T))
    (seen : places_of old keys ≡ places) (keyed : IsKeyed old keys) (key number : ℕ)
    (updates : Updates old new key None)
    (size : OnSome (get old key) (slab_len new + 1 ≡ slab_len old)) (capacity : new.capacity ≡ old.capacity)
    (here : get_or keys number None ≡ Some key) where
  inside : number < length keys
  inside =
      elim (cases_lt number (length keys))
      [ inl below ↦ below | inr past ↦ absurd (none-some key (sym (get_or_past keys number None past) ∙ here)) ]

  one_less : slab_len new + 1 ≡ slab_len old
  one_less = by (get old key) (keyed.there number key here) size
    where
      by : (o : Option T) → IsSome o → OnSome o (slab_len new + 1 ≡ slab_len old) → slab_len new + 1 ≡ slab_len old
      by (Some h) some holds = holds
      by None some holds = absurd (false≢true some)

  other_key : (m k : ℕ) → m ≢ number → get_or keys m None ≡ Some k → k ≢ key
  other_key m k differs is e =
      differs (keyed.apart m number key (is ∙ ap Some e) here)

  pub freed_places : places_of new (set keys number None) ≡ set places number None
  freed_places =
      places_of-set old new keys number None (λ m k differs is. updates.others k (other_key m k differs is))
      ∙ ap (λ ps. set ps number None) seen

  key_left : (m k : ℕ) → get_or (set keys number None) m None ≡ Some k → (m ≢ number) × (get_or keys m None ≡ Some k)
  key_left m k is =
      elim (cases_eq m number) [
        | inl same ↦
            absurd (none-some k
            (sym (ap (λ (n : ℕ). get_or (set keys number None) n None) same
            ∙ get_or-set_same keys number None None inside) ∙ is))
        | inr differs ↦ (differs, sym (get_or-set_other keys number m None None differs) ∙ is)
      ]

  pub freed_keyed : IsKeyed new (set keys number None)
  freed_keyed = record {
    room = omega (arith, keyed.room, capacity, length-set keys number None);
    counted = omega (arith, one_less, keyed.counted, count-set keys number None inside, ap one_if here);
    there = λ m k is.
        (let left = key_left m k is in
        ap is_some (updates.others k (other_key m k left.0 left.1)) ∙ keyed.there m k left.1);
    apart = λ m n k here there. keyed.apart m n k (key_left m k here).1 (key_left n k there).1;
  }

-- a place that is free, or is none of the table, stays as it is
pub free_already : {T : Type 0} → (places : List (Option T)) → (number : ℕ) → get_or places number None ≡ None
    → places ≡ set places number None
free_already [] number none = refl
free_already (place ∷ places) zero none = ap (λ p. p ∷ places) none
free_already (place ∷ places) (suc number) none = ap (λ ps. place ∷ ps) (free_already places number none)

-- ---- a thing is changed

module _ {T : Type 0} (old : Slab T) (keys : List (Option ℕ)) (places : List (Option T))
    (seen : places_of old keys ≡ places) (keyed : IsKeyed old keys) (key number : ℕ)
    (here : get_or keys number None ≡ Some key) (w : T) where
  has_slot : key < length old.slots
  has_slot =
      elim (cases_lt key (length old.slots)) [
        | inl below ↦ below
        | inr past ↦
            absurd (false≢true (sym (ap is_some (get_or_past old.slots key None past)) ∙ keyed.there number key here))
      ]

  pub written_places : places_of (with_value old key w) keys ≡ set places number (Some w)
  written_places =
      ap (places_of (with_value old key w)) (sym (set-get_or keys number None) ∙ ap (set keys number) here)
      ∙ places_of-set old (with_value old key w) keys number (Some key)
      (λ m k differs is.
      get_or-set_other old.slots key k (Some w) None
      (λ e. differs (keyed.apart m number key (is ∙ ap Some e) here)))
      ∙ ap (set (places_of old keys) number) (get_or-set_same old.slots key (Some w) None has_slot)
      ∙ ap (λ ps. set ps number (Some w)) seen

-- ---- no thing

-- all places are free where no number has a key
places_of-none : {T : Type 0} → (slab : Slab T) → (n : ℕ) → places_of slab (replicate n None) ≡ replicate n None
places_of-none slab zero = refl
places_of-none slab (suc n) = ap (λ ps. None ∷ ps) (places_of-none slab n)

count-none : (n : ℕ) → count_by is_some (replicate {A = Option ℕ} n None) ≡ 0
count-none zero = refl
count-none (suc n) = count-none n

no_key-none : (n m : ℕ) → get_or (replicate {A = Option ℕ} n None) m None ≡ None
no_key-none zero m = get_or_past [] m None (omega arith)
no_key-none (suc n) zero = refl
no_key-none (suc n) (suc m) = no_key-none n m

module _ {T : Type 0} (slab : Slab T) (keys : List (Option ℕ)) (n : ℕ) (none : keys ≡ replicate n None) where
  pub new_places : places_of slab keys ≡ replicate n None
  new_places = ap (places_of slab) none ∙ places_of-none slab n

  no_key : (m : ℕ) → get_or keys m None ≡ None
  no_key m = ap (λ ks. get_or ks m None) none ∙ no_key-none n m

  pub new_keyed : slab.slots ≡ [] → n ≤ slab.capacity → IsKeyed slab keys
  new_keyed empty room = record {
    room = omega (arith, room, ap length none, length-replicate {A = Option ℕ} n None);
    counted = ap (count_by is_some) empty ∙ sym (ap (count_by is_some) none ∙ count-none n);
    there = λ m k is. absurd (none-some k (sym (no_key m) ∙ is));
    apart = λ m _ k here _. absurd (none-some k (sym (no_key m) ∙ here));
  }

-- one more number without a key
pub replicate-push : (n : ℕ) → replicate {A = Option ℕ} n None ++ None ∷ [] ≡ replicate (n + 1) None
replicate-push n = replicate-append-replicate n 1 None

pub ruleset more_none = (replicate-push)

-- ---- one more number

-- it has no key
get_or-wider : (keys : List (Option ℕ)) (m : ℕ) → get_or (keys ++ None ∷ []) m None ≡ get_or keys m None
get_or-wider [] zero = refl
get_or-wider [] (suc m) = refl
get_or-wider (key ∷ keys) zero = refl
get_or-wider (key ∷ keys) (suc m) = get_or-wider keys m

count-wider : (keys : List (Option ℕ)) → count_by is_some (keys ++ None ∷ []) ≡ count_by is_some keys
count-wider keys =
    let all : count_by is_some (keys ++ None ∷ []) ≡ count_by is_some keys + 0 =
    sum_by-append (λ k. cond (is_some k) 1 0) keys (None ∷ []) in
    omega (arith, all)

length-wider : (keys : List (Option ℕ)) → length (keys ++ None ∷ []) ≡ length keys + 1
length-wider keys = length-append keys (None ∷ [])

places_of-wider : {T : Type 0} → (slab : Slab T) → (keys : List (Option ℕ))
    → places_of slab (keys ++ None ∷ []) ≡ places_of slab keys ++ None ∷ []
places_of-wider slab [] = refl
places_of-wider slab (key ∷ keys) = ap (λ ps. thing_of slab key ∷ ps) (places_of-wider slab keys)

-- the slab has the same things and perhaps more room
module _ {T : Type 0} (old new : Slab T) (keys : List (Option ℕ)) (keyed : IsKeyed old keys)
    (same : new ≡ record old { capacity = new.capacity }) where
  same_slots : new.slots ≡ old.slots
  same_slots = ap (λ s. s.slots) same

  same_get : (k : ℕ) → get new k ≡ get old k
  same_get k = ap (λ slots. get_or slots k None) same_slots

  pub same_len : slab_len new ≡ slab_len old
  same_len = ap (count_by is_some) same_slots

  pub reserved_places : places_of new keys ≡ places_of old keys
  reserved_places = places_of-same old new keys (λ m k is. same_get k)

  pub reserved_keyed : old.capacity ≤ new.capacity → IsKeyed new keys
  reserved_keyed more = record {
    room = omega (arith, keyed.room, more);
    counted = same_len ∙ keyed.counted;
    there = λ m k is. ap is_some (same_get k) ∙ keyed.there m k is;
    apart = keyed.apart;
  }

  pub widened_places : (places : List (Option T)) → places_of old keys ≡ places
      → places_of new (keys ++ None ∷ []) ≡ places ++ None ∷ []
  widened_places places seen =
      places_of-wider new keys ∙ ap (λ ps. ps ++ None ∷ []) (reserved_places ∙ seen)

  pub widened_keyed : length keys + 1 ≤ new.capacity → IsKeyed new (keys ++ None ∷ [])
  widened_keyed room = record {
    room = omega (arith, room, length-wider keys);
    counted = same_len ∙ keyed.counted ∙ sym (count-wider keys);
    there = λ m k is. ap is_some (same_get k) ∙ keyed.there m k (sym (get_or-wider keys m) ∙ is);
    apart = λ m n k here there.
        keyed.apart m n k (sym (get_or-wider keys m) ∙ here) (sym (get_or-wider keys n) ∙ there);
  }

-- the slab has no more things than there are numbers
pub few_things : {T : Type 0} → (slab : Slab T) → (keys : List (Option ℕ)) → IsKeyed slab keys
    → slab_len slab ≤ length keys
few_things slab keys keyed = omega (arith, keyed.counted, count_by-le-length is_some keys)
