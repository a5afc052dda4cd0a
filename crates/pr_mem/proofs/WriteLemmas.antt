-- What is written where: the mappings that meet a range of bytes stand behind each other, and the others stay.
use Rattle.std.proofs.Common.{◌≡◌, ℕ, zero, suc, ◌+◌, ◌<◌, ◌≤◌, List, [], ◌∷◌, ◌++◌, length, map, take, drop, get_or, refl, sym, ◌∙◌, ap, arith, subst, inl, inr, ltb, set}
use Rattle.std.specs.List.{All, AllWithin}
use Rattle.std.proofs.lemmas.Bool.{cases_Bool, ltb-true, ltb-false}
use Rattle.std.proofs.lemmas.List.{drop_more, get_or_at, length-map, length-take-le, map-append, take-append-drop}
use Rattle.pr_num.specs.Spaces.{Space, IsSpace}
use Rattle.pr_num.specs.declared.mappings.Mapping.{Mapping}
use Rattle.pr_parts.specs.AddressSpaces.{with_bytes, with_written}
use Rattle.pr_parts.proofs.AccessLemmas.{written_bytes-outside}
use Rattle.pr_num.proofs.TableLemmas.{map_step}
use Rattle.pr_mem.specs.Places.{IsLast, IsPlace}
use Rattle.pr_mem.proofs.PlaceLemmas.{ends_first}

-- a mapping that has no byte of a range of bytes stays
abbrev Stays : ℕ → List ℕ → Mapping → Type 0
Stays at bytes m = with_written at bytes m ≡ m

stays_before : (at : ℕ) (bytes : List ℕ) (m : Mapping) → m.at + length m.bytes ≤ at → Stays at bytes m
unfolding with_written
stays_before at bytes m ends =
    ap (λ (b : List ℕ). record m { bytes = b }) (written_bytes-outside at bytes m.at m.bytes (λ k h p q. omega arith))

stays_behind : (at : ℕ) (bytes : List ℕ) (m : Mapping) → at + length bytes ≤ m.at → Stays at bytes m
unfolding with_written
stays_behind at bytes m begins =
    ap (λ (b : List ℕ). record m { bytes = b }) (written_bytes-outside at bytes m.at m.bytes (λ k h p q. omega arith))

-- what stays in front of a place, or from it on
map_front : (f : Mapping → Mapping) (xs : Space) (i : ℕ) → AllWithin (λ x. f x ≡ x) xs 0 i
    → map f (take i xs) ≡ take i xs
map_front f xs zero stay = refl
map_front f [] (suc i) stay = refl
map_front f (x ∷ xs) (suc i) stay =
    rw (
      stay 0 x (omega arith) (omega arith),
      map_front f xs i (λ k d low high. stay (suc k) d (omega arith) (omega arith)),
    ) refl

map_all : (f : Mapping → Mapping) (xs : Space) → All (λ x. f x ≡ x) xs → map f xs ≡ xs
map_all f [] stay = refl
map_all f (x ∷ xs) stay = rw (stay 0 x (omega arith), map_all f xs (λ k d within. stay (suc k) d (omega arith))) refl

map_back : (f : Mapping → Mapping) (xs : Space) (i : ℕ) → AllWithin (λ x. f x ≡ x) xs i (length xs)
    → map f (drop i xs) ≡ drop i xs
map_back f xs zero stay = map_all f xs (λ k d within. stay k d (omega arith) within)
map_back f [] (suc i) stay = refl
map_back f (x ∷ xs) (suc i) stay = map_back f xs i (λ k d low high. stay (suc k) d (omega arith) (omega arith))

-- so many mappings are written over
pub is_written-start : (at : ℕ) (bytes : List ℕ) (space : Space) (first : ℕ) → IsPlace space at first
    → space ≡ map (with_written at bytes) (take first space) ++ drop first space
is_written-start at bytes space first place =
    let front =
    map_front (with_written at bytes) space first
    (λ k d low high. stays_before at bytes (get_or space k d) (place.before k d low high)) in
    sym (ap (λ xs. xs ++ drop first space) front ∙ take-append-drop first space)

written : (at : ℕ) (bytes : List ℕ) (space now : Space) (i : ℕ)
    → now ≡ map (with_written at bytes) (take i space) ++ drop i space
    → AllWithin (Stays at bytes) space i (length space) → now ≡ with_bytes at bytes space
unfolding with_bytes
written at bytes space now i so_far stay =
    let f = with_written at bytes in
    so_far ∙ ap (λ xs. map f (take i space) ++ xs) (sym (map_back f space i stay))
    ∙ sym (map-append f (take i space) (drop i space)) ∙ ap (map f) (take-append-drop i space)

-- the one in a place is, and the others begin behind the bytes
pub is_written-one : (at : ℕ) (bytes : List ℕ) (space : Space) (place : ℕ) (m n : Mapping) → IsSpace space
    → IsPlace space at place → IsLast space place (at + length bytes) → place < length space
    → n ≡ with_written at bytes (get_or space place m) → set space place n ≡ with_bytes at bytes space
is_written-one at bytes space place m n kept is last within step =
    let f = with_written at bytes in
    let so_far = map_step f space space place m within (is_written-start at bytes space place is) in
    written at bytes space (set space place n) (place + 1) (ap (set space place) step ∙ so_far)
    (λ k d from near. stays_behind at bytes (get_or space k d) (behind k d from near))
  where
    behind : (k : ℕ) (d : Mapping) → place + 1 ≤ k → k < length space → at + length bytes ≤ (get_or space k d).at
    behind k d from near =
        elim (cases_Bool (ltb (place + 1) k)) [
          | inl t ↦
              omega (
                arith,
                last.next d (omega arith),
                ends_first space (place + 1) k d kept (ltb-true (place + 1) k t) near,
              )
          | inr f ↦ let order =
              ltb-false (place + 1) k f in let e : place + 1 ≡ k = omega arith in
              subst (λ (n : ℕ). at + length bytes ≤ (get_or space n d).at) e (last.next d (omega arith))
        ]

-- nothing is mapped from the place on
pub is_written-none : (at : ℕ) (bytes : List ℕ) (space : Space) (place : ℕ) → IsPlace space at place
    → length space ≤ place → space ≡ with_bytes at bytes space
is_written-none at bytes space place is all =
    written at bytes space space place (is_written-start at bytes space place is) (λ k d low near. absurd (omega arith))

-- all of them are
pub is_written-all : (at : ℕ) (bytes : List ℕ) (space now : Space) (i : ℕ)
    → now ≡ map (with_written at bytes) (take i space) ++ drop i space → length space ≤ i
    → now ≡ with_bytes at bytes space
is_written-all at bytes space now i so_far all =
    written at bytes space now i so_far (λ k d low high. absurd (omega arith))

-- the others begin behind the bytes
pub is_written-reached : (at : ℕ) (bytes : List ℕ) (space now : Space) (i : ℕ) (m : Mapping) → IsSpace space
    → now ≡ map (with_written at bytes) (take i space) ++ drop i space → i < length space
    → at + length bytes ≤ (get_or now i m).at → now ≡ with_bytes at bytes space
is_written-reached at bytes space now i m kept so_far within begins =
    written at bytes space now i so_far
    (λ k d from near. stays_behind at bytes (get_or space k d) (behind k d from near))
  where
    same : (d : Mapping) → get_or now i m ≡ get_or space i d
    same d =
        let f = with_written at bytes in
        let front = length-map (take i space) f ∙ length-take-le i space (omega arith) in
        let parts = so_far ∙ ap (λ zs. map f (take i space) ++ zs) (drop_more space i d within) in
        ap (λ xs. get_or xs i m) parts
        ∙ get_or_at (map f (take i space)) (get_or space i d) (drop (i + 1) space) m i front

    starts : (d : Mapping) → at + length bytes ≤ (get_or space i d).at
    starts d = subst (λ (n : Mapping). at + length bytes ≤ n.at) (same d) begins

    behind : (k : ℕ) (d : Mapping) → i ≤ k → k < length space → at + length bytes ≤ (get_or space k d).at
    behind k d from near =
        elim (cases_Bool (ltb i k)) [
          | inl t ↦ omega (arith, starts d, ends_first space i k d kept (ltb-true i k t) near)
          | inr f ↦ let order =
              ltb-false i k f in let e : i ≡ k = omega arith in
              subst (λ (n : ℕ). at + length bytes ≤ (get_or space n d).at) e (starts d)
        ]
