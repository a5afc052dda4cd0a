-- Names and their places.
use Rattle.std.proofs.Common.{◌≡◌, ℕ, ◌+◌, ◌<◌, Bool, true, false, cond, Option, Some, None, List, [], ◌∷◌, ◌++◌, length, refl, sym, ◌∙◌, ap, arith}
use Rattle.std.specs.BTreeMap.{BTreeMap, IsEmpty, Updates, get}
use Rattle.std.specs.List.{position_from}
use Rattle.std.specs.Map.{lookup}
use Rattle.std.specs.Option.{IfSome, option_or}
use Rattle.std.specs.Ordering.{is_eq}
use Rattle.std.specs.Str.{bytes_eq}
use Rattle.std.proofs.lemmas.Slice.Eq.{bytes_eq-Decides}
use Rattle.pr_scen.specs.Names.{place_of, IsIndex}
use Rattle.pr_text.specs.declared.keys.Key.{Key}
use Rattle.pr_text.specs.Keys.{key_cmp}
use Rattle.pr_text.proofs.KeyLemmas.{same_key}

-- the first place at which one of more elements passes
place-push : {X : Type 0} (p : X → Bool) (i : ℕ) (xs : List X) (y : X)
    → position_from p i (xs ++ y ∷ []) ≡ option_or (position_from p i xs) (cond (p y) (Some (i + length xs)) None)
place-push p i [] y = ap (λ n. cond (p y) (Some n) None) (omega arith)
place-push p i (x ∷ xs) y =
    ap (cond (p x) (Some i))
    (place-push p (i + 1) xs y
    ∙ ap (λ n. option_or (position_from p (i + 1) xs) (cond (p y) (Some n) None)) (omega arith))
    ∙ out (p x) i (position_from p (i + 1) xs) _
  where
    out : (b : Bool) (i : ℕ) (rest other : Option ℕ)
        → cond b (Some i) (option_or rest other) ≡ option_or (cond b (Some i) rest) other
    out true i rest other = refl
    out false i rest other = refl

pub index-empty : (places : BTreeMap Key ℕ) → IsEmpty places → IsIndex [] places
unfolding place_of
index-empty places empty =
    record { found = λ name. ap (lookup (λ k. is_eq (key_cmp (record { name = name }) k))) empty }

-- one name more, which is not among them
with_one : (b : Bool) (was : Option ℕ) (n : ℕ) → (b ≡ true → was ≡ None)
    → cond b (Some n) was ≡ option_or was (cond b (Some n) None)
with_one true was n fresh = ap (λ o. option_or o (Some n)) (sym (fresh refl))
with_one false None n fresh = refl
with_one false (Some i) n fresh = refl

pub index-push : (names : List (List ℕ)) (old new : BTreeMap Key ℕ) (name : List ℕ) (n : ℕ) → IsIndex names old
    → place_of names name ≡ None → n ≡ length names → Updates key_cmp old new (record { name = name }) (Some n)
    → IsIndex (names ++ name ∷ []) new
unfolding place_of
index-push names old new name n index fresh at u = record {
  found = λ other.
      u.0 (record { name = other })
      ∙ ap (λ b. cond b (Some n) (get key_cmp old (record { name = other }))) (same_key name other)
      ∙ ap (cond (bytes_eq other name) (Some n)) (index.found other)
      ∙ with_one (bytes_eq other name) (position_from (bytes_eq other) 0 names) n
      (λ same. ap (λ q. position_from (bytes_eq q) 0 names) ((bytes_eq-Decides other name).0 same) ∙ fresh)
      ∙ ap (λ m. option_or (position_from (bytes_eq other) 0 names) (cond (bytes_eq other name) (Some m) None))
      (omega (arith, at))
      ∙ sym (place-push (bytes_eq other) 0 names name);
}

-- a place that was found is one of them
from_inside : {X : Type 0} (p : X → Bool) (i : ℕ) (xs : List X) → IfSome (position_from p i xs) (λ k. k < i + length xs)
from_inside p i [] = tt
from_inside p i (x ∷ xs) = at (p x) (position_from p (i + 1) xs) (from_inside p (i + 1) xs)
  where
    at : (b : Bool) (o : Option ℕ) → IfSome o (λ k. k < i + 1 + length xs)
        → IfSome (cond b (Some i) o) (λ k. k < i + length (x ∷ xs))
    at true o h = omega arith
    at false None h = tt
    at false (Some k) h = omega arith

pub place_inside : (names : List (List ℕ)) (name : List ℕ)
    → IfSome (place_of names name) (λ place. place < length names)
unfolding place_of
place_inside names name = at (position_from (bytes_eq name) 0 names) (from_inside (bytes_eq name) 0 names)
  where
    at : (o : Option ℕ) → IfSome o (λ k. k < 0 + length names) → IfSome o (λ k. k < length names)
    at None h = tt
    at (Some k) h = omega arith
