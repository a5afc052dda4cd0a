-- Where names are placed.
use Rattle.std.proofs.Common.{◌≡◌, ℕ, ◌+◌, ◌≤◌, Bool, not, true, false, cond, Option, Some, None, is_some, List, ◌∷◌, length, drop, Result, Ok, Err, refl, sym, ◌∙◌, ap}
use Rattle.std.specs.Str.{bytes_eq}
use Rattle.std.specs.BTreeMap.{Updates}
use Rattle.std.proofs.lemmas.List.{drop_all}
use Rattle.std.proofs.lemmas.Slice.Eq.{bytes_eq-Decides}
use Rattle.pr_asm.specs.declared.layouts.Layout.{Layout}
use Rattle.pr_asm.specs.declared.places.Place.{Place}
use Rattle.pr_asm.specs.declared.places.Places.{Places}
use Rattle.pr_asm.specs.declared.refusals.AsmKind.{AsmKind}
use Rattle.pr_asm.specs.declared.statements.Statement.{Statement}
use Rattle.pr_asm.specs.Placing.{found, placed, placed_from, place_among, place_in, layout_after, nothing_above, and_then_all, SeesLine}
use Rattle.pr_text.specs.Keys.{key_cmp}
use Rattle.pr_text.proofs.KeyLemmas.{same_key}
use Rattle.std.specs.Option.{option_or}

option_or-none : {A : Type 0} (x : Option A) → option_or x None ≡ x
option_or-none None = refl
option_or-none (Some x) = refl

option_or-option_or : {A : Type 0} (x y z : Option A) → option_or (option_or x y) z ≡ option_or x (option_or y z)
option_or-option_or None y z = refl
option_or-option_or (Some x) y z = refl

-- a name that was not there is added, and the others are found as before
with_name : (b : Bool) (was now : Option Place) (place : Place) → (b ≡ true → was ≡ None)
    → now ≡ cond b (Some place) was → now ≡ option_or was (cond b (Some place) None)
with_name true was now place fresh e = e ∙ ap (λ o. option_or o (Some place)) (sym (fresh refl))
with_name false was now place fresh e = e ∙ sym (option_or-none was)

pub added : (old new : Places) (name : List ℕ) (place : Place)
    → Updates key_cmp old.map new.map (record { name = name }) (Some place) → found old name ≡ None → (other : List ℕ)
    → found new other ≡ option_or (found old other) (cond (bytes_eq other name) (Some place) None)
unfolding found
added old new name place u fresh other =
    with_name (bytes_eq other name) (found old other) (found new other) place
    (λ same. ap (found old) ((bytes_eq-Decides other name).0 same) ∙ fresh)
    (u.0 (record { name = other }) ∙ ap (λ b. cond b (Some place) (found old other)) (same_key name other))

-- a name that was there stays where it was
kept_or : (b : Bool) (was : Option Place) (place : Place) → (b ≡ true → was ≡ None → ⊥)
    → was ≡ option_or was (cond b (Some place) None)
kept_or true None place there = absurd (there refl refl)
kept_or true (Some p) place there = refl
kept_or false was place there = sym (option_or-none was)

pub kept : (old : Places) (name : List ℕ) (place : Place) → (found old name ≡ None → ⊥) → (other : List ℕ)
    → found old other ≡ option_or (found old other) (cond (bytes_eq other name) (Some place) None)
kept old name place there other =
    kept_or (bytes_eq other name) (found old other) place
    (λ same none. there (ap (found old) (sym ((bytes_eq-Decides other name).0 same)) ∙ none))

-- an option that is not some is none
pub not_some : {A : Type 0} (o p : Option A) (b : Bool) → is_some o ≡ not b → b ≡ true → o ≡ p → p ≡ None
not_some None p b some yet e = sym e
not_some (Some x) p true some yet e = cc
not_some (Some x) p false some yet e = cc

-- what one line does: a line that is refused, one that places nothing, and one that places a name
pub line-refused : (places : Places) (above : Layout) (line : ℕ) (read : Result Statement AsmKind) (kind : AsmKind)
    → read ≡ Err kind → SeesLine places places above above line read
unfolding placed_from
line-refused places above line read kind e = record {
  same = λ rest name.
      ap (λ r. option_or (found places name) (place_among (placed_from above line (r ∷ rest)) name)) (sym e);
}

module _ (old new : Places) (above below : Layout) (line : ℕ) (read : Result Statement AsmKind) (s : Statement)
    (is : read ≡ Ok s) (under : below ≡ layout_after above s) where
  -- the places below a line, as its statement has them
  below_line : (rest : List (Result Statement AsmKind))
      → and_then_all (placed above line s) (placed_from below (line + 1) rest) ≡ placed_from above line (read ∷ rest)
  unfolding placed_from
  below_line rest =
      ap (λ u. and_then_all (placed above line s) (placed_from u (line + 1) rest)) under
      ∙ ap (λ r. placed_from above line (r ∷ rest)) (sym is)

  pub line-silent : new ≡ old → placed above line s ≡ None → SeesLine old new above below line read
  line-silent same none = record {
    same = λ rest name. ap (λ p. option_or (found p name) (place_among (placed_from below (line + 1) rest) name)) same
        ∙ ap (λ o. option_or (found old name) (place_among (and_then_all o (placed_from below (line + 1) rest)) name))
        (sym none)
        ∙ ap (λ ps. option_or (found old name) (place_among ps name)) (below_line rest);
  }

among-cons : (here : List ℕ) (place : Place) (rest : List (List ℕ × Place)) (name : List ℕ)
    → place_among ((here, place) ∷ rest) name
    ≡ option_or (cond (bytes_eq name here) (Some place) None) (place_among rest name)
unfolding place_among
among-cons here place rest name =
    elim (bytes_eq name here)
    as (λ b. cond b (Some place) (place_among rest name)
    ≡ option_or (cond b (Some place) None) (place_among rest name)) [ true ↦ refl | false ↦ refl ]

module _ (old new added : Places) (above below : Layout) (line : ℕ) (read : Result Statement AsmKind) (s : Statement)
    (is : read ≡ Ok s) (under : below ≡ layout_after above s) where
  pub line-placed : (here : List ℕ) (place : Place) → new ≡ added → placed above line s ≡ Some (here, place)
      → ((other : List ℕ)
      → found added other ≡ option_or (found old other) (cond (bytes_eq other here) (Some place) None))
      → SeesLine old new above below line read
  line-placed here place same at_here add = record {
    same = λ rest name. let others = placed_from below (line + 1) rest in
        ap (λ p. option_or (found p name) (place_among others name)) same
        ∙ ap (λ o. option_or o (place_among others name)) (add name)
        ∙ option_or-option_or (found old name) _ _
        ∙ ap (option_or (found old name)) (sym (among-cons here place others name))
        ∙ ap (λ o. option_or (found old name) (place_among (and_then_all o others) name)) (sym at_here)
        ∙ ap (λ ps. option_or (found old name) (place_among ps name))
        (below_line old new above below line read s is under rest);
  }

-- before the first line, and after the last
pub places-start : (places : Places) (first n : ℕ) (reads : List (Result Statement AsmKind)) → n ≡ first
    → ((name : List ℕ) → found places name ≡ None) → (name : List ℕ)
    → option_or (found places name) (place_among (placed_from nothing_above n reads) name) ≡ place_in first reads name
unfolding place_in
places-start places first n reads e empty name =
    ap (λ o. option_or o (place_among (placed_from nothing_above n reads) name)) (empty name)
    ∙ ap (λ m. place_among (placed_from nothing_above m reads) name) e

pub places-end : (places : Places) (above : Layout) (line first n : ℕ) (reads : List (Result Statement AsmKind))
    → length reads ≤ n
    → ((name : List ℕ)
    → option_or (found places name) (place_among (placed_from above line (drop n reads)) name)
    ≡ place_in first reads name) → (name : List ℕ) → found places name ≡ place_in first reads name
unfolding placed_from place_among
places-end places above line first n reads over kept name =
    sym (option_or-none (found places name))
    ∙ ap (λ rs. option_or (found places name) (place_among (placed_from above line rs) name))
    (sym (drop_all n reads over)) ∙ kept name
