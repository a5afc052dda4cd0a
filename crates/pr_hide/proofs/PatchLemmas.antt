-- What the walks over patches find, and how patches come and go.
use Rattle.std.proofs.Common.{◌≡◌, ℕ, cond, Option, Some, None, List, [], ◌∷◌, refl, sym, ◌∙◌, ap}
use Rattle.std.specs.List.{find, insert, position, remove}
use Rattle.pr_num.specs.KeyedTables.{without_first}
use Rattle.pr_num.proofs.TableLemmas.{remove-without_first, without_first-no_place}
use Rattle.pr_hidden.specs.Covers.{Patch}
use Rattle.pr_hidden.specs.Hiders.{begins_at, patch_at, without_patch}

pub patch_at-find : (at : ℕ) (ps : List Patch) → find (begins_at at) ps ≡ patch_at at ps
patch_at-find at [] = refl
patch_at-find at (p ∷ ps) = ap (λ (rest : Option Patch). cond (begins_at at p) (Some p) rest) (patch_at-find at ps)

without_patch-first : (at : ℕ) (ps : List Patch) → without_first (begins_at at) ps ≡ without_patch at ps
without_patch-first at [] = refl
without_patch-first at (p ∷ ps) =
    ap (λ (rest : List Patch). cond (begins_at at p) ps (p ∷ rest)) (without_patch-first at ps)

pub removed-patch : (at : ℕ) (ps : List Patch) (i : ℕ) → position (begins_at at) ps ≡ Some i
    → remove ps i ≡ without_patch at ps
removed-patch at ps i there = remove-without_first (begins_at at) ps i there ∙ without_patch-first at ps

pub no-patch : (at : ℕ) (ps : List Patch) → position (begins_at at) ps ≡ None → without_patch at ps ≡ ps
no-patch at ps none = sym (without_patch-first at ps) ∙ without_first-no_place (begins_at at) ps none

pub inserted-first : {X : Type 0} (x : X) (xs : List X) → insert xs 0 x ≡ x ∷ xs
inserted-first x xs = refl

pub ruleset patches = (patch_at-find, removed-patch, no-patch, inserted-first)
