use Rattle.std.proofs.Common.{◌≡◌, ℕ, Bool, true, false, ◌||◌, cond, Some, None, IsSome, List, [], ◌∷◌, ◌++◌, refl, sym, ◌∙◌, ap, subst}
use Rattle.std.specs.List.{All, find, list_any, slice_get}
use Rattle.std.proofs.lemmas.List.Elements.{All-get_or, All-head, All-tail}
use Rattle.std.proofs.lemmas.Option.{get_or_from_slice_get, none-some, same_Some, slice_get_within}
use Rattle.std.proofs.lemmas.Bool.{or_parts}

-- Laws of searches and tests in lists.

-- what is found passes the test
pub find-passes : {X : Type 0} (p : X → Bool) (xs : List X) (x : X) → find p xs ≡ Some x → p x ≡ true
find-passes p [] x found = cc
find-passes p (y ∷ ys) x found =
    elim (p y) as (λ b. p y ≡ b → cond b (Some y) (find p ys) ≡ Some x → p x ≡ true)
    [ true ↦ λ here e. ap p (sym (same_Some y x e)) ∙ here | false ↦ λ _ e. find-passes p ys x e ] refl found

-- what one search finds, no search that finds nothing passes
pub none-passes : {X : Type 0} (p q : X → Bool) (xs : List X) (x : X) → find q xs ≡ Some x → find p xs ≡ None
    → p x ≡ false
none-passes p q [] x there none = cc
none-passes p q (y ∷ ys) x there none =
    elim (p y) as (λ b. p y ≡ b → cond b (Some y) (find p ys) ≡ None → p x ≡ false) [
      | true ↦ λ _ e. absurd (none-some y (sym e))
      | false ↦ λ not_here e.
          (elim (q y) as (λ b. cond b (Some y) (find q ys) ≡ Some x → p x ≡ false)
          [ true ↦ λ f. ap p (sym (same_Some y x f)) ∙ not_here | false ↦ λ f. none-passes p q ys x f e ]) there
    ] refl
    none

-- what holds of each holds of what is found
pub All-find : {X : Type 0} (P : X → Type 0) (p : X → Bool) (xs : List X) (x : X) → All P xs → find p xs ≡ Some x → P x
All-find P p [] x all found = absurd (cc)
All-find P p (y ∷ ys) x all found =
    elim (p y) as (λ b. cond b (Some y) (find p ys) ≡ Some x → P x) [
      | true ↦ λ e. subst P (same_Some y x e) (All-head P y ys all)
      | false ↦ λ e. All-find P p ys x (All-tail P y ys all) e
    ] found

-- some element passes exactly where a search finds one
pub list_any-find : {X : Type 0} (p : X → Bool) (xs : List X) → list_any p xs ≡ true → IsSome (find p xs)
list_any-find p [] some = cc
list_any-find p (x ∷ xs) some =
    elim (p x) as (λ b. (b || list_any p xs) ≡ true → IsSome (cond b (Some x) (find p xs)))
    [ true ↦ λ _. refl | false ↦ λ e. list_any-find p xs e ] some

-- a search finds nothing where no element passes
pub list_any-find_none : {X : Type 0} (p : X → Bool) (xs : List X) → find p xs ≡ None → list_any p xs ≡ false
list_any-find_none p [] none = refl
list_any-find_none p (x ∷ xs) none =
    elim (p x) as (λ b. cond b (Some x) (find p xs) ≡ None → (b || list_any p xs) ≡ false)
    [ true ↦ λ e. cc | false ↦ λ e. list_any-find_none p xs e ] none

-- what holds of each holds of what stands at a place
pub All-at : {X : Type 0} (P : X → Type 0) (xs : List X) (i : ℕ) (x : X) → slice_get xs i ≡ Some x → All P xs → P x
All-at P xs i x there all =
    subst P (get_or_from_slice_get xs i x x there) (All-get_or P xs i x (slice_get_within xs i x there) all)

-- no element passes where none passes and neither does the one behind them
pub list_any-push : {X : Type 0} (p : X → Bool) (xs : List X) (x : X) → list_any p xs ≡ false → p x ≡ false
    → list_any p (xs ++ x ∷ []) ≡ false
list_any-push p [] x none last = ap (λ b. b || false) last
list_any-push p (y ∷ ys) x none last =
    let parts = or_parts (p y) (list_any p ys) none in
    rw (parts.0, list_any-push p ys x parts.1 last) refl
