-- The nearest area that watches is the first hit of an access.
use Rattle.std.proofs.Common.{◌≡◌, ◌⊎◌, ℕ, zero, suc, ◌+◌, ◌-◌, ◌^◌, ◌%◌, ◌<◌, ◌≤◌, Bool, true, false, leb, cond, Option, Some, None, is_some, List, [], ◌∷◌, refl, sym, ◌∙◌, ap, arith, inl, inr, subst}
use Rattle.std.specs.Prelude.{◌&&◌, nat_le, nat_lt}
use Rattle.std.specs.List.{All}
use Rattle.std.proofs.lemmas.Bool.{leb-true, leb-false, false≢true, cases_Bool}
use Rattle.std.proofs.lemmas.List.Elements.{All-head, All-tail}
use Rattle.std.proofs.lemmas.Option.{same_Some}
use Rattle.pr_num.specs.Control.{has_flags}
use Rattle.pr_num.specs.declared.mappings.Area.{Area}
use Rattle.pr_parts.specs.WatchedAreas.{AreAreas, first_hit, watches, watcher, hit_in}
use Rattle.pr_watch.specs.Steps.{hit_at, steps_to, fewer, nearer, nearest_from}
use Rattle.pr_num.proofs.NumberLemmas.{wrapped-step}

-- ---- one area

abbrev inside : ℕ → Area → Bool
inside address a = nat_le a.at address && nat_lt address (a.at + a.size)

-- an area that has bytes and does not wrap
record Fits (a : Area) : Type 0 where
  pub some : 0 < a.size
  pub within : a.at + a.size ≤ 2 ^ 64

mod_past : (x : ℕ) → 2 ^ 64 ≤ x → x < 2 ^ 64 + 2 ^ 64 → x % 2 ^ 64 ≡ x - 2 ^ 64
mod_past x h k = omega arith

-- where its nearest byte is, it watches
reached : (kind at : ℕ) (a : Area) → at < 2 ^ 64 → Fits a → has_flags a.flags kind ≡ true
    → watches kind ((at + steps_to at a) % 2 ^ 64) a ≡ true
unfolding steps_to
reached kind at a range fits flag = grind arith

-- and nowhere before
not_before : (kind at : ℕ) (a : Area) (j : ℕ) → at < 2 ^ 64 → Fits a → j < steps_to at a
    → watches kind ((at + j) % 2 ^ 64) a ≡ false
unfolding steps_to
not_before kind at a j range fits near = grind arith

-- ---- an access

at_start : (at : ℕ) → at < 2 ^ 64 → (at + 0) % 2 ^ 64 ≡ at
at_start at range = omega arith

-- what is watched at a byte does not ask what is behind it
first_here : (address : ℕ) (here : Option Area) (behind : Option (ℕ × Bool)) → is_some here ≡ true
    → first_hit address here behind ≡ first_hit address here None
first_here address (Some a) behind found = refl
first_here address None behind found = absurd (false≢true found)

none_within : (kind at size : ℕ) (areas : List Area)
    → ((j : ℕ) → j < size → watcher kind areas ((at + j) % 2 ^ 64) ≡ None) → at < 2 ^ 64
    → hit_in kind areas at size ≡ None
unfolding hit_in
none_within kind at zero areas none range = refl
none_within kind at (suc size) areas none range =
    let here : watcher kind areas at ≡ None =
    ap (watcher kind areas) (sym (at_start at range)) ∙ none 0 (omega arith) in
    let behind =
    none_within kind ((at + 1) % 2 ^ 64) size areas
    (λ j h. ap (watcher kind areas) (wrapped-step at j) ∙ none (suc j) (omega arith)) (omega arith) in
    rw here behind

first_at : (kind at size k : ℕ) (areas : List Area) → k < size
    → ((j : ℕ) → j < k → watcher kind areas ((at + j) % 2 ^ 64) ≡ None) → at < 2 ^ 64
    → is_some (watcher kind areas ((at + k) % 2 ^ 64)) ≡ true
    → hit_in kind areas at size ≡ hit_at kind areas ((at + k) % 2 ^ 64)
unfolding hit_in
first_at kind at zero k areas within none range found = absurd (omega arith)
first_at kind at (suc size) zero areas within none range found =
    let start = at_start at range in
    let here : is_some (watcher kind areas at) ≡ true = ap (λ b. is_some (watcher kind areas b)) (sym start) ∙ found in
    first_here at (watcher kind areas at) (hit_in kind areas ((at + 1) % 2 ^ 64) size) here
    ∙ ap (hit_at kind areas) (sym start)
first_at kind at (suc size) (suc k) areas within none range found =
    let here : watcher kind areas at ≡ None =
    ap (watcher kind areas) (sym (at_start at range)) ∙ none 0 (omega arith) in
    let behind =
    first_at kind ((at + 1) % 2 ^ 64) size k areas (omega arith)
    (λ j h. ap (watcher kind areas) (wrapped-step at j) ∙ none (suc j) (omega arith)) (omega arith)
    (ap (λ b. is_some (watcher kind areas b)) (wrapped-step at k) ∙ found) in
    rw here (behind ∙ ap (hit_at kind areas) (wrapped-step at k))

-- ---- all areas

-- whether a number of steps is fewer than these
abbrev IsFewer : ℕ → Option ℕ → Type 0
IsFewer j None = Unit {0}
IsFewer j (Some k) = j < k

-- what the nearest of some areas is, or what was nearer
record Nearest (kind at : ℕ) (best : Option ℕ) (areas : List Area) (found : Option ℕ) : Type 0 where
  pub before : (j : ℕ) → IsFewer j found → watcher kind areas ((at + j) % 2 ^ 64) ≡ None
  pub here : (k : ℕ) → found ≡ Some k → (best ≡ Some k) ⊎ (is_some (watcher kind areas ((at + k) % 2 ^ 64)) ≡ true)
  pub closer : (b : ℕ) → best ≡ Some b → (k : ℕ) × ((found ≡ Some k) × (k ≤ b))

-- an area more in front
skipped : (kind x : ℕ) (a : Area) (areas : List Area) → watches kind x a ≡ false
    → watcher kind (a ∷ areas) x ≡ watcher kind areas x
skipped kind x a areas off = rw off refl

kept : (kind x : ℕ) (a : Area) (areas : List Area) → is_some (watcher kind areas x) ≡ true
    → is_some (watcher kind (a ∷ areas) x) ≡ true
kept kind x a areas found =
    elim (watches kind x a) as (λ b. is_some (cond b (Some a) (watcher kind areas x)) ≡ true)
    [ true ↦ refl | false ↦ found ]

taken : (kind x : ℕ) (a : Area) (areas : List Area) → watches kind x a ≡ true
    → is_some (watcher kind (a ∷ areas) x) ≡ true
taken kind x a areas on = rw on refl

-- the lesser of two is either of them
record Lesser (best : Option ℕ) (steps least : ℕ) : Type 0 where
  pub is : fewer best steps ≡ Some least
  pub bound : least ≤ steps
  pub old : (b : ℕ) → best ≡ Some b → least ≤ b
  pub either : (best ≡ Some least) ⊎ (steps ≡ least)

lesser : (best : Option ℕ) (steps : ℕ) → (least : ℕ) × Lesser best steps least
lesser None steps = (steps, record { is = refl; bound = omega arith; old = λ b e. absurd (cc); either = inr refl })
lesser (Some best) steps =
    elim (cases_Bool (leb best steps)) [
      | inl t ↦ (
        best,
        record {
          is = rw t refl;
          bound = leb-true best steps t;
          old = λ b e. omega (arith, same_Some best b e);
          either = inl refl;
        },
      )
      | inr f ↦ let over = leb-false best steps f in (
        steps,
        record {
          is = rw f refl;
          bound = omega arith;
          old = λ b e. omega (arith, same_Some best b e);
          either =
              inr refl;
        },
      )
    ]

off_front : (kind at : ℕ) (best : Option ℕ) (a : Area) (areas : List Area) (found : Option ℕ)
    → has_flags a.flags kind ≡ false → Nearest kind at best areas found → Nearest kind at best (a ∷ areas) found
off_front kind at best a areas found off rest = record {
  before = λ j fewer. skipped kind ((at + j) % 2 ^ 64) a areas (blind ((at + j) % 2 ^ 64)) ∙ rest.before j fewer;
  here = λ k e. elim (rest.here k e)
      [ inl old ↦ inl old | inr seen ↦ inr (kept kind ((at + k) % 2 ^ 64) a areas seen) ];
  closer = rest.closer;
}
  where
    blind : (x : ℕ) → watches kind x a ≡ false
    blind x = grind arith

on_front : (kind at : ℕ) (best : Option ℕ) (a : Area) (areas : List Area) (found : Option ℕ) → at < 2 ^ 64 → Fits a
    → has_flags a.flags kind ≡ true → Nearest kind at (fewer best (steps_to at a)) areas found
    → Nearest kind at best (a ∷ areas) found
on_front kind at best a areas found range fits on rest =
    let least = lesser best (steps_to at a) in
    let near = rest.closer least.0 least.1.is in
    record {
      before =
          λ j fewer.
          skipped kind ((at + j) % 2 ^ 64) a areas
          (not_before kind at a j range fits (sooner j near.0 least.0 near.1.0 fewer near.1.1 least.1.bound))
          ∙ rest.before j fewer;
      here = λ k e. elim (rest.here k e) [
        | inl old ↦ this k (same_Some least.0 k (sym least.1.is ∙ old)) least.1.either
        | inr seen ↦ inr (kept kind ((at + k) % 2 ^ 64) a areas seen)
      ];
      closer = λ b e. (near.0, (near.1.0, omega (arith, near.1.1, least.1.old b e)));
    }
  where
    sooner : (j k b : ℕ) → found ≡ Some k → IsFewer j found → k ≤ b → b ≤ steps_to at a → j < steps_to at a
    sooner j k b e fewer le bound = let near : j < k = subst (IsFewer j) e fewer in omega arith

    this : (k : ℕ) {least : ℕ} → least ≡ k → (best ≡ Some least) ⊎ (steps_to at a ≡ least)
        → (best ≡ Some k) ⊎ (is_some (watcher kind (a ∷ areas) ((at + k) % 2 ^ 64)) ≡ true)
    this k e (inl old) = inl (old ∙ ap (λ n. Some n) e)
    this k e (inr new) =
        inr (taken kind ((at + k) % 2 ^ 64) a areas
        (ap (λ n. watches kind ((at + n) % 2 ^ 64) a) (sym (new ∙ e)) ∙ reached kind at a range fits on))

nearest-found : (kind at : ℕ) (best : Option ℕ) (areas : List Area) → at < 2 ^ 64 → All (λ (a : Area). 0 < a.size) areas
    → All (λ (a : Area). a.at + a.size ≤ 2 ^ 64) areas → Nearest kind at best areas (nearest_from kind at best areas)
unfolding nearer
nearest-found kind at best [] range some within =
    record { before = λ j fewer. refl; here = λ k e. inl e; closer = λ b e. (b, (e, omega arith)) }
nearest-found kind at best (a ∷ areas) range some within =
    let fits : Fits a =
    record {
      some = All-head (λ (a : Area). 0 < a.size) a areas some;
      within =
          All-head (λ (a : Area). a.at + a.size ≤ 2 ^ 64) a areas within;
    } in
    let rest =
    λ (b : Option ℕ).
    nearest-found kind at b areas range (All-tail (λ (a : Area). 0 < a.size) a areas some)
    (All-tail (λ (a : Area). a.at + a.size ≤ 2 ^ 64) a areas within) in
    elim (has_flags a.flags kind)
    as (λ b. has_flags a.flags kind ≡ b
    → Nearest kind at best (a ∷ areas) (nearest_from kind at (cond b (fewer best (steps_to at a)) best) areas)) [
      | true ↦ λ t. on_front kind at best a areas _ range fits t (rest (fewer best (steps_to at a)))
      | false ↦ λ f. off_front kind at best a areas _ f (rest best)
    ] refl

-- ---- what an access hits

of_all : (kind at : ℕ) (areas : List Area) (found : Option ℕ) → AreAreas areas → at < 2 ^ 64
    → nearest_from kind at None areas ≡ found → Nearest kind at None areas found
of_all kind at areas found all range e =
    subst (Nearest kind at None areas) e (nearest-found kind at None areas range all.not_empty all.within)

pub hit_in-none : (kind at size : ℕ) (areas : List Area) → AreAreas areas → at < 2 ^ 64
    → nearest_from kind at None areas ≡ None → hit_in kind areas at size ≡ None
hit_in-none kind at size areas all range e =
    none_within kind at size areas (λ j h. (of_all kind at areas None all range e).before j tt) range

pub hit_in-far : (kind at size steps : ℕ) (areas : List Area) → AreAreas areas → at < 2 ^ 64
    → nearest_from kind at None areas ≡ Some steps → size ≤ steps → hit_in kind areas at size ≡ None
hit_in-far kind at size steps areas all range e far =
    none_within kind at size areas (λ j h. (of_all kind at areas (Some steps) all range e).before j (omega arith)) range

pub hit_in-near : (kind at size steps : ℕ) (areas : List Area) → AreAreas areas → at < 2 ^ 64
    → nearest_from kind at None areas ≡ Some steps → steps < size
    → hit_in kind areas at size ≡ hit_at kind areas ((at + steps) % 2 ^ 64)
hit_in-near kind at size steps areas all range e near =
    let nearest = of_all kind at areas (Some steps) all range e in
    first_at kind at size steps areas near (λ j h. nearest.before j h) range (seen (nearest.here steps refl))
  where
    seen : (None ≡ Some steps) ⊎ (is_some (watcher kind areas ((at + steps) % 2 ^ 64)) ≡ true)
        → is_some (watcher kind areas ((at + steps) % 2 ^ 64)) ≡ true
    seen (inl absent) = absurd (cc)
    seen (inr here) = here

pub ruleset hits = (hit_in-none, hit_in-far, hit_in-near)
