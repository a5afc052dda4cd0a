use Rattle.std.proofs.Common.{◌≡◌, ℕ, ◌+◌, ◌*◌, ◌≤◌, true, false, eqb, ltb, cond, Some, List, [], ◌∷◌, length, refl, ap, arith}
use Rattle.std.specs.List.{All}
use Rattle.std.proofs.lemmas.List.Elements.{All-head, All-tail}
use Rattle.std.proofs.lemmas.Option.{same_Some}
use Rattle.pr_num.specs.ById.{under, change_under, map_each, inserted, without_id}
use Rattle.pr_model.specs.Lawful.{all_users}
use Rattle.pr_model.specs.Readers.{sizes_of, size_of}
use Rattle.pr_model.specs.State.{TracedProcess}
use Rattle.pr_parts.specs.FileTables.{count_at}

-- What is summed over things under ids: how many descriptors stand for an open file, and how many bytes are mapped.

module _ {X : Type 0} (f : X → ℕ) where
  abbrev pub sum_of : List (ℕ × X) → ℕ
  sum_of [] = 0
  sum_of (e ∷ es) = f e.1 + sum_of es

  pub sum-change_under : (id : ℕ) (g : X → X) (x : X) (es : List (ℕ × X)) → under id es ≡ Some x
      → sum_of (change_under id g es) + f x ≡ sum_of es + f (g x)
  sum-change_under id g x [] found = cc
  sum-change_under id g x (e ∷ es) found =
      elim (eqb e.0 id) as
      (λ b. cond b (Some e.1) (under id es) ≡ Some x → sum_of
      (cond b ((e.0, g e.1) ∷ es) (e ∷ change_under id g es)) + f x ≡ (f e.1 + sum_of es) + f (g x)) [
        | true ↦ λ here. let same = same_Some e.1 x here in rw same (omega arith)
        | false ↦ λ there. let rest = sum-change_under id g x es there in omega arith
      ] found

  pub sum-map_each : (g : X → X) → ((x : X) → f (g x) ≡ f x) → (es : List (ℕ × X)) → sum_of (map_each g es) ≡ sum_of es
  sum-map_each g same [] = refl
  sum-map_each g same (e ∷ es) = let here = same e.1 in let rest = sum-map_each g same es in omega arith

  pub sum-inserted : (id : ℕ) (x : X) (es : List (ℕ × X)) → sum_of (inserted id x es) ≡ f x + sum_of es
  sum-inserted id x [] = refl
  sum-inserted id x (e ∷ es) =
      let rest = sum-inserted id x es in
      elim (ltb e.0 id) as
      (λ b. sum_of (cond b (e ∷ inserted id x es) ((id, x) ∷ e ∷ es)) ≡ f x +
      (f e.1 + sum_of es)) [ true ↦ omega arith | false ↦ refl ]

  pub sum-without_id : (id : ℕ) (x : X) (es : List (ℕ × X)) → under id es ≡ Some x
      → sum_of (without_id id es) + f x ≡ sum_of es
  sum-without_id id x [] found = cc
  sum-without_id id x (e ∷ es) found =
      elim (eqb e.0 id) as
      (λ b. cond b (Some e.1) (under id es) ≡ Some x → sum_of
      (cond b es (e ∷ without_id id es)) + f x ≡ f e.1 + sum_of es) [
        | true ↦ λ here. let same = same_Some e.1 x here in rw same (omega arith)
        | false ↦ λ there. let rest = sum-without_id id x es there in omega arith
      ] found

  pub sum-part : (id : ℕ) (x : X) (es : List (ℕ × X)) → under id es ≡ Some x → f x ≤ sum_of es
  sum-part id x es found = let whole = sum-without_id id x es found in omega arith

  pub sum-most : (most : ℕ) (es : List (ℕ × X)) → All (λ (e : ℕ × X). f e.1 ≤ most) es → sum_of es ≤ length es * most
  sum-most most [] each = omega arith
  sum-most most (e ∷ es) each =
      let here : f e.1 ≤ most = All-head (λ (d : ℕ × X). f d.1 ≤ most) e es each in
      let rest = sum-most most es (All-tail (λ (d : ℕ × X). f d.1 ≤ most) e es each) in
      grind arith

-- the two sums in these words
abbrev pub count_in : ℕ → TracedProcess → ℕ
count_in place p = count_at p.fds place

pub all_users-sum : (place : ℕ) (es : List (ℕ × TracedProcess)) → all_users place es ≡ sum_of (count_in place) es
all_users-sum place [] = refl
all_users-sum place (e ∷ es) = ap (λ n. count_at e.1.fds place + n) (all_users-sum place es)

pub sizes-sum : (es : List (ℕ × TracedProcess)) → sizes_of es ≡ sum_of size_of es
sizes-sum [] = refl
sizes-sum (e ∷ es) = ap (λ n. size_of e.1 + n) (sizes-sum es)
