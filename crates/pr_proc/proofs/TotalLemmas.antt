-- What holds of the sum of what all processes have mapped but one.
use Rattle.std.proofs.Common.{◌≡◌, ◌+◌, ◌-◌, ◌*◌, ◌≤◌, ◌^◌, ℕ, true, false, eqb, ltb, cond, List, [], ◌∷◌, length, Option, Some, None, IsNone, refl, sym, ap, ◌∙◌, arith, inl, inr}
use Rattle.std.specs.List.{All}
use Rattle.std.proofs.lemmas.Bool.{cases_Bool, eqb-true, eqb-false, eq-eqb}
use Rattle.std.proofs.lemmas.List.Elements.{All-nil, All-cons, All-head, All-tail, All-weaker}
use Rattle.pr_num.specs.ById.{rises_from, IsRising, under, put_under, inserted, without_id}
use Rattle.pr_num.specs.Limits.{mapping_limit}
use Rattle.pr_num.proofs.ByIdLemmas.{rises_from-tail, under-below}
use Rattle.pr_num.proofs.ByIdLaws.{All-inserted, All-without_id}
use Rattle.pr_model.specs.Readers.{size_of, sizes_of}
use Rattle.pr_model.specs.State.{TracedProcess}
use Rattle.pr_proc.specs.Totals.{size_in, size_under, sizes_but, AreSmall, IsSmall, IsSmallBut, IsTotal}

abbrev Pairs : Type 0
Pairs = List (ℕ × TracedProcess)

-- what the process of an id has, where it was found
pub size-some : (id : ℕ) (es : Pairs) (p : TracedProcess) → Some p ≡ under id es → size_of p ≡ size_under id es
size-some id es p found = ap size_in found

pub size-none : (id : ℕ) (es : Pairs) → None ≡ under id es → 0 ≡ size_under id es
size-none id es none = ap size_in none

pub ruleset under_laws = (size-some, size-none)

-- ---- one is left out

-- nothing is left out where the id does not stand
but-none : (id : ℕ) (es : Pairs) → under id es ≡ None → sizes_but id es ≡ sizes_of es
but-none id [] none = refl
but-none id (e ∷ es) none =
    elim (eqb e.0 id)
    as (λ b. cond b (Some e.1) (under id es) ≡ None
    → cond b (sizes_but id es) (size_of e.1 + sizes_but id es) ≡ size_of e.1 + sizes_of es)
    [ true ↦ λ h. cc | false ↦ λ h. ap (λ (n : ℕ). size_of e.1 + n) (but-none id es h) ] none

-- the sum of all is that of the others and what the one has
pub but-one : (low id : ℕ) (es : Pairs) → rises_from low es ≡ true → sizes_of es ≡ sizes_but id es + size_under id es
but-one low id [] rises = refl
but-one low id (e ∷ es) rises =
    let tail = rises_from-tail low e es rises in
    elim (cases_Bool (eqb e.0 id)) [
      | inl here ↦
          let same = eqb-true e.0 id here in
          let none = but-none id es (under-below (e.0 + 1) id es tail (omega arith)) in
          rw here (omega (arith, none))
      | inr other ↦
          let rest = but-one (e.0 + 1) id es tail in
          rw other (omega (arith, rest))
    ]

-- the others together have no more than so many times what one may have
small-sum : (out : ℕ) (es : Pairs) → All (IsSmallBut out) es → sizes_but out es ≤ mapping_limit * length es
small-sum out [] small = omega arith
small-sum out (e ∷ es) small =
    let rest = small-sum out es (All-tail (IsSmallBut out) e es small) in
    elim (cases_Bool (eqb e.0 out)) [
      | inl here ↦ rw here (omega (arith, rest))
      | inr other ↦
          let head : size_of e.1 ≤ mapping_limit = All-head (IsSmallBut out) e es small (eqb-false e.0 out other) in
          rw other (omega (arith, rest, head))
    ]

pub total-limit : (others out : ℕ) (es : Pairs) → IsTotal others out es → length es ≤ 2 ^ 32
    → others ≤ mapping_limit * 2 ^ 32
total-limit others out es total few =
    let sum = small-sum out es total.small in
    omega (arith, total.sum, sum, few)

-- where the one that was left out is small too, all are
all-small : (low out : ℕ) (es : Pairs) → rises_from low es ≡ true → All (IsSmallBut out) es
    → size_under out es ≤ mapping_limit → All IsSmall es
all-small low out [] rises small limit = All-nil IsSmall
all-small low out (e ∷ es) rises small limit =
    let tail = rises_from-tail low e es rises in
    let others = All-tail (IsSmallBut out) e es small in
    elim (cases_Bool (eqb e.0 out)) [
      | inl here ↦
          let same = eqb-true e.0 out here in
          let own : size_of e.1 ≤ mapping_limit = rw here at limit in
          let none : 0 ≡ size_under out es = sym (ap size_in (under-below (e.0 + 1) out es tail (omega arith))) in
          All-cons IsSmall e es own (all-small (e.0 + 1) out es tail others (omega (arith, none)))
      | inr other ↦
          let own : size_of e.1 ≤ mapping_limit = All-head (IsSmallBut out) e es small (eqb-false e.0 out other) in
          let rest : size_under out es ≤ mapping_limit = rw other at limit in
          All-cons IsSmall e es own (all-small (e.0 + 1) out es tail others rest)
    ]

small-but : (id : ℕ) (es : Pairs) → All IsSmall es → All (IsSmallBut id) es
small-but id es small =
    All-weaker IsSmall (IsSmallBut id) (λ e limit differs. limit) es small

-- ---- another one is left out

pub whole-small : (others out size : ℕ) (es : Pairs) → IsRising es → IsTotal others out es → size ≡ size_under out es
    → size ≤ mapping_limit → AreSmall es
whole-small others out size es rises total is limit =
    record { each = all-small 0 out es rises total.small (omega (arith, is, limit)) }

pub other-out : (id total size : ℕ) (es : Pairs) → IsRising es → AreSmall es → total ≡ sizes_of es
    → size ≡ size_under id es → IsTotal (total - size) id es
other-out id total size es rises small is one = record {
  sum = omega (arith, is, one, but-one 0 id es rises);
  small = small-but id es small.each;
}

pub whole-sum : (others out : ℕ) (es : Pairs) → IsRising es → IsTotal others out es
    → others + size_under out es ≡ sizes_of es
whole-sum others out es rises total = omega (arith, total.sum, but-one 0 out es rises)

-- ---- the one that is left out changes, comes or goes

but-put_under : (id : ℕ) (w : TracedProcess) (es : Pairs) → sizes_but id (put_under id w es) ≡ sizes_but id es
but-put_under id w [] = refl
but-put_under id w (e ∷ es) =
    elim (cases_Bool (eqb e.0 id)) [
      | inl here ↦ rw (here, here) refl
      | inr other ↦ rw (other, other) (ap (λ (n : ℕ). size_of e.1 + n) (but-put_under id w es))
    ]

small-put_under : (id : ℕ) (w : TracedProcess) (es : Pairs) → All (IsSmallBut id) es
    → All (IsSmallBut id) (put_under id w es)
small-put_under id w [] small = small
small-put_under id w (e ∷ es) small =
    let rest = All-tail (IsSmallBut id) e es small in
    elim (cases_Bool (eqb e.0 id)) [
      | inl here ↦
          rw here (All-cons (IsSmallBut id) (e.0, w) es (λ differs. absurd (differs (eqb-true e.0 id here))) rest)
      | inr other ↦
          rw other
          (All-cons (IsSmallBut id) e (put_under id w es) (All-head (IsSmallBut id) e es small)
          (small-put_under id w es rest))
    ]

pub total-changed : (others id : ℕ) (w : TracedProcess) (es : Pairs) → IsTotal others id es
    → IsTotal others id (put_under id w es)
total-changed others id w es total =
    record { sum = total.sum ∙ sym (but-put_under id w es); small = small-put_under id w es total.small }

but-inserted : (id : ℕ) (x : TracedProcess) (es : Pairs) → sizes_but id (inserted id x es) ≡ sizes_but id es
but-inserted id x [] = rw (eq-eqb id id refl) refl
but-inserted id x (e ∷ es) =
    elim (cases_Bool (ltb e.0 id)) [
      | inl below ↦ rw below (ap (λ (n : ℕ). cond (eqb e.0 id) n (size_of e.1 + n)) (but-inserted id x es))
      | inr above ↦ rw (above, eq-eqb id id refl) refl
    ]

is_None : (o : Option TracedProcess) → IsNone o → o ≡ None
is_None None none = refl
is_None (Some p) none = cc

pub total-more : (id total : ℕ) (x : TracedProcess) (es : Pairs) → AreSmall es → total ≡ sizes_of es
    → IsNone (under id es) → IsTotal total id (inserted id x es)
total-more id total x es small is free = record {
  sum = is ∙ sym (but-inserted id x es ∙ but-none id es (is_None (under id es) free));
  small = All-inserted (IsSmallBut id) id x es (λ differs. absurd (differs refl)) (small-but id es small.each);
}

but-without_id : (id : ℕ) (es : Pairs) → sizes_but id (without_id id es) ≡ sizes_but id es
but-without_id id [] = refl
but-without_id id (e ∷ es) =
    elim (cases_Bool (eqb e.0 id)) [
      | inl here ↦ rw here refl
      | inr other ↦ rw (other, other) (ap (λ (n : ℕ). size_of e.1 + n) (but-without_id id es))
    ]

pub total-fewer : (others id : ℕ) (es : Pairs) → IsTotal others id es → IsTotal others id (without_id id es)
total-fewer others id es total = record {
  sum = total.sum ∙ sym (but-without_id id es);
  small = All-without_id (IsSmallBut id) id es total.small;
}

-- no process is there at the start
pub total-empty : (es : Pairs) → es ≡ [] → IsTotal 0 0 es
total-empty es empty = rw empty (record { sum = refl; small = All-nil (IsSmallBut 0) })
