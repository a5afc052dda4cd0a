-- Exclusive handles stay alone.
use Rattle.std.proofs.Common.{◌≡◌, ◌⊎◌, ◌<◌, ℕ, zero, suc, Bool, true, false, cond, eqb, ◌&&◌, ◌||◌, List, [], length, replicate, get_or, set, Option, None, Some, IsTrue, is_none, Ok, Err, refl, sym, ap, ◌∙◌, arith, inl, inr}
use Rattle.std.specs.List.{list_any, position}
use Rattle.std.proofs.lemmas.Bool.{and_parts, eqb-true, cases_eq, cases_lt, false≢true}
use Rattle.std.proofs.lemmas.List.{get_or-set_same, get_or-set_other, get_or_past, length-set}
use Rattle.std.proofs.lemmas.List.Folds.{list_any_at}
use Rattle.pr_model.specs.Handles.{is_writable, is_exclusive, is_writer, is_exclusive_writer, has_writer, has_exclusive_writer, conflicts}
use Rattle.pr_num.specs.Limits.{handle_limit}
use Rattle.pr_model.specs.State.{nothing_open}
use Rattle.pr_model.specs.declared.handles.Held.{Held}
use Rattle.pr_open.specs.Exclusion.{AreExclusive}
use Rattle.pr_open.specs.Opening.{open_answer, or_full}
use Rattle.pr_open.specs.declared.refusals.OpenNo.TheVariants.{Busy}

or_true : (b : Bool) → (b || true) ≡ true
or_true true = refl
or_true false = refl

-- no handle writes
no_writer : (pid : ℕ) (place : Option Held) → place ≡ None → IsTrue (is_writer pid place) → ⊥
no_writer pid place none writes =
    false≢true (sym (ap (is_writer pid) none) ∙ writes)

none-replicate : (n m : ℕ) → get_or (replicate {A = Option Held} n None) m None ≡ None
none-replicate zero m = get_or_past [] m None (omega arith)
none-replicate (suc n) zero = refl
none-replicate (suc n) (suc m) = none-replicate n m

pub nothing_exclusive : AreExclusive nothing_open
unfolding nothing_open
nothing_exclusive =
    record { alone = λ pid m n one other. absurd (no_writer pid _ (none-replicate handle_limit n) other) }

-- a place in a list that was changed at one number
place_after : (places : List (Option Held)) (number m : ℕ) (p : Option Held)
    → ((m ≡ number) × (number < length places)) ⊎ (get_or (set places number p) m None ≡ get_or places m None)
place_after places number m p =
    elim (cases_eq m number) [
      | inl same ↦
          (elim (cases_lt number (length places)) [
            | inl inside ↦ inl (same, inside)
            | inr past ↦
                inr (get_or_past (set places number p) m None (omega (arith, length-set places number p))
                ∙ sym (get_or_past places m None (omega arith)))
          ])
      | inr differs ↦ inr (get_or-set_other places number m p None differs)
    ]

at_number : (places : List (Option Held)) (number m : ℕ) (p : Option Held) → (m ≡ number) × (number < length places)
    → get_or (set places number p) m None ≡ p
at_number places number m p at =
    ap (λ (k : ℕ). get_or (set places number p) k None) at.0 ∙ get_or-set_same places number p None at.1

pub closed_exclusive : (places : List (Option Held)) (number : ℕ) → AreExclusive places
    → AreExclusive (set places number None)
closed_exclusive places number exclusive = record {
  alone = λ pid m n one other. elim (place_after places number m None) [
    | inl m_at ↦ absurd (false≢true (sym (ap (is_exclusive_writer pid) (at_number places number m None m_at)) ∙ one))
    | inr m_old ↦ elim (place_after places number n None) [
      | inl n_at ↦ absurd (no_writer pid _ (at_number places number n None n_at) other)
      | inr n_old ↦
          exclusive.alone pid m n (sym (ap (is_exclusive_writer pid) m_old) ∙ one)
          (sym (ap (is_writer pid) n_old) ∙ other)
    ]
  ];
}

-- what passes a test at a place is among those that pass
any_place : (test : Option Held → Bool) (places : List (Option Held)) (n : ℕ) → test None ≡ false
    → test (get_or places n None) ≡ true → list_any test places ≡ true
any_place test places n none passes =
    elim (cases_lt n (length places)) [
      | inl inside ↦ list_any_at test places n None inside passes
      | inr past ↦ absurd (false≢true (sym none ∙ ap test (sym (get_or_past places n None past)) ∙ passes))
    ]

-- an open that got a number did not conflict
no_conflict : (h : Held) (places : List (Option Held)) (number : ℕ) → open_answer h places ≡ Ok number
    → conflicts h.pid h.mode places ≡ false
unfolding open_answer
no_conflict h places number got = by (conflicts h.pid h.mode places) got
  where
    by : (b : Bool) → cond b (Err Busy) (or_full (position is_none places)) ≡ Ok number → b ≡ false
    by true e = absurd cc
    by false e = refl

module _ (places : List (Option Held)) (h : Held) (number : ℕ) (exclusive : AreExclusive places)
    (got : open_answer h places ≡ Ok number) where
  apart : conflicts h.pid h.mode places ≡ false
  apart = no_conflict h places number got

  -- the new handle is exclusive, and another writes
  new_first : (pid n : ℕ) → IsTrue (is_exclusive_writer pid (Some h)) → IsTrue (is_writer pid (get_or places n None))
      → ⊥
  new_first pid n one other =
      let parts = and_parts (eqb h.pid pid) (is_exclusive h.mode) one in
      let same : h.pid ≡ pid = eqb-true h.pid pid parts.0 in
      let some : has_writer h.pid places ≡ true =
      any_place (is_writer h.pid) places n refl (ap (λ (p : ℕ). is_writer p (get_or places n None)) same ∙ other) in
      false≢true (sym apart ∙ rw (parts.1, some) refl)

  -- the new handle writes, and another is exclusive
  new_second : (pid m : ℕ) → IsTrue (is_exclusive_writer pid (get_or places m None)) → IsTrue (is_writer pid (Some h))
      → ⊥
  new_second pid m one other =
      let parts = and_parts (eqb h.pid pid) (is_writable h.mode) other in
      let same : h.pid ≡ pid = eqb-true h.pid pid parts.0 in
      let some : has_exclusive_writer h.pid places ≡ true =
      any_place (is_exclusive_writer h.pid) places m refl
      (ap (λ (p : ℕ). is_exclusive_writer p (get_or places m None)) same ∙ one) in
      false≢true (sym apart ∙ rw (parts.1, some) (or_true (is_exclusive h.mode && has_writer h.pid places)))

  pub opened_exclusive : AreExclusive (set places number (Some h))
  opened_exclusive = record {
    alone = λ pid m n one other. elim (place_after places number m (Some h)) [
      | inl m_at ↦ elim (place_after places number n (Some h)) [
        | inl n_at ↦ m_at.0 ∙ sym n_at.0
        | inr n_old ↦
            absurd (new_first pid n (sym (ap (is_exclusive_writer pid) (at_number places number m (Some h) m_at)) ∙ one)
            (sym (ap (is_writer pid) n_old) ∙ other))
      ]
      | inr m_old ↦ elim (place_after places number n (Some h)) [
        | inl n_at ↦
            absurd (new_second pid m (sym (ap (is_exclusive_writer pid) m_old) ∙ one)
            (sym (ap (is_writer pid) (at_number places number n (Some h) n_at)) ∙ other))
        | inr n_old ↦
            exclusive.alone pid m n (sym (ap (is_exclusive_writer pid) m_old) ∙ one)
            (sym (ap (is_writer pid) n_old) ∙ other)
      ]
    ];
  }
