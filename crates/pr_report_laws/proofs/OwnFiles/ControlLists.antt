use Rattle.std.proofs.Common.{◌≡◌, ◌≢◌, ◌⊎◌, ◌<◌, ◌++◌, ℕ, zero, suc, cond, not, filter, Some, None, List, [], ◌∷◌, length, map, refl, sym, ap, ◌∙◌, arith, inl, inr}
use Rattle.std.proofs.lemmas.Bool.{eq-eqb, ne_eqb}
use Rattle.std.proofs.lemmas.List.{map-append}
use Rattle.std.proofs.lemmas.Option.{none-some, same_Some}
use Rattle.std.specs.List.{remove, slice_set}
use Rattle.pr_truss.specs.Processes.{last_handle, without_last}
use Rattle.pr_truss.specs.declared.processes.Traced.{Traced}
use Rattle.pr_truss_laws.proofs.Files.HeldLemmas.{at_place, by_last}
use Rattle.pr_report_laws.specs.PollOrder.{is_other}

-- The control files of the processes that truss traces, as a list, and what becomes of it where one comes, changes or
-- goes.

abbrev pub controls_of : List Traced → List ℕ
controls_of ts = map (λ (t : Traced). t.control) ts

-- ---- one process comes, or changes

pub more-controls : (ts : List Traced) (t : Traced) → controls_of (ts ++ t ∷ []) ≡ controls_of ts ++ t.control ∷ []
more-controls ts t = map-append (λ (u : Traced). u.control) ts (t ∷ [])

pub same-controls : (ts : List Traced) (place : ℕ) (t : Traced) → place < length ts
    → t.control ≡ (at_place ts place).control → controls_of (slice_set ts place t) ≡ controls_of ts
same-controls [] place t within same = absurd (omega (arith, within))
same-controls (u ∷ ts) zero t within same = ap (λ c. c ∷ controls_of ts) same
same-controls (u ∷ ts) (suc place) t within same =
    ap (λ cs. u.control ∷ cs) (same-controls ts place t (omega (arith, within)) same)

-- ---- a handle is taken out

-- the handle of a process stands first, or is taken out there
first-kept : (n c : ℕ) (cs : List ℕ) → c ≢ n → filter (is_other n) (c ∷ cs) ≡ c ∷ filter (is_other n) cs
first-kept n c cs other =
    ap (λ b. cond (not b) (c ∷ filter (is_other n) cs) (filter (is_other n) cs)) (ne_eqb c n other)

first-gone : (c : ℕ) (cs : List ℕ) → filter (is_other c) (c ∷ cs) ≡ filter (is_other c) cs
first-gone c cs = ap (λ b. cond (not b) (c ∷ filter (is_other c) cs) (filter (is_other c) cs)) (eq-eqb c c refl)

-- where it is none of them nothing changes
pub none-gone : (n : ℕ) (ts : List Traced) → ((q : ℕ) → q < length ts → (at_place ts q).control ≢ n)
    → filter (is_other n) (controls_of ts) ≡ controls_of ts
none-gone n [] others = refl
none-gone n (t ∷ ts) others =
    first-kept n t.control (controls_of ts) (others 0 (omega arith))
    ∙ ap (λ cs. t.control ∷ cs) (none-gone n ts (λ q within. others (suc q) (omega (arith, within))))

-- where it is that of one process alone, it goes as that process goes
pub one-gone : (ts : List Traced) (place : ℕ) → place < length ts
    → ((q : ℕ) → q < length ts → (at_place ts q).control ≡ (at_place ts place).control → q ≡ place)
    → filter (is_other (at_place ts place).control) (controls_of ts) ≡ controls_of (remove ts place)
one-gone [] place within only = absurd (omega (arith, within))
one-gone (t ∷ ts) zero within only =
    first-gone t.control (controls_of ts)
    ∙ none-gone t.control ts
    (λ q inside same. absurd (omega (arith, only (suc q) (omega (arith, inside)) same)))
one-gone (t ∷ ts) (suc place) within only =
    first-kept (at_place ts place).control t.control (controls_of ts)
    (λ same. absurd (omega (arith, only 0 (omega arith) same)))
    ∙ ap (λ cs. t.control ∷ cs) (one-gone ts place (omega (arith, within))
    (λ q inside same. less (only (suc q) (omega (arith, inside)) same)))
  where
    less : {i j : ℕ} → suc i ≡ suc j → i ≡ j
    less is = omega (arith, is)

-- ---- the file that is closed

-- the handle is that of another file of a process than its control file
abbrev pub IsOtherFile : Traced → ℕ → Type 0
IsOtherFile t n = (t.memory ≡ Some n) ⊎ ((t.lstatus ≡ Some n) ⊎ (t.status ≡ Some n))

-- A process loses a file that is not its control file.
pub record LosesOther (t u : Traced) : Type 0 where
  pub file : IsOtherFile t (last_handle t)
  pub control : u.control ≡ t.control

pub loses-other : (t u : Traced) → without_last t ≡ Some u → LosesOther t u
unfolding last_handle without_last
loses-other t u = by_last (λ v. without_last v ≡ Some u → LosesOther v u) t
    (λ h l s is. record { file = inl refl; control = ap (λ (v : Traced). v.control) (sym (same_Some _ u is)) })
    (λ h s is. record { file = inr (inl refl); control = ap (λ (v : Traced). v.control) (sym (same_Some _ u is)) })
    (λ h is. record { file = inr (inr refl); control = ap (λ (v : Traced). v.control) (sym (same_Some _ u is)) })
    (λ is. absurd (none-some u is))

-- the control file goes last
pub loses-control : (t : Traced) → without_last t ≡ None → last_handle t ≡ t.control
unfolding last_handle without_last
loses-control t = by_last (λ v. without_last v ≡ None → last_handle v ≡ v.control) t
    (λ h l s is. absurd (none-some _ (sym is))) (λ h s is. absurd (none-some _ (sym is)))
    (λ h is. absurd (none-some _ (sym is))) (λ is. refl)
