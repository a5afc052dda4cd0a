use Rattle.std.proofs.Common.{◌≡◌, ◌≢◌, ◌+◌, ◌<◌, ◌≤◌, ℕ, Bool, true, false, eqb, not, Option, Some, None, List, [], ◌∷◌, cond, refl, sym, subst, ◌∙◌, ap, inl, inr, arith}
use Rattle.std.proofs.Math.Path.{fun_ext}
use Rattle.std.proofs.lemmas.Bool.{cases_Bool, eqb-true, eq-eqb, ne_eqb}
use Rattle.std.proofs.lemmas.List.Elements.{All-head, All-tail}
use Rattle.std.proofs.lemmas.Option.{same_Some}
use Rattle.std.specs.List.{All}
use Rattle.pr_num.specs.ById.{IsRising, rises_from, under}
use Rattle.pr_num.specs.declared.faults.Flt.{Flt}
use Rattle.pr_num.proofs.BoolLemmas.{not_both}
use Rattle.pr_num.proofs.ByIdLemmas.{rises_from-head, rises_from-tail}
use Rattle.pr_model.specs.State.{TracedLwp, TracedProcess, TracedSystem, lwp_of, process_of}
use Rattle.pr_model.specs.declared.lwps.Phase.{Phase}
use Rattle.pr_model.specs.declared.lwps.Phase.TheVariants.{User, Entered, Asleep, Exiting, Faulted}
use Rattle.pr_hidden.specs.Covers.{Cover, Covers, Patch, all_kept, keeps_lwp, lwp_beneath, no_cover, patched, phase_beneath, process_beneath, seen_under, uncovered, uncovered_lwp, uncovered_process, with_cover}
use Rattle.pr_hidden.specs.Hiding.{with_fault}
use Rattle.pr_hidden.specs.Tidiness.{IsClear, IsClearLwp}
use Rattle.pr_hidden.proofs.PatchedSpaces.PatchLemmas.{patched-none}
use Rattle.pr_hidden.proofs.Covers.SeenLemmas.{seen-alike}

-- Covers that hide the same of a state.

-- ---- the cover of one process

pub cover-own : (pid : ℕ) (c : Cover) (covers : Covers) → with_cover pid c covers pid ≡ c
cover-own pid c covers = rw (eq-eqb pid pid refl) refl

pub cover-other : (pid : ℕ) (c : Cover) (covers : Covers) (n : ℕ) → n ≢ pid → with_cover pid c covers n ≡ covers n
cover-other pid c covers n other = rw (ne_eqb n pid other) refl

-- it is one, or that of another
cover-case : (P : Cover → Type 0) (pid : ℕ) (c : Cover) (covers : Covers) (n : ℕ) → (n ≡ pid → P c) → P (covers n)
    → P (with_cover pid c covers n)
cover-case P pid c covers n one other =
    elim (cases_Bool (eqb n pid)) [
      | inl here ↦ rw here (one (eqb-true n pid here))
      | inr there ↦ rw there other
    ]

pub each-cover : (P : Cover → Type 0) (pid : ℕ) (c : Cover) (covers : Covers) → P c → ((n : ℕ) → P (covers n)) → (n : ℕ)
    → P (with_cover pid c covers n)
each-cover P pid c covers one others n = cover-case P pid c covers n (λ is. one) (others n)

-- the cover that was
pub cover-same : (pid : ℕ) (covers : Covers) → with_cover pid (covers pid) covers ≡ covers
cover-same pid covers =
    fun_ext (λ n. cover-case (λ (c : Cover). c ≡ covers n) pid (covers pid) covers n (λ is. ap covers (sym is)) refl)

cond-twice : {X : Type 0} (b : Bool) (x y z : X) → cond b x (cond b y z) ≡ cond b x z
cond-twice true x y z = refl
cond-twice false x y z = refl

-- the last one counts
pub cover-twice : (pid : ℕ) (c d : Cover) (covers : Covers)
    → with_cover pid c (with_cover pid d covers) ≡ with_cover pid c covers
cover-twice pid c d covers = fun_ext (λ n. cond-twice (eqb n pid) c d (covers n))

pub fault-twice : (id : ℕ) (at was : Bool) (c : Cover) → with_fault id at (with_fault id was c) ≡ with_fault id at c
fault-twice id at was c =
    ap (λ (f : ℕ → Bool). let d : Cover = record c { faulted = f } in d)
    (fun_ext (λ n. cond-twice (eqb n id) at was (c.faulted n)))

-- ---- views that agree on a thing

apart : (a b : ℕ) → eqb a b ≡ false → a ≢ b
apart a b other is = not_both (eqb a b) (eq-eqb a b is) other

module _ {X Y : Type 0} (keeps : ℕ → Bool) (view new : ℕ → X → Y) (id : ℕ)
    (agree : (n : ℕ) → n ≢ id → (x : X) → new n x ≡ view n x) where
  behind : (low : ℕ) (es : List (ℕ × X)) → id < low → rises_from low es ≡ true
      → seen_under keeps new es ≡ seen_under keeps view es
  behind low [] less rises = refl
  behind low (e ∷ es) less rises =
      let first = rises_from-head low e es rises in
      let rest = behind (e.0 + 1) es (omega arith) (rises_from-tail low e es rises) in
      elim (cases_Bool (keeps e.0)) [
        | inl kept ↦ rw (kept, agree e.0 (λ is. absurd (omega (arith, is, first))) e.1, rest) refl
        | inr hidden ↦ rw (hidden, rest) refl
      ]

  pub one-same : (x : X) → new id x ≡ view id x → (low : ℕ) (es : List (ℕ × X)) → rises_from low es ≡ true
      → under id es ≡ Some x → seen_under keeps new es ≡ seen_under keeps view es
  one-same x same low [] rises found = refl
  one-same x same low (e ∷ es) rises found =
      let tail = rises_from-tail low e es rises in
      elim (cases_Bool (eqb e.0 id)) [
        | inl here ↦
            let is : e.0 ≡ id = eqb-true e.0 id here in
            let it : e.1 ≡ x = same_Some e.1 x (ap (λ b. cond b (Some e.1) (under id es)) (sym here) ∙ found) in
            let one : new e.0 e.1 ≡ view e.0 e.1 =
            ap (λ n. new n e.1) is ∙ ap (new id) it ∙ same ∙ ap (view id) (sym it) ∙ ap (λ n. view n e.1) (sym is) in
            let rest = behind (e.0 + 1) es (omega (arith, is)) tail in
            elim (cases_Bool (keeps e.0)) [
              | inl kept ↦ rw (kept, one, rest) refl
              | inr hidden ↦ rw (hidden, rest) refl
            ]
        | inr other ↦
            let it : under id es ≡ Some x = ap (λ b. cond b (Some e.1) (under id es)) (sym other) ∙ found in
            let rest = one-same x same (e.0 + 1) es tail it in
            elim (cases_Bool (keeps e.0)) [
              | inl kept ↦ rw (kept, agree e.0 (apart e.0 id other) e.1, rest) refl
              | inr hidden ↦ rw (hidden, rest) refl
            ]
      ]

  pub none-same : (es : List (ℕ × X)) → under id es ≡ None → seen_under keeps new es ≡ seen_under keeps view es
  none-same [] none = refl
  none-same (e ∷ es) none =
      elim (cases_Bool (eqb e.0 id)) [
        | inl here ↦ absurd (some e.1 (ap (λ b. cond b (Some e.1) (under id es)) (sym here) ∙ none))
        | inr other ↦
            let rest = none-same es (ap (λ b. cond b (Some e.1) (under id es)) (sym other) ∙ none) in
            elim (cases_Bool (keeps e.0)) [
              | inl kept ↦ rw (kept, agree e.0 (apart e.0 id other) e.1, rest) refl
              | inr hidden ↦ rw (hidden, rest) refl
            ]
      ]
    where
      some : (x : X) → (let o : Option X = Some x in o) ≡ None → ⊥
      some x e = cc

-- Another cover of a process, that hides the same of it, hides the same of the system.
pub covers-alike : (covers : Covers) (s : TracedSystem) (pid : ℕ) (c : Cover) → IsRising s.processes
    → ((p : TracedProcess) → process_of s pid ≡ Some p → uncovered_process c p ≡ uncovered_process (covers pid) p)
    → uncovered (with_cover pid c covers) s ≡ uncovered covers s
unfolding uncovered
covers-alike covers s pid c rising same =
    ap (λ ps. record s { processes = ps }) (by (under pid s.processes) refl)
  where
    new : Covers
    new = with_cover pid c covers

    agree : (n : ℕ) → n ≢ pid → (x : TracedProcess) → process_beneath new n x ≡ process_beneath covers n x
    agree n other x = ap (λ (d : Cover). uncovered_process d x) (cover-other pid c covers n other)

    by : (o : Option TracedProcess) → under pid s.processes ≡ o
        → seen_under all_kept (process_beneath new) s.processes
        ≡ seen_under all_kept (process_beneath covers) s.processes
    by None is = none-same all_kept (process_beneath covers) (process_beneath new) pid agree s.processes is
    by (Some p) is =
        one-same all_kept (process_beneath covers) (process_beneath new) pid agree p
        (ap (λ (d : Cover). uncovered_process d p) (cover-own pid c covers) ∙ same p is) 0 s.processes rising is

-- ---- an lwp that stands at no fault of a controller's

no-fault-same : (own : Bool) (phase : Phase) → (own ≡ true → (f : Flt) (address : ℕ) → phase ≡ Faulted f address → ⊥)
    → phase ≡ phase_beneath own phase
no-fault-same false phase none = refl
no-fault-same true User none = refl
no-fault-same true (Entered call) none = refl
no-fault-same true (Asleep call args since) none = refl
no-fault-same true (Exiting call args result) none = refl
no-fault-same true (Faulted f address) none = absurd (none refl f address refl)

clear-lwp : (own : Bool) (l : TracedLwp) → (own ≡ true → (f : Flt) (address : ℕ) → l.phase ≡ Faulted f address → ⊥)
    → uncovered_lwp false l ≡ uncovered_lwp own l
unfolding uncovered_lwp
clear-lwp own l none = ap (λ ph. record (uncovered_lwp false l) { phase = ph }) (no-fault-same own l.phase none)

-- it can be noted so
pub fault-reset : (c : Cover) (p : TracedProcess) (id : ℕ) (l : TracedLwp) → IsRising p.lwps → lwp_of p id ≡ Some l
    → (c.faulted id ≡ true → (f : Flt) (address : ℕ) → l.phase ≡ Faulted f address → ⊥)
    → uncovered_process (with_fault id false c) p ≡ uncovered_process c p
unfolding uncovered_process
fault-reset c p id l rising there none =
    ap (λ ls. record (uncovered_process c p) { lwps = ls })
    (one-same (keeps_lwp c) (lwp_beneath c) (lwp_beneath (with_fault id false c)) id
    (λ n other x. ap (λ (b : Bool). uncovered_lwp b x) (rw (ne_eqb n id other) refl)) l
    (ap (λ (b : Bool). uncovered_lwp b l) (own-at (eq-eqb id id refl)) ∙ clear-lwp (c.faulted id) l none)
    0 p.lwps rising there)
  where
    own-at : eqb id id ≡ true → (with_fault id false c).faulted id ≡ false
    own-at is = rw is refl

-- ---- who has finished

clear-views : (c : Cover) (ls : List (ℕ × TracedLwp)) → All (IsClearLwp c) ls
    → seen_under all_kept (lwp_beneath no_cover) ls ≡ seen_under all_kept (lwp_beneath c) ls
clear-views c [] clear = refl
clear-views c (e ∷ ls) clear =
    let first = All-head (IsClearLwp c) e ls clear in
    let here : uncovered_lwp false e.1 ≡ uncovered_lwp (c.faulted e.0) e.1 =
    clear-lwp (c.faulted e.0) e.1 (λ own f address is. clash (sym own ∙ first f address is)) in
    ap (λ l. (e.0, l) ∷ seen_under all_kept (lwp_beneath no_cover) ls) here
    ∙ ap (λ ds. (e.0, uncovered_lwp (c.faulted e.0) e.1) ∷ ds)
    (clear-views c ls (All-tail (IsClearLwp c) e ls clear))
  where
    clash : true ≡ false → ⊥
    clash e = cc

clear-lwps : (c : Cover) → c.agent ≡ false → (ls : List (ℕ × TracedLwp)) → All (IsClearLwp c) ls
    → seen_under (keeps_lwp no_cover) (lwp_beneath no_cover) ls ≡ seen_under (keeps_lwp c) (lwp_beneath c) ls
clear-lwps c none ls clear =
    seen-alike (keeps_lwp no_cover) all_kept (lwp_beneath no_cover) (λ id. refl) ls ∙ clear-views c ls clear
    ∙ seen-alike all_kept (keeps_lwp c) (lwp_beneath c) (λ id. rw none refl) ls

pub clear-same : (c : Cover) (p : TracedProcess) → IsClear c p → uncovered_process no_cover p ≡ uncovered_process c p
unfolding uncovered_process
clear-same c p clear =
    ap (λ ls. record p { lwps = ls }) (clear-lwps c clear.no_agent p.lwps clear.lwps)
    ∙ ap (λ (ps : List Patch).
    record p { space = patched ps p.space; lwps = seen_under (keeps_lwp c) (lwp_beneath c) p.lwps })
    (sym clear.no_patches)

-- nothing can be hidden of a zombie
pub zombie-same : (c d : Cover) (p : TracedProcess) → p.space ≡ [] → p.lwps ≡ []
    → uncovered_process c p ≡ uncovered_process d p
unfolding uncovered_process
zombie-same c d p no_memory no_lwps = rw (no_memory, no_lwps, patched-none c.patches, patched-none d.patches) refl
