use Rattle.std.proofs.Common.{◌≡◌, ◌⊎◌, ◌||◌, ℕ, ◌+◌, ◌<◌, ◌≤◌, Bool, true, false, is_none, eqb, cond, Option, Some, None, List, [], ◌∷◌, refl, sym, subst, ◌∙◌, ap, arith, inl, inr}
use Rattle.std.specs.List.{list_any}
use Rattle.std.proofs.lemmas.Bool.{cases_Bool, cases_eq, cases_lt, eq-eqb, eqb-true, true≢false}
use Rattle.std.proofs.lemmas.Option.{none-some, same_Some}
use Rattle.pr_api.specs.Sleepers.{has_sleeper, is_sleeper, sleeps_on}
use Rattle.pr_num.proofs.ByIdLemmas.{rises_from-tail, rises_from-head}
use Rattle.pr_num.proofs.ByIdLaws.{All-under}
use Rattle.pr_num.specs.ById.{rises_from, under}
use Rattle.pr_num.specs.declared.syscalls.Sysno.{Sysno}
use Rattle.pr_num.specs.declared.syscalls.Sysno.TheVariants.{Sleep}
use Rattle.pr_model.specs.Lawful.{IsLawfulProcess, IsLawfulSystem}
use Rattle.pr_model.specs.State.{TracedLwp, TracedProcess, TracedSystem, live_process, process_of}
use Rattle.pr_model.specs.declared.lwps.Phase.{Phase}
use Rattle.pr_model.specs.declared.lwps.Phase.TheVariants.{Asleep}
use Rattle.pr_lawful.proofs.LawfulTurns.EndLemmas.{found-live}
use Rattle.pr_pids.specs.Members.{HasNoneFrom, IsNextFrom, has_pid}
use Rattle.pr_ready.specs.Ready.{CoversDozing, is_dozing, some_dozing}
use Rattle.pr_ready.specs.Walks.{has_sleeper_of}
use Rattle.pr_ready_laws.specs.Left.{dozes}
use Rattle.pr_ready.proofs.WalkLemmas.{under-above}

-- Whom the clock has to wake, where only the processes of a set are looked at.

-- who sleeps until a later moment sleeps in that call
sleep-dozes : (clock : ℕ) (ph : Phase) → dozes ph ≡ false → sleeps_on clock ph ≡ false
sleep-dozes clock (Asleep Sleep args since) none = absurd (true≢false none)
sleep-dozes clock _ none = refl

none-dozing : (clock : ℕ) (es : List (ℕ × TracedLwp)) → list_any is_dozing es ≡ false
    → list_any (is_sleeper clock) es ≡ false
none-dozing clock [] none = refl
none-dozing clock (e ∷ es) none = by (dozes e.1.phase) refl none (none-dozing clock es)
  where
    by : (b : Bool) → dozes e.1.phase ≡ b → (b || list_any is_dozing es) ≡ false
        → (list_any is_dozing es ≡ false → list_any (is_sleeper clock) es ≡ false)
        → list_any (is_sleeper clock) (e ∷ es) ≡ false
    by true is none rest = absurd (true≢false none)
    by false is none rest = rw (sleep-dozes clock e.1.phase is) (rest none)

-- no lwp of the processes below an id sleeps so
abbrev pub NoneBelow : ℕ → List (ℕ × TracedProcess) → ℕ → Type 0
NoneBelow clock es end =
    (pid : ℕ) (p : TracedProcess) → pid < end → under pid es ≡ Some p → list_any (is_sleeper clock) p.lwps ≡ false

pub sleeper-here : (clock pid : ℕ) (p : TracedProcess) (es : List (ℕ × TracedProcess)) → under pid es ≡ Some p
    → list_any (is_sleeper clock) p.lwps ≡ true → list_any (has_sleeper clock) es ≡ true
sleeper-here clock pid p [] there sleeps = cc
sleeper-here clock pid p (e ∷ es) there sleeps =
    by (eqb e.0 pid) there (λ found. sleeper-here clock pid p es found sleeps)
  where
    or-true : (b : Bool) → (b || true) ≡ true
    or-true true = refl
    or-true false = refl

    by : (b : Bool) → cond b (Some e.1) (under pid es) ≡ Some p
        → (under pid es ≡ Some p → list_any (has_sleeper clock) es ≡ true)
        → list_any (has_sleeper clock) (e ∷ es) ≡ true
    by true found rest =
        let same : e.1 ≡ p = same_Some e.1 p found in
        rw (ap (λ (x : TracedProcess). list_any (is_sleeper clock) x.lwps) same ∙ sleeps) refl
    by false found rest = rw (rest found) (or-true (has_sleeper clock e))

none-sleeps : (clock low : ℕ) (es : List (ℕ × TracedProcess)) → rises_from low es ≡ true
    → ((pid : ℕ) (p : TracedProcess) → under pid es ≡ Some p → list_any (is_sleeper clock) p.lwps ≡ false)
    → list_any (has_sleeper clock) es ≡ false
none-sleeps clock low [] rises none = refl
none-sleeps clock low (e ∷ es) rises none =
    let tail = rises_from-tail low e es rises in
    rw (none e.0 e.1 (rw (eq-eqb e.0 e.0 refl) refl)) (none-sleeps clock (e.0 + 1) es tail (rest tail))
  where
    rest : rises_from (e.0 + 1) es ≡ true → (pid : ℕ) (p : TracedProcess) → under pid es ≡ Some p
        → list_any (is_sleeper clock) p.lwps ≡ false
    rest tail pid p there =
        elim (cases_Bool (eqb e.0 pid)) [
          | inl same ↦ absurd
              (none-some p (sym (under-above (e.0 + 1) pid (let is = eqb-true e.0 pid same in omega arith) es tail)
              ∙ there))
          | inr apart ↦ none pid p (rw apart there)
        ]

module _ (s : TracedSystem) (h : IsLawfulSystem s) (clock : ℕ) where
  -- a process that is not live has no lwps
  pub ended-none : (pid : ℕ) (p : TracedProcess) → process_of s pid ≡ Some p
      → (live_process s pid ≡ Some p → list_any (is_sleeper clock) p.lwps ≡ false)
      → list_any (is_sleeper clock) p.lwps ≡ false
  unfolding live_process
  ended-none pid p there live = by p.ended refl
    where
      own : IsLawfulProcess (pid, p)
      own = All-under IsLawfulProcess pid p s.processes h.processes there

      by : (o : Option ℕ) → p.ended ≡ o → list_any (is_sleeper clock) p.lwps ≡ false
      by None is = live (rw (there, is) refl)
      by (Some status) is = rw (own.empty_zombie.no_lwps status is) refl

  pub none-left : ((end : ℕ) → NoneBelow clock s.processes end) → list_any (has_sleeper clock) s.processes ≡ false
  none-left none =
      none-sleeps clock 0 s.processes h.rising (λ pid p there. none (pid + 1) pid p (omega arith) there)

-- ---- the walk over a set

pub sleeper-live : (s : TracedSystem) (clock pid : ℕ) → has_sleeper_of clock (live_process s pid) ≡ true
    → list_any (has_sleeper clock) s.processes ≡ true
sleeper-live s clock pid sleeps = by (live_process s pid) refl sleeps
  where
    by : (o : Option TracedProcess) → live_process s pid ≡ o → has_sleeper_of clock o ≡ true
        → list_any (has_sleeper clock) s.processes ≡ true
    by None is sleeps = absurd (true≢false (sym sleeps))
    by (Some p) is sleeps = sleeper-here clock pid p s.processes (found-live s pid p is).0 sleeps

module _ (s : TracedSystem) (h : IsLawfulSystem s) (clock : ℕ) (dozing : List ℕ) (covers : CoversDozing s dozing) where
  -- none sleeps so in a process that is not of the set
  none-out : (pid : ℕ) (p : TracedProcess) → process_of s pid ≡ Some p → has_pid dozing pid ≡ false
      → list_any (is_sleeper clock) p.lwps ≡ false
  none-out pid p there out =
      ended-none s h clock pid p there (λ live. none-dozing clock p.lwps (by live (cases_Bool (some_dozing p))))
    where
      by : live_process s pid ≡ Some p → (some_dozing p ≡ true) ⊎ (some_dozing p ≡ false) → some_dozing p ≡ false
      by live (inl some) = absurd (true≢false (sym (covers.each pid p live some) ∙ out))
      by live (inr none) = none

  none-at : (pid : ℕ) (p : TracedProcess) → process_of s pid ≡ Some p
      → has_sleeper_of clock (live_process s pid) ≡ false → list_any (is_sleeper clock) p.lwps ≡ false
  none-at pid p there none =
      ended-none s h clock pid p there
      (λ live. subst (λ (o : Option TracedProcess). has_sleeper_of clock o ≡ false) live none)

  pub none-next : (from pid : ℕ) → NoneBelow clock s.processes from → IsNextFrom dozing from pid
      → has_sleeper_of clock (live_process s pid) ≡ false → NoneBelow clock s.processes (pid + 1)
  none-next from pid before next none other p below there =
      elim (cases_lt other from) [
        | inl past ↦ before other p past there
        | inr on ↦ elim (cases_eq other pid) [
          | inl same ↦ none-at other p there
              (subst (λ n. has_sleeper_of clock (live_process s n) ≡ false) (sym same) none)
          | inr apart ↦ none-out other p there (next.least other on (omega arith))
        ]
      ]

  pub none-sleeping : (from : ℕ) → NoneBelow clock s.processes from → HasNoneFrom dozing from
      → list_any (has_sleeper clock) s.processes ≡ false
  none-sleeping from before none =
      none-left s h clock (λ end other p below there. elim (cases_lt other from) [
        | inl past ↦ before other p past there
        | inr on ↦ none-out other p there (none.none other on)
      ])
