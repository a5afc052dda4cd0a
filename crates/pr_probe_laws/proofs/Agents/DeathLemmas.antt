use Rattle.std.proofs.Common.{◌≡◌, ◌≢◌, ◌⊎◌, ◌==◌, ◌&&◌, ◌∷◌, ℕ, Bool, true, false, cond, is_none, List, [], Option, Some, None, refl, sym, subst, ap, ◌∙◌, inl, inr}
use Rattle.std.proofs.lemmas.Bool.{cases_eq, eq-eqb, false≢true}
use Rattle.std.proofs.lemmas.Option.{none-some, same_Some}
use Rattle.std.specs.Option.{option_and_then, option_map}
use Rattle.pr_keeps.proofs.LoanLemmas.{loans_passed-keep}
use Rattle.pr_lawful.proofs.LawfulTurns.EndLemmas.{buried}
use Rattle.pr_lawful.proofs.ProcessParts.FileLemmas.{choice}
use Rattle.pr_model.specs.Changes.{Change, Ending, all_changed, changed, signals}
use Rattle.pr_model.specs.Generation.{signalled}
use Rattle.pr_model.specs.LwpTurns.{settled, with_counted}
use Rattle.pr_model.specs.Lives.{ended_if_live, orphaned, with_ended, with_lender_of, with_loan_back, with_loans_passed, with_parent_signalled, with_this_ended, zombie}
use Rattle.pr_model.specs.Machines.{traced}
use Rattle.pr_model.specs.Moves.{moved}
use Rattle.pr_model.specs.Points.{after_meeting}
use Rattle.pr_model.specs.Rows.{Row}
use Rattle.pr_model.specs.Signals.{generated, is_kill}
use Rattle.pr_model.specs.State.{TracedLwp, TracedProcess, TracedSystem, if_live, live_process, process_of, with_lwp, with_lwp_of, with_process}
use Rattle.pr_model.specs.Transitions.{after_transition, ended_if}
use Rattle.pr_num.proofs.ByIdLaws.{under-change_under, under-change_under_other, under-map_each}
use Rattle.pr_num.specs.ById.{change_under, under}
use Rattle.pr_num.specs.Signals.{signal_number}
use Rattle.pr_num.specs.declared.infos.Info.{Info}
use Rattle.pr_num.specs.declared.signals.Sig.{Sig}
use Rattle.pr_num.specs.declared.signals.Sig.TheVariants.{Cld}
use Rattle.pr_truss_laws.proofs.Machine.FrameLemmas.{ended-same, lender_of-undisturbed, loan_back-undisturbed, orphaned-undisturbed, told-undisturbed}
use Rattle.pr_truss_laws.specs.Stills.{IsUndisturbed}

-- A process that ends does not live then.

module _ (pid : ℕ) where
  -- what stands under its id, if anything does, does not live
  pub record IsDead (s : TracedSystem) : Type 0 where
    pub over : (x : TracedProcess) → process_of s pid ≡ Some x → is_none x.ended ≡ false

  pub dead-none : (s : TracedSystem) → IsDead s → live_process s pid ≡ None
  unfolding live_process
  dead-none s dead = by (process_of s pid) refl
    where
      by : (o : Option TracedProcess) → process_of s pid ≡ o → option_and_then if_live o ≡ None
      by None there = refl
      by (Some x) there = ap (λ (b : Bool). cond b (Some x) None) (dead.over x there)

  mapped-dead : (f : TracedProcess → TracedProcess) → ((x : TracedProcess) → (f x).ended ≡ x.ended)
      → (o : Option TracedProcess) → ((x : TracedProcess) → o ≡ Some x → is_none x.ended ≡ false)
      → (y : TracedProcess) → option_map f o ≡ Some y → is_none y.ended ≡ false
  mapped-dead f same None dead y is = absurd (none-some y is)
  mapped-dead f same (Some x) dead y is =
      ap (λ (z : TracedProcess). is_none z.ended) (sym (same_Some (f x) y is))
      ∙ ap (λ (e : Option ℕ). is_none e) (same x) ∙ dead x refl

  -- a process is changed, whose end is not
  pub changed-dead : (other : ℕ) (f : TracedProcess → TracedProcess) (s : TracedSystem)
      → ((x : TracedProcess) → (f x).ended ≡ x.ended) → IsDead s → IsDead (with_process other f s)
  unfolding with_process
  changed-dead other f s same dead = record { over = by (cases_eq other pid) }
    where
      by : (other ≡ pid) ⊎ (other ≢ pid) → (y : TracedProcess)
          → under pid (change_under other f s.processes) ≡ Some y → is_none y.ended ≡ false
      by (inl is) y there =
          mapped-dead f same (under pid s.processes) dead.over y
          (sym (under-change_under pid f s.processes)
          ∙ subst (λ (n : ℕ). under pid (change_under n f s.processes) ≡ Some y) is there)
      by (inr differs) y there =
          dead.over y (sym (under-change_under_other other pid f differs s.processes) ∙ there)

  alone-dead : (other : ℕ) (f : TracedProcess → TracedProcess) (s : TracedSystem)
      → ((x : TracedProcess) → IsUndisturbed x (f x)) → IsDead s → IsDead (with_process other f s)
  alone-dead other f s alone dead = changed-dead other f s (λ x. ended-same x (f x) (alone x)) dead

  buried-dead : (p : TracedProcess) (status : ℕ) (s : TracedSystem) → IsDead (buried pid p status s)
  unfolding zombie
  buried-dead p status s = record {
    over = λ y there. by (under pid s.processes) y
        (sym (under-map_each pid (orphaned pid) (change_under pid (zombie traced status) s.processes)
        ∙ ap (option_map (orphaned pid)) (under-change_under pid (zombie traced status) s.processes)) ∙ there);
  }
    where
      gone : (x : TracedProcess) → is_none (orphaned pid (zombie traced status x)).ended ≡ false
      gone x =
          let z : TracedProcess = zombie traced status x in
          ap (λ (e : Option ℕ). is_none e) (ended-same z (orphaned pid z) (orphaned-undisturbed pid z))

      by : (o : Option TracedProcess) (y : TracedProcess)
          → option_map (orphaned pid) (option_map (zombie traced status) o) ≡ Some y → is_none y.ended ≡ false
      by None y is = absurd (none-some y is)
      by (Some x) y is =
          ap (λ (z : TracedProcess). is_none z.ended)
          (sym (same_Some (orphaned pid (zombie traced status x)) y is)) ∙ gone x

  parent-dead : (parent gone status : ℕ) (s : TracedSystem) → IsDead s
      → IsDead (with_parent_signalled parent gone status s)
  unfolding with_parent_signalled
  parent-dead parent gone status s dead =
      choice IsDead (parent == 0) _ _ (λ none. dead)
      (λ some. alone-dead parent (signalled None Cld _) s (told-undisturbed None Cld _) dead)

  pub ended-dead : (p : TracedProcess) (status : ℕ) (s : TracedSystem)
      → IsDead (with_this_ended traced pid p status s)
  unfolding with_this_ended
  ended-dead p status s =
      let dies : TracedSystem = buried pid p status s in
      parent-dead p.parent pid status (with_loans_passed pid p dies)
      (loans_passed-keep IsDead pid p
      (λ lender u dead. alone-dead lender (with_loan_back pid p) u (loan_back-undisturbed pid p) dead)
      (λ borrower u dead. alone-dead borrower (with_lender_of pid p) u (lender_of-undisturbed pid p) dead) dies
      (buried-dead p status s))

  -- what does not live
  none-dead : (s : TracedSystem) → live_process s pid ≡ None → IsDead s
  unfolding live_process
  none-dead s none = record { over = λ x there. by x there (is_none x.ended) refl }
    where
      by : (x : TracedProcess) → process_of s pid ≡ Some x → (b : Bool) → is_none x.ended ≡ b → is_none x.ended ≡ false
      by x there false is = is
      by x there true is =
          absurd (none-some x
          (sym none ∙ ap (option_and_then if_live) there ∙ ap (λ (b : Bool). cond b (Some x) None) is))

  -- another process is changed
  other-dead : (other : ℕ) (f : TracedProcess → TracedProcess) (s : TracedSystem) → other ≢ pid → IsDead s
      → IsDead (with_process other f s)
  unfolding with_process
  other-dead other f s differs dead = record {
    over = λ y there. dead.over y (sym (under-change_under_other other pid f differs s.processes) ∙ there);
  }

  -- SIGKILL is sent to it
  pub generated-dead : (own : Option ℕ) (g : Sig) (info : Info) (s : TracedSystem) → is_kill g ≡ true
      → IsDead (generated traced pid own g info s)
  unfolding generated with_ended
  generated-dead own g info s deadly =
      choice IsDead (is_kill g) _ _ (λ kill. by (live_process s pid) refl)
      (λ other. absurd (false≢true (sym other ∙ deadly)))
    where
      by : (o : Option TracedProcess) → live_process s pid ≡ o
          → IsDead (ended_if_live traced pid (signal_number g) s o)
      by None none = none-dead s none
      by (Some p) live = ended-dead p (signal_number g) s

-- A turn of an lwp of one process that sends SIGKILL to another one.
pub record Kills (acting target : ℕ) (row : Row) : Type 0 where
  pub g : Sig
  pub info : Info
  pub deadly : is_kill g ≡ true
  pub other : (is_kill g && (target == acting)) ≡ false
  pub changes : row.transition.changes ≡ signals target g info ∷ []
  pub on : row.transition.ending ≡ None

-- That does not live then.
pub killed-none : (s : TracedSystem) (acting : ℕ) (p : TracedProcess) (id : ℕ) (l : TracedLwp) (row : Row)
    (target : ℕ) → Kills acting target row → live_process (settled s acting p id l row).system target ≡ None
unfolding settled after_transition all_changed changed with_lwp_of
killed-none s acting p id l row target it =
    dead-none target _
    (other-dead target acting (after_meeting row.point id) _ apart
    (other-dead target acting (with_counted row.did row.begun) _ apart
    (subst (λ (o : Option Ending). IsDead target (ended_if traced acting p id l o moved_on)) (sym it.on)
    (other-dead target acting (with_lwp id (moved traced row.transition.move)) _ apart
    (subst (λ (cs : List Change). IsDead target (all_changed traced acting p id l cs s)) (sym it.changes)
    (subst (λ (b : Bool). IsDead target (cond b s (generated traced target None it.g it.info s))) (sym it.other)
    (generated-dead target None it.g it.info s it.deadly)))))))
  where
    moved_on : TracedSystem
    moved_on =
        with_process acting (with_lwp id (moved traced row.transition.move))
        (all_changed traced acting p id l row.transition.changes s)

    apart : acting ≢ target
    apart same =
        false≢true (sym it.other ∙ ap (λ (b : Bool). b && (target == acting)) it.deadly
        ∙ eq-eqb target acting (sym same))
