use Rattle.std.proofs.Common.{◌≡◌, ℕ, Bool, true, false, ◌&&◌, eqb, Option, Some, None, List, [], ◌∷◌, cond, refl, ◌∙◌, ap}
use Rattle.pr_num.specs.Signals.{signal_number}
use Rattle.pr_num.specs.declared.infos.Info.{Info}
use Rattle.pr_num.specs.declared.signals.Sig.{Sig}
use Rattle.pr_model.specs.Changes.{Change, files_are, space_is, signals, signals_itself, takes_shared, job_stops, disposition_is, held_is, resumes, forks, reaps, becomes, makes_lwp, suspends, Ending, ends_process, ends_lwp, with_fds, with_space, with_shared_taken, with_job_stop, with_disposition_of, with_held, resumed, with_suspended, changed, all_changed, ended}
use Rattle.pr_model.specs.Erasure.{erased_lwp, erased_process, erased_system}
use Rattle.pr_model.specs.Generation.{signalled}
use Rattle.pr_model.specs.Lives.{with_loan_back, with_ended, with_program, with_new_lwp}
use Rattle.pr_model.specs.Machines.{traced, untraced}
use Rattle.pr_model.specs.Signals.{is_kill, generated}
use Rattle.pr_model.specs.State.{TracedLwp, TracedProcess, TracedSystem, with_process, with_process_if, with_lwp}
use Rattle.pr_erasure.proofs.SeenParts.LifeLemmas.{with_loan_back-erased, with_this_ended-erased, with_ended-erased, with_child-erased, with_reaped-erased, with_program-erased, with_new_lwp-erased, with_lwp_ended-erased}
use Rattle.pr_erasure.specs.Suiting.{IsSent, IsProper, AreProper}
use Rattle.pr_erasure.proofs.SeenParts.SignalLemmas.{signalled-erased}
use Rattle.pr_erasure.proofs.SeenParts.StateLemmas.{with_process-erased, with_process_if-erased, with_lwp-erased}

-- What a turn changes of the system, as programs see it: a line a kind of change.

-- a signal is generated
pub generated-erased : (pid : ℕ) (target : Option ℕ) (g : Sig) (info : Info) → IsSent info → (s : TracedSystem)
    → erased_system (generated traced pid target g info s) ≡ generated untraced pid target g info (erased_system s)
unfolding generated
generated-erased pid target g info sent s =
    elim (is_kill g) as
    (λ b. erased_system
    (cond b (with_ended traced pid (signal_number g) s)
    (with_process pid (signalled target g info) s)) ≡ cond b
    (with_ended untraced pid (signal_number g) (erased_system s))
    (with_process pid (signalled target g info) (erased_system s))) [
      | true ↦ with_ended-erased pid (signal_number g) s
      | false ↦ with_process-erased s pid (signalled target g info)
          (signalled target g info) (λ x found. signalled-erased target g info sent x)
    ]

module _ (pid : ℕ) (p : TracedProcess) (id : ℕ) (l : TracedLwp) where
  unless : (b : Bool) (s old : TracedSystem) {new : _} → erased_system old ≡ new
      → erased_system (cond b s old) ≡ cond b (erased_system s) new
  unless true s old e = refl
  unless false s old e = e

  own_lwp : (s : TracedSystem) (other : ℕ) (f : TracedLwp → TracedLwp) (g : _ → _)
      → ((x : TracedLwp) → erased_lwp (f x) ≡ g (erased_lwp x))
      → erased_system (with_process pid (with_lwp other f) s) ≡ with_process pid (with_lwp other g) (erased_system s)
  own_lwp s other f g agree =
      with_process-erased s pid (with_lwp other f) (with_lwp other g)
      (λ x found. with_lwp-erased x other f g (λ y there. agree y))

  pub changed-erased : (c : Change) → IsProper c → (s : TracedSystem)
      → erased_system (changed traced pid p id l c s) ≡ changed untraced pid (erased_process p) id (erased_lwp l) c
      (erased_system s)
  unfolding changed erased_system erased_process erased_lwp with_fds with_space with_shared_taken with_job_stop
      with_disposition_of with_held resumed with_suspended
  changed-erased (files_are files fds) sent s =
      with_process-erased (record s { files = files }) pid (with_fds fds) (with_fds fds) (λ x found. refl)
  changed-erased (space_is space) sent s =
      with_process-erased s pid (with_space space) (with_space space) (λ x found. refl)
  changed-erased (signals target g info) sent s =
      unless (is_kill g && eqb target pid) s _ (generated-erased target None g info sent s)
  changed-erased (signals_itself g info) sent s = unless (is_kill g) s _ (generated-erased pid (Some id) g info sent s)
  changed-erased (takes_shared g) sent s =
      with_process-erased s pid (with_shared_taken g) (with_shared_taken g) (λ x found. refl)
  changed-erased (job_stops g) sent s = with_process-erased s pid (with_job_stop g) (with_job_stop g) (λ x found. refl)
  changed-erased (disposition_is g d) sent s =
      with_process-erased s pid (with_disposition_of g d) (with_disposition_of g d) (λ x found. refl)
  changed-erased (held_is held) sent s = own_lwp s id (with_held held) (with_held held) (λ x. refl)
  changed-erased (resumes frame frames) sent s = own_lwp s id (resumed frame frames) (resumed frame frames) (λ x. refl)
  changed-erased (forks birth args) sent s = unless (eqb s.made pid) s _ (with_child-erased birth pid p l args s)
  changed-erased (reaps child) sent s = unless (eqb child pid) s _ (with_reaped-erased child s)
  changed-erased (becomes program) sent s =
      with_process_if-erased (with_process pid (with_program traced id l program) s) p.lender (with_loan_back pid p)
      (with_loan_back pid (erased_process p)) (with_loan_back-erased pid p)
      ∙ ap (with_process_if p.lender (with_loan_back pid (erased_process p)))
      (with_process-erased s pid (with_program traced id l program) (with_program untraced id (erased_lwp l) program)
      (λ x found. with_program-erased id l program x))
  changed-erased (makes_lwp new regs held) sent s =
      with_process-erased s pid (with_new_lwp traced new regs held) (with_new_lwp untraced new regs held)
      (λ x found. with_new_lwp-erased new regs held x)
  changed-erased (suspends other it) sent s = own_lwp s other (with_suspended it) (with_suspended it) (λ x. refl)

  pub all_changed-erased : (cs : List Change) → AreProper cs → (s : TracedSystem)
      → erased_system (all_changed traced pid p id l cs s) ≡ all_changed untraced pid (erased_process p) id
      (erased_lwp l) cs (erased_system s)
  unfolding all_changed
  all_changed-erased [] sent s = refl
  all_changed-erased (c ∷ cs) sent s =
      all_changed-erased cs sent.1 (changed traced pid p id l c s)
      ∙ ap (all_changed untraced pid (erased_process p) id (erased_lwp l) cs) (changed-erased c sent.0 s)

  pub ended-erased : (how : Ending) (s : TracedSystem)
      → erased_system (ended traced pid p id how s) ≡ ended untraced pid (erased_process p) id how (erased_system s)
  unfolding ended
  ended-erased (ends_process status) s = with_this_ended-erased pid p status s
  ended-erased ends_lwp s = with_lwp_ended-erased pid p id s
