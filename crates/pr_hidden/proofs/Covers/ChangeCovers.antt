use Rattle.std.proofs.Common.{◌≡◌, ◌&&◌, ℕ, Bool, true, false, eqb, Option, Some, None, List, [], ◌∷◌, cond, refl, sym, ◌∙◌, ap}
use Rattle.pr_num.specs.Signals.{signal_number}
use Rattle.pr_num.specs.declared.infos.Info.{Info}
use Rattle.pr_num.specs.declared.signals.Sig.{Sig}
use Rattle.pr_model.specs.Changes.{Change, files_are, space_is, signals, signals_itself, takes_shared, job_stops, disposition_is, held_is, resumes, forks, reaps, becomes, makes_lwp, suspends, Ending, ends_process, ends_lwp, with_fds, with_space, with_shared_taken, with_job_stop, with_disposition_of, with_held, resumed, with_suspended, changed, all_changed, ended}
use Rattle.pr_model.specs.Generation.{signalled}
use Rattle.pr_model.specs.Lives.{with_ended, with_loan_back, with_new_lwp, with_program}
use Rattle.pr_model.specs.Machines.{traced}
use Rattle.pr_model.specs.Signals.{generated, is_kill}
use Rattle.pr_model.specs.State.{TracedLwp, TracedProcess, TracedSystem, with_lwp, with_process, with_process_if}
use Rattle.pr_hidden.specs.Covers.{Covers, patched, uncovered, uncovered_lwp, uncovered_process}
use Rattle.pr_hidden.specs.Following.{Allows, AllowsAll, MayEnd, MayLeave, patched_change, patched_changes}
use Rattle.pr_hidden.proofs.Covers.LifeCovers.{child-uncovered, ended-uncovered, loan_back-uncovered, lwp_ended-uncovered, program-uncovered, reaped-uncovered, this_ended-uncovered, with_new_lwp-uncovered}
use Rattle.pr_hidden.proofs.Covers.SignalCovers.{signalled-uncovered}
use Rattle.pr_hidden.proofs.Covers.StateCovers.{with_lwp-uncovered, with_process-uncovered, with_process_if-uncovered}

-- What a turn changes of the system, without what is hidden: a line a kind of change.

-- a signal is generated
pub generated-uncovered : (covers : Covers) (pid : ℕ) (target : Option ℕ) (g : Sig) (info : Info) (s : TracedSystem)
    → (is_kill g ≡ true → MayEnd covers s pid)
    → uncovered covers (generated traced pid target g info s) ≡ generated traced pid target g info (uncovered covers s)
unfolding generated
generated-uncovered covers pid target g info s may = by (is_kill g) refl
  where
    by : (b : Bool) → is_kill g ≡ b
        → uncovered covers
        (cond b (with_ended traced pid (signal_number g) s) (with_process pid (signalled target g info) s))
        ≡ cond b (with_ended traced pid (signal_number g) (uncovered covers s))
        (with_process pid (signalled target g info) (uncovered covers s))
    by true is = ended-uncovered covers pid (signal_number g) s (may is)
    by false is =
        with_process-uncovered covers s pid (signalled target g info) (signalled target g info)
        (λ x. signalled-uncovered (covers pid) target g info x)

never : (g : Sig) (target : ℕ) (covers : Covers) (s : TracedSystem) → is_kill g ≡ false → is_kill g ≡ true
    → MayEnd covers s target
never g target covers s other it = absurd (clash (sym it ∙ other))
  where
    clash : true ≡ false → ⊥
    clash e = cc

module _ (covers : Covers) (pid : ℕ) (p : TracedProcess) (id : ℕ) (l : TracedLwp) where
  abbrev beneath : TracedProcess
  beneath = uncovered_process (covers pid) p

  abbrev lwp_of_it : TracedLwp
  lwp_of_it = uncovered_lwp ((covers pid).faulted id) l

  unless : (b : Bool) (s old new : TracedSystem) → uncovered covers old ≡ new
      → uncovered covers (cond b s old) ≡ cond b (uncovered covers s) new
  unless true s old new e = refl
  unless false s old new e = e

  own_lwp : (s : TracedSystem) (other : ℕ) (f : TracedLwp → TracedLwp)
      → ((own : Bool) (x : TracedLwp) → uncovered_lwp own (f x) ≡ f (uncovered_lwp own x))
      → uncovered covers (with_process pid (with_lwp other f) s)
      ≡ with_process pid (with_lwp other f) (uncovered covers s)
  own_lwp s other f agree =
      with_process-uncovered covers s pid (with_lwp other f) (with_lwp other f)
      (λ x. with_lwp-uncovered (covers pid) x other f f (agree ((covers pid).faulted other)))

  itself : (g : Sig) (info : Info) (s : TracedSystem)
      → uncovered covers (cond (is_kill g) s (generated traced pid (Some id) g info s))
      ≡ cond (is_kill g) (uncovered covers s) (generated traced pid (Some id) g info (uncovered covers s))
  itself g info s = by (is_kill g) refl
    where
      by : (b : Bool) → is_kill g ≡ b
          → uncovered covers (cond b s (generated traced pid (Some id) g info s))
          ≡ cond b (uncovered covers s) (generated traced pid (Some id) g info (uncovered covers s))
      by true is = refl
      by false is = generated-uncovered covers pid (Some id) g info s (never g pid covers s is)

  pub changed-uncovered : (c : Change) (s : TracedSystem) → Allows covers s pid p id c
      → uncovered covers (changed traced pid p id l c s)
      ≡ changed traced pid beneath id lwp_of_it (patched_change (covers pid).patches c) (uncovered covers s)
  unfolding changed uncovered uncovered_process uncovered_lwp with_fds with_space with_shared_taken with_job_stop
      with_disposition_of with_held resumed with_suspended
  changed-uncovered (files_are files fds) s allows =
      with_process-uncovered covers (record s { files = files }) pid (with_fds fds) (with_fds fds) (λ x. refl)
  changed-uncovered (space_is space) s allows =
      with_process-uncovered covers s pid (with_space space)
      (with_space (patched (covers pid).patches space)) (λ x. refl)
  changed-uncovered (signals target g info) s allows =
      unless (is_kill g && eqb target pid) s _ _ (generated-uncovered covers target None g info s allows)
  changed-uncovered (signals_itself g info) s allows = itself g info s
  changed-uncovered (takes_shared g) s allows =
      with_process-uncovered covers s pid (with_shared_taken g) (with_shared_taken g) (λ x. refl)
  changed-uncovered (job_stops g) s allows =
      with_process-uncovered covers s pid (with_job_stop g) (with_job_stop g) (λ x. refl)
  changed-uncovered (disposition_is g d) s allows =
      with_process-uncovered covers s pid (with_disposition_of g d) (with_disposition_of g d) (λ x. refl)
  changed-uncovered (held_is held) s allows = own_lwp s id (with_held held) (λ own x. refl)
  changed-uncovered (resumes frame frames) s allows = own_lwp s id (resumed frame frames) (λ own x. refl)
  changed-uncovered (forks birth args) s allows =
      unless (eqb s.made pid) s _ _ (child-uncovered covers birth pid p ((covers pid).faulted id) l args s allows)
  changed-uncovered (reaps child) s allows = unless (eqb child pid) s _ _ (reaped-uncovered covers child s)
  changed-uncovered (becomes program) s allows =
      with_process_if-uncovered covers (with_process pid (with_program traced id l program) s) p.lender
      (with_loan_back pid p) (with_loan_back pid beneath)
      (λ lender is q. loan_back-uncovered (covers pid) (covers lender) pid p q (allows.returnable.alike lender is))
      ∙ ap (with_process_if p.lender (with_loan_back pid beneath))
      (with_process-uncovered covers s pid (with_program traced id l program) (with_program traced id lwp_of_it program)
      (λ x. program-uncovered (covers pid) id l program x allows.unpatched allows.kept))
  changed-uncovered (makes_lwp new regs held) s allows =
      with_process-uncovered covers s pid (with_new_lwp traced new regs held) (with_new_lwp traced new regs held)
      (λ x. with_new_lwp-uncovered (covers pid) new regs held x allows)
  changed-uncovered (suspends other it) s allows = own_lwp s other (with_suspended it) (λ own x. refl)

  pub all_changed-uncovered : (cs : List Change) (s : TracedSystem) → AllowsAll covers pid p id l cs s
      → uncovered covers (all_changed traced pid p id l cs s)
      ≡ all_changed traced pid beneath id lwp_of_it (patched_changes (covers pid).patches cs) (uncovered covers s)
  unfolding all_changed
  all_changed-uncovered [] s allows = refl
  all_changed-uncovered (c ∷ cs) s allows =
      all_changed-uncovered cs (changed traced pid p id l c s) allows.1
      ∙ ap (all_changed traced pid beneath id lwp_of_it (patched_changes (covers pid).patches cs))
      (changed-uncovered c s allows.0)

  pub ended-beneath : (how : Ending) (s : TracedSystem) → MayLeave covers pid p
      → uncovered covers (ended traced pid p id how s) ≡ ended traced pid beneath id how (uncovered covers s)
  unfolding ended
  ended-beneath (ends_process status) s may = this_ended-uncovered covers pid p status s may.returnable
  ended-beneath ends_lwp s may = lwp_ended-uncovered covers pid p id s may

pub ruleset follows = (changed-uncovered)
