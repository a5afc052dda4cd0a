use Rattle.std.proofs.Common.{◌≡◌, ℕ, ◌==◌, ◌&&◌, Bool, true, false, cond, Option, Some, None, List, [], ◌∷◌, is_some, length, refl, inl, inr}
use Rattle.std.proofs.lemmas.Bool.{cases_Bool}
use Rattle.pr_num.specs.Control.{fork_mode, has_flags}
use Rattle.pr_num.specs.Programs.{Program}
use Rattle.pr_parts.specs.FileCalls.{with_all_shared}
use Rattle.pr_model.specs.Changes.{Change, files_are, space_is, signals, signals_itself, takes_shared, job_stops, disposition_is, held_is, resumes, forks, reaps, becomes, makes_lwp, suspends, Ending, ends_process, ends_lwp, all_changed, changed, ended, with_fds, with_space, with_shared_taken, with_job_stop, with_disposition_of}
use Rattle.pr_model.specs.Lives.{Birth, forked, with_child, with_lwp_ended, with_new_lwp, with_program, without_lwp}
use Rattle.pr_model.specs.Machines.{child_control, exec_control, nothing_set, nothing_used, traced}
use Rattle.pr_model.specs.Moves.{moved}
use Rattle.pr_model.specs.Signals.{is_kill}
use Rattle.pr_model.specs.State.{TracedControl, TracedLwp, TracedProcess, TracedSystem, lwp_of, with_lwp, with_lwp_of}
use Rattle.pr_model.specs.Transitions.{Transition, after_transition, ended_if}
use Rattle.pr_proc.specs.Counts.{AllUsedAtMost}
use Rattle.pr_proc.proofs.UsageLemmas.{AllUsedAtMost-ended, AllUsedAtMost-generated, AllUsedAtMost-lent, AllUsedAtMost-loan_back, AllUsedAtMost-made, AllUsedAtMost-reaped, AllUsedAtMost-with_process}

-- The transition of a turn keeps what bounds the counts of use.

-- a child has used nothing
child-usage : (c : TracedControl) → (child_control c).usage ≡ nothing_used
unfolding child_control nothing_set
child-usage c = elim (cases_Bool (has_flags c.modes fork_mode)) [ inl on ↦ rw on refl | inr off ↦ rw off refl ]

child-used : (birth : Birth) (n pid : ℕ) (p : TracedProcess) (l : TracedLwp) (args : List ℕ) (s : TracedSystem)
    → AllUsedAtMost n s → AllUsedAtMost n (with_child traced birth pid p l args s)
unfolding with_child forked traced
child-used birth n pid p l args s h =
    AllUsedAtMost-made n _ _ (child-usage p.control)
    (AllUsedAtMost-lent n birth pid s.made (record s { files = with_all_shared s.files p.fds })
    (record { each = h.each }))

new_lwp-usage : (id : ℕ) (regs : List ℕ) (held : ℕ) (p : TracedProcess)
    → (with_new_lwp traced id regs held p).control.usage ≡ p.control.usage
unfolding with_new_lwp
new_lwp-usage id regs held p =
    elim (cases_Bool (is_some (lwp_of p id))) [ inl stands ↦ rw stands refl | inr free ↦ rw free refl ]

program-usage : (id : ℕ) (l : TracedLwp) (program : Program) (p : TracedProcess)
    → (with_program traced id l program p).control.usage ≡ p.control.usage
unfolding with_program traced exec_control
program-usage id l program p = refl

lwp-usage : (id : ℕ) (f : TracedLwp → TracedLwp) (p : TracedProcess) → (with_lwp id f p).control.usage ≡ p.control.usage
unfolding with_lwp
lwp-usage id f p = refl

unless-used : (n : ℕ) (b : Bool) (s other : TracedSystem) → AllUsedAtMost n s → AllUsedAtMost n other
    → AllUsedAtMost n (cond b s other)
unless-used n true s other h k = h
unless-used n false s other h k = k

module _ (n pid : ℕ) (p : TracedProcess) (id : ℕ) (l : TracedLwp) where
  changed-used : (c : Change) (s : TracedSystem) → AllUsedAtMost n s → AllUsedAtMost n (changed traced pid p id l c s)
  unfolding changed with_fds with_space with_shared_taken with_job_stop with_disposition_of
  changed-used (files_are files fds) s h =
      AllUsedAtMost-with_process n pid (with_fds fds) (record s { files = files }) (λ q. refl)
      (record { each = h.each })
  changed-used (space_is space) s h = AllUsedAtMost-with_process n pid (with_space space) s (λ q. refl) h
  changed-used (signals target g info) s h =
      unless-used n (is_kill g && (target == pid)) s _ h (AllUsedAtMost-generated n target None g info s h)
  changed-used (signals_itself g info) s h =
      unless-used n (is_kill g) s _ h (AllUsedAtMost-generated n pid (Some id) g info s h)
  changed-used (takes_shared g) s h = AllUsedAtMost-with_process n pid (with_shared_taken g) s (λ q. refl) h
  changed-used (job_stops g) s h = AllUsedAtMost-with_process n pid (with_job_stop g) s (λ q. refl) h
  changed-used (disposition_is g disposition) s h =
      AllUsedAtMost-with_process n pid (with_disposition_of g disposition) s (λ q. refl) h
  changed-used (held_is held) s h = AllUsedAtMost-with_process n pid _ s (λ q. lwp-usage id _ q) h
  changed-used (resumes frame frames) s h = AllUsedAtMost-with_process n pid _ s (λ q. lwp-usage id _ q) h
  changed-used (forks birth args) s h = unless-used n (s.made == pid) s _ h (child-used birth n pid p l args s h)
  changed-used (reaps child) s h = unless-used n (child == pid) s _ h (AllUsedAtMost-reaped n child s h)
  changed-used (becomes program) s h =
      AllUsedAtMost-loan_back n pid p p.lender _
      (AllUsedAtMost-with_process n pid _ s (λ q. program-usage id l program q) h)
  changed-used (makes_lwp new regs held) s h =
      AllUsedAtMost-with_process n pid _ s (λ q. new_lwp-usage new regs held q) h
  changed-used (suspends other suspended) s h = AllUsedAtMost-with_process n pid _ s (λ q. lwp-usage other _ q) h

  all-used : (cs : List Change) (s : TracedSystem) → AllUsedAtMost n s
      → AllUsedAtMost n (all_changed traced pid p id l cs s)
  unfolding all_changed
  all-used [] s h = h
  all-used (c ∷ cs) s h = all-used cs (changed traced pid p id l c s) (changed-used c s h)

  ended-used : (how : Option Ending) (s : TracedSystem) → AllUsedAtMost n s
      → AllUsedAtMost n (ended_if traced pid p id l how s)
  unfolding ended with_lwp_ended without_lwp
  ended-used None s h = h
  ended-used (Some (ends_process status)) s h = AllUsedAtMost-ended n pid p status s h
  ended-used (Some ends_lwp) s h =
      unless-used n (length p.lwps == 1) _ _ (AllUsedAtMost-ended n pid p 0 s h)
      (AllUsedAtMost-with_process n pid (without_lwp id) s (λ q. refl) h)

  pub AllUsedAtMost-transition : (t : Transition) (s : TracedSystem) → AllUsedAtMost n s
      → AllUsedAtMost n (after_transition traced pid p id l t s)
  unfolding after_transition with_lwp_of
  AllUsedAtMost-transition t s h =
      ended-used t.ending _
      (AllUsedAtMost-with_process n pid (with_lwp id (moved traced t.move)) _
      (λ q. lwp-usage id (moved traced t.move) q) (all-used t.changes s h))
