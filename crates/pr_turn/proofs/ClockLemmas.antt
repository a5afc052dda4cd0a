use Rattle.std.proofs.Common.{◌≡◌, ℕ, ◌==◌, ◌&&◌, Bool, true, false, cond, Option, Some, None, List, [], ◌∷◌, length, refl, ap, ◌∙◌}
use Rattle.pr_num.specs.Signals.{signal_number}
use Rattle.pr_num.specs.declared.infos.Info.{Info}
use Rattle.pr_num.specs.declared.signals.Sig.{Sig}
use Rattle.pr_model.specs.Changes.{Change, files_are, space_is, signals, signals_itself, takes_shared, job_stops, disposition_is, held_is, resumes, forks, reaps, becomes, makes_lwp, suspends, Ending, ends_process, ends_lwp, all_changed, changed, ended}
use Rattle.pr_model.specs.Lives.{Birth, by_fork, by_vfork, ended_if_live, with_child, with_ended, with_lender_of, with_lent, with_loan_back, with_loans_passed, with_lwp_ended, with_made, with_parent_signalled, with_reaped, with_this_ended}
use Rattle.pr_model.specs.Machines.{traced}
use Rattle.pr_model.specs.Rows.{row_for}
use Rattle.pr_model.specs.Signals.{generated, is_kill}
use Rattle.pr_model.specs.State.{TracedLwp, TracedProcess, TracedSystem, live_process, with_lwp_of, with_process, with_process_if}
use Rattle.pr_model.specs.Transitions.{Transition, after_transition, ended_if}
use Rattle.pr_turn.specs.Turns.{TurnMakes}
use Rattle.pr_turn.specs.declared.making.Made.{Made}

-- A turn leaves the clock.

-- one of two systems that have it
either-clock : (b : Bool) (s t : TracedSystem) (clock : ℕ) → s.clock ≡ clock → t.clock ≡ clock
    → (cond b s t).clock ≡ clock
either-clock true s t clock h k = h
either-clock false s t clock h k = k

-- ---- lent memory

if-clock : (o : Option ℕ) (f : TracedProcess → TracedProcess) (s : TracedSystem)
    → (with_process_if o f s).clock ≡ s.clock
unfolding with_process
if-clock None f s = refl
if-clock (Some pid) f s = refl

lent-clock : (birth : Birth) (pid child : ℕ) (s : TracedSystem) → (with_lent birth pid child s).clock ≡ s.clock
unfolding with_process
lent-clock by_fork pid child s = refl
lent-clock by_vfork pid child s = refl

passed-clock : (pid : ℕ) (p : TracedProcess) (s : TracedSystem) → (with_loans_passed pid p s).clock ≡ s.clock
unfolding with_loans_passed
passed-clock pid p s =
    if-clock p.lender (with_loan_back pid p) (with_process_if p.borrower (with_lender_of pid p) s)
    ∙ if-clock p.borrower (with_lender_of pid p) s

-- ---- ends

pub this_ended-clock : (pid : ℕ) (p : TracedProcess) (status : ℕ) (s : TracedSystem)
    → (with_this_ended traced pid p status s).clock ≡ s.clock
unfolding with_this_ended with_parent_signalled with_process
this_ended-clock pid p status s =
    let passed = passed-clock pid p _ in
    either-clock (p.parent == 0) _ _ s.clock passed passed

if_live-clock : (pid status : ℕ) (s : TracedSystem) (o : Option TracedProcess)
    → (ended_if_live traced pid status s o).clock ≡ s.clock
if_live-clock pid status s None = refl
if_live-clock pid status s (Some p) = this_ended-clock pid p status s

pub generated-clock : (pid : ℕ) (target : Option ℕ) (g : Sig) (info : Info) (s : TracedSystem)
    → (generated traced pid target g info s).clock ≡ s.clock
unfolding generated with_ended with_process
generated-clock pid target g info s =
    either-clock (is_kill g) _ _ s.clock (if_live-clock pid (signal_number g) s (live_process s pid)) refl

module _ (pid : ℕ) (p : TracedProcess) (id : ℕ) (l : TracedLwp) where
  changed-clock : (c : Change) (s : TracedSystem) → (changed traced pid p id l c s).clock ≡ s.clock
  unfolding changed with_process with_lwp_of with_child with_made with_reaped
  changed-clock (files_are files fds) s = refl
  changed-clock (space_is space) s = refl
  changed-clock (signals target g info) s =
      either-clock (is_kill g && (target == pid)) _ _ s.clock refl (generated-clock target None g info s)
  changed-clock (signals_itself g info) s =
      either-clock (is_kill g) _ _ s.clock refl (generated-clock pid (Some id) g info s)
  changed-clock (takes_shared g) s = refl
  changed-clock (job_stops g) s = refl
  changed-clock (disposition_is g disposition) s = refl
  changed-clock (held_is held) s = refl
  changed-clock (resumes frame frames) s = refl
  changed-clock (forks birth args) s =
      either-clock (s.made == pid) _ _ s.clock refl (lent-clock birth pid s.made _)
  changed-clock (reaps child) s = either-clock (child == pid) _ _ s.clock refl refl
  changed-clock (becomes program) s = if-clock p.lender (with_loan_back pid p) _
  changed-clock (makes_lwp new regs held) s = refl
  changed-clock (suspends other suspended) s = refl

  all_changed-clock : (cs : List Change) (s : TracedSystem) → (all_changed traced pid p id l cs s).clock ≡ s.clock
  unfolding all_changed
  all_changed-clock [] s = refl
  all_changed-clock (c ∷ cs) s = all_changed-clock cs (changed traced pid p id l c s) ∙ changed-clock c s

  ended-clock : (how : Option Ending) (s : TracedSystem) → (ended_if traced pid p id l how s).clock ≡ s.clock
  unfolding ended with_lwp_ended with_process
  ended-clock None s = refl
  ended-clock (Some (ends_process status)) s = this_ended-clock pid p status s
  ended-clock (Some ends_lwp) s = either-clock (length p.lwps == 1) _ _ s.clock (this_ended-clock pid p 0 s) refl

  transition-clock : (t : Transition) (s : TracedSystem) → (after_transition traced pid p id l t s).clock ≡ s.clock
  unfolding after_transition with_lwp_of with_process
  transition-clock t s = ended-clock t.ending _ ∙ all_changed-clock t.changes s

pub clock-after : (s new counted met : TracedSystem) (pid id : ℕ) (did : Made) (stop : Bool)
    (f g : TracedProcess → TracedProcess) → TurnMakes s new pid id did stop → counted ≡ with_process pid f new
    → met ≡ with_process pid g counted → met.clock ≡ s.clock
unfolding with_process
clock-after s new counted met pid id did stop f g makes e h =
    ap (λ (t : TracedSystem). t.clock) h
    ∙ ap (λ (t : TracedSystem). t.clock) e
    ∙ ap (λ (t : TracedSystem). t.clock) makes.system
    ∙ transition-clock pid makes.process id makes.lwp (row_for s pid makes.process id makes.lwp).transition s
