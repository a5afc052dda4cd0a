use Rattle.std.proofs.Common.{◌≡◌, ◌⊎◌, ℕ, Bool, false, is_some, Option, Some, None, List, [], refl, inl, inr}
use Rattle.std.proofs.lemmas.List.Elements.{All-nil, All-cons}
use Rattle.pr_num.specs.Control.{has_flags, fork_mode}
use Rattle.pr_num.specs.Programs.{Program}
use Rattle.pr_num.specs.Sets.{has_number}
use Rattle.pr_num.specs.Syscalls.{syscall_number}
use Rattle.pr_num.specs.declared.syscalls.Sysno.{Sysno}
use Rattle.pr_lawful.proofs.ProcessParts.FileLemmas.{choice}
use Rattle.pr_model.specs.Changes.{with_fds, with_space, with_shared_taken, with_job_stop, with_disposition_of, with_held, resumed, with_suspended}
use Rattle.pr_model.specs.Lives.{Birth, bare_process, call_of, first_lwp, forked, forked_lwp, new_lwp, new_process, with_new_lwp, with_program, started, lent_to}
use Rattle.pr_model.specs.Machines.{birth_marks, birth_stop, no_marks, traced}
use Rattle.pr_model.specs.State.{TracedControl, TracedLwp, TracedProcess, lwp_of}
use Rattle.pr_model.specs.declared.events.Res.TheVariants.{Value}
use Rattle.pr_model.specs.declared.stops.Stop.{Stop}
use Rattle.pr_model.specs.declared.stops.Stop.TheVariants.{SysExit}
use Rattle.pr_reached.proofs.FitStates.FitLemmas.{KeepsFit, KeepsProcess, LwpFits, exiting-fits, keeps-more, keeps-one, nothing-spares, same_place, stopless-fits, taken-spares}
use Rattle.pr_reached.proofs.FitStates.FitSignalLemmas.{lender_of-keeps, loan_back-keeps, orphaned-keeps, signalled-keeps, without_lwp-keeps, zombie-fits}
use Rattle.pr_reached.specs.Fits.{IsFitLwp, IsFitProcess, IsFitSystem}
use Rattle.pr_keeps.proofs.KeepsLemmas.{process-edits-keep}
use Rattle.pr_keeps.proofs.KeptProcesses.{AnyMade, processes-keep}
use Rattle.pr_keeps.proofs.KeptSystems as step
use Rattle.pr_keeps.proofs.KeptSystems.{KeepsSystem, Newborn, ProcessStep}
use Rattle.pr_model.specs.Handles.{released, released_lwp}
use Rattle.pr_reached.proofs.FitStates.FitMessageLemmas.{edited-process}
use Rattle.pr_reached.proofs.FitStates.FitLemmas.{ProcessFits, keeps-each}

-- What begins is fit, each step of a process leaves it so, and so whatever is made of these leaves a system fit.

-- ---- beginnings

new_lwp-fits : (regs : List ℕ) (held : ℕ) (directed : Bool) → IsFitLwp (new_lwp traced regs held (no_marks directed))
unfolding new_lwp no_marks
new_lwp-fits regs held directed = stopless-fits (new_lwp traced regs held (no_marks directed)) refl nothing-spares

new_process-fits : (program : Program) (clock : ℕ) (held : Bool) → IsFitProcess (new_process traced program clock held)
unfolding new_process bare_process first_lwp traced
new_process-fits program clock held = record {
  lwps = All-cons LwpFits (1, first_lwp traced held) [] (new_lwp-fits _ 0 held) (All-nil LwpFits);
  pending = nothing-spares;
}

-- a child is born at the exit from the call that made it, or without a stop
birth_stops : (call : Sysno) (c : TracedControl)
    → (birth_stop call c ≡ None) ⊎ (birth_stop call c ≡ Some (SysExit call))
unfolding birth_stop
birth_stops call c =
    let Either : Option Stop → Type 0 = λ o. (o ≡ None) ⊎ (o ≡ Some (SysExit call)) in
    choice Either (has_flags c.modes fork_mode) _ _
    (λ forks. choice Either (has_number c.traced_exits (syscall_number call)) _ _ (λ is. inr refl) (λ other. inl refl))
    (λ alone. inl refl)

forked_lwp-fits : (birth : Birth) (args : List ℕ) (c : TracedControl) (l : TracedLwp)
    → IsFitLwp (forked_lwp traced birth args c l)
unfolding forked_lwp traced birth_marks
forked_lwp-fits birth args c l =
    let child = forked_lwp traced birth args c l in
    elim (birth_stops (call_of birth) c) [
      | inl none ↦ stopless-fits child none nothing-spares
      | inr exit ↦ exiting-fits child (call_of birth) args (Value 0) exit refl nothing-spares
    ]

forked-fits : (birth : Birth) (pid : ℕ) (p : TracedProcess) (l : TracedLwp) (args : List ℕ) (clock : ℕ)
    → IsFitProcess (forked traced birth pid p l args clock)
unfolding forked
forked-fits birth pid p l args clock = record {
  lwps =
      All-cons LwpFits (1, forked_lwp traced birth args p.control l) [] (forked_lwp-fits birth args p.control l)
      (All-nil LwpFits);
  pending = nothing-spares;
}

new-keeps : (new held : ℕ) (regs : List ℕ) → KeepsProcess (with_new_lwp traced new regs held)
unfolding with_new_lwp traced
new-keeps new held regs x h =
    let l = new_lwp traced regs held (no_marks false) in
    choice IsFitProcess (is_some (lwp_of x new)) _ _ (λ stands. h)
    (λ free. keeps-more new l x _ (new_lwp-fits regs held false) refl refl h)

started-keeps : KeepsFit (started traced)
unfolding started
started-keeps = same_place (started traced) (λ l. refl) (λ l. refl) (λ l it. it)

program-keeps : (id : ℕ) (l : TracedLwp) (program : Program) → IsFitLwp l
    → KeepsProcess (with_program traced id l program)
unfolding with_program
program-keeps id l program own x h = record {
  lwps = All-cons LwpFits (id, started traced l) [] (started-keeps l own) (All-nil LwpFits);
  pending = h.pending;
}

-- ---- the kinds of change

held-keeps : (held : ℕ) → KeepsFit (with_held held)
unfolding with_held
held-keeps held = same_place (with_held held) (λ l. refl) (λ l. refl) (λ l it. it)

resumed-keeps : (frame : _) (frames : List _) → KeepsFit (resumed frame frames)
unfolding resumed
resumed-keeps frame frames = same_place (resumed frame frames) (λ l. refl) (λ l. refl) (λ l it. it)

suspended-keeps : (suspended : Bool) → KeepsFit (with_suspended suspended)
unfolding with_suspended
suspended-keeps suspended = same_place (with_suspended suspended) (λ l. refl) (λ l. refl) (λ l it. it)

-- ---- the last close for writing

released_lwp-keeps : KeepsFit released_lwp
unfolding released_lwp
released_lwp-keeps l h = stopless-fits (released_lwp l) refl h.pending

released-keeps : KeepsProcess released
unfolding released
released-keeps x h =
    let fits = keeps-each released_lwp released_lwp-keeps x h in
    record { lwps = fits.lwps; pending = fits.pending }

-- ---- the steps of a process

abbrev pub IsOwnFit : ℕ → TracedLwp → Type 0
IsOwnFit id l = IsFitLwp l

step-fits : (f : TracedProcess → TracedProcess) → ProcessStep IsOwnFit f → KeepsProcess f
unfolding lent_to with_fds with_space with_shared_taken with_job_stop with_disposition_of
step-fits f (step.told target g info other) x h = signalled-keeps target g info other x h
step-fits f (step.dies status) x h = zombie-fits status x
step-fits f (step.loses_parent gone) x h = orphaned-keeps gone x h
step-fits f step.is_released x h = released-keeps x h
step-fits f (step.gets_back gone p) x h = loan_back-keeps gone p x h
step-fits f (step.gets_lender gone p) x h = lender_of-keeps gone p x h
step-fits f (step.takes_shared g) x h = record { lwps = h.lwps; pending = taken-spares g x.pending h.pending }
step-fits f (step.becomes id l program own) x h = program-keeps id l program own x h
step-fits f (step.held_is id held) x h = keeps-one id (with_held held) (held-keeps held) x h
step-fits f (step.resumes id frame frames) x h =
    keeps-one id (resumed frame frames) (resumed-keeps frame frames) x h
step-fits f (step.suspends id suspended) x h =
    keeps-one id (with_suspended suspended) (suspended-keeps suspended) x h
step-fits f (step.gets_lwp id regs held) x h = new-keeps id held regs x h
step-fits f (step.loses_lwp id) x h = without_lwp-keeps id x h
step-fits f _ x h = record { lwps = h.lwps; pending = h.pending }

newborn-fits : (x : TracedProcess) → Newborn IsOwnFit x → IsFitProcess x
newborn-fits x (step.spawned program clock held) = new_process-fits program clock held
newborn-fits x (step.forks birth pid p id l args clock own) = forked-fits birth pid p l args clock

pub fits-keep : KeepsSystem IsOwnFit IsFitSystem
fits-keep =
    processes-keep IsOwnFit AnyMade ProcessFits IsFitSystem (λ s h. (tt, h.processes))
    (λ s it. record { processes = it.1 })
    (record {
      step = λ pid x f is h. step-fits f is x h;
      edits = λ pid m tail x y made h. process-edits-keep m tail IsFitProcess (edited-process m tail) x y made h;
      newborn = λ made x known new. newborn-fits x new;
      later = λ made known. tt;
    })
