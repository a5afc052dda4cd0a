-- What a truss that shows calls of functions leaves in a process of which it closes a file.
use Rattle.pr_model.specs.declared.calls.Call.{Call}
use Rattle.pr_model.specs.declared.calls.Reply.TheVariants.{Fail}
use Rattle.pr_model.specs.declared.lwps.Phase.TheVariants.{Faulted}
use Rattle.pr_num.specs.declared.errnos.Errno.TheVariants.{Intr}
use Rattle.pr_num.specs.declared.faults.Flt.{Flt}
use Rattle.std.specs.Prelude.{◌≡◌, ◌++◌, ℕ, true, false, List, [], ◌∷◌, Some, ◌≢◌}
use Rattle.pr_api.specs.Entries.{call_entry}
use Rattle.pr_hidden.specs.Hiders.{Hiders, covers_at, hides}
use Rattle.pr_model.specs.Handles.{handle_of}
use Rattle.pr_model.specs.Legal.{state_after}
use Rattle.pr_model.specs.State.{TracedLwp, TracedProcess, TracedState, live_process, lwp_of}
use Rattle.pr_model.specs.declared.calls.Call.TheVariants as call
use Rattle.pr_model.specs.declared.calls.Reply.{Reply}
use Rattle.pr_model.specs.declared.events.Entry.{Entry}
use Rattle.pr_model.specs.declared.handles.Held.{Held}

-- Wherever one who hides closes a file of a process, its control file or another, and the process lives, no breakpoint
-- stands in it. And no agent is ever hidden.
pub record LeavesNoBreakpoint (who : Hiders) (first : TracedState) (h : List Entry) : Type 0 where
  pub bare : (front back : List Entry) (k number : ℕ) (r : Reply) (held : Held) (p : TracedProcess)
      → h ≡ front ++ call_entry k (call.Close number) r ∷ back → hides who k ≡ true
      → handle_of (state_after first front).opens k number ≡ Some held
      → live_process (state_after first front).system held.pid ≡ Some p
      → (covers_at who first front held.pid).patches ≡ []
  pub no_agent : (front back : List Entry) (pid : ℕ) → h ≡ front ++ back
      → (covers_at who first front pid).agent ≡ false

-- Nor does an lwp of the process that is at a fault count then as standing at one of those who hide: at a breakpoint of
-- theirs, or at FLTTRACE behind a step of theirs. And before a call of the one who closes was interrupted no lwp counts
-- so at all, at a fault or not.
pub record LeavesNoFault (who : Hiders) (first : TracedState) (h : List Entry) : Type 0 where
  pub none_stands : (front back : List Entry) (k number : ℕ) (r : Reply) (held : Held) (p : TracedProcess) (id : ℕ)
      (l : TracedLwp) (f : Flt) (address : ℕ) → hides who k ≡ true
      → h ≡ front ++ call_entry k (call.Close number) r ∷ back
      → handle_of (state_after first front).opens k number ≡ Some held
      → live_process (state_after first front).system held.pid ≡ Some p → lwp_of p id ≡ Some l
      → l.phase ≡ Faulted f address → (covers_at who first front held.pid).faulted id ≡ false
  pub none : (front back : List Entry) (k number : ℕ) (r : Reply) (held : Held) (p : TracedProcess) (id : ℕ)
      → hides who k ≡ true → h ≡ front ++ call_entry k (call.Close number) r ∷ back
      → ((before between : List Entry) (c : Call) (x : Reply) → front ≡ before ++ call_entry k c x ∷ between
      → x ≢ Fail Intr) → handle_of (state_after first front).opens k number ≡ Some held
      → live_process (state_after first front).system held.pid ≡ Some p
      → (covers_at who first front held.pid).faulted id ≡ false
