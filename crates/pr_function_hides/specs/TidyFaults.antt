-- That a truss with calls of functions posts no fault of its own, and clears no fault of a program.
use Rattle.std.specs.Prelude.{◌≡◌, ◌++◌, ℕ, Bool, true, false, List, ◌∷◌, Some, IfOk}
use Rattle.pr_api.specs.Entries.{call_entry}
use Rattle.pr_hidden.specs.Hiders.{Hiders, covers_at, hides}
use Rattle.pr_hidden.specs.Tidiness.{IsTidyCall, is_step_flags}
use Rattle.pr_model.specs.Legal.{state_after}
use Rattle.pr_model.specs.State.{TracedLwp, TracedProcess, TracedState, live_process, lwp_of}
use Rattle.pr_model.specs.declared.calls.Call.TheVariants as call
use Rattle.pr_model.specs.declared.calls.Reply.{Reply}
use Rattle.pr_model.specs.declared.events.Act.TheVariants.{Turn}
use Rattle.pr_model.specs.declared.events.Actor.TheVariants.{Lwp}
use Rattle.pr_model.specs.declared.events.Entry.{Entry}
use Rattle.pr_model.specs.declared.events.Turned.{Turned}
use Rattle.pr_model.specs.declared.lwps.Phase.TheVariants.{Faulted}
use Rattle.pr_num.specs.Messages.{first_message}
use Rattle.pr_num.specs.declared.faults.Flt.{Flt}
use Rattle.pr_num.specs.declared.messages.Message.{Message}
use Rattle.pr_num.specs.declared.messages.Message.TheVariants as message

-- PCRUN with PRCFAULT, PRSTEP or both, and PCCFAULT
abbrev pub is_clearing : Message → Bool
is_clearing (message.Run flags) = is_step_flags flags
is_clearing message.Cfault = true
is_clearing m = false

-- bytes begin with no message but these
abbrev pub BeginWithClearing : List ℕ → Type 0
BeginWithClearing bytes = IfOk (first_message bytes) (λ f. is_clearing f.0 ≡ true)

-- No own fault is posted: no lwp that counts as standing at one, and is at a fault, has a turn. It stands on the stop
-- of that fault until truss clears it.
pub record PostsNoOwnFault (who : Hiders) (first : TracedState) (h : List Entry) : Type 0 where
  pub none : (front back : List Entry) (pid id : ℕ) (t : Turned) (p : TracedProcess) (l : TracedLwp) (f : Flt)
      (address : ℕ) → h ≡ front ++ record { actor = Lwp pid id; act = Turn t } ∷ back
      → live_process (state_after first front).system pid ≡ Some p → lwp_of p id ≡ Some l
      → (covers_at who first front pid).faulted id ≡ true → l.phase ≡ Faulted f address → ⊥

-- PCRUN with PRCFAULT, PRSTEP or both of one who hides, and its PCCFAULT, finds no fault but one of those who hide: if
-- the lwp that it is aimed at is at a fault, it counts as standing at one of theirs. (Bytes that begin with no message
-- are let pass.)
pub record ClearsOwnFaultsAlone (who : Hiders) (first : TracedState) (h : List Entry) : Type 0 where
  pub messages : (front back : List Entry) (k handle : ℕ) (bytes : List ℕ) (r : Reply)
      → h ≡ front ++ call_entry k (call.Ctl handle bytes) r ∷ back → hides who k ≡ true → BeginWithClearing bytes
      → IsTidyCall who (covers_at who first front) (state_after first front) k (call.Ctl handle bytes) r
