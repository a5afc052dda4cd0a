use Rattle.std.specs.Prelude.{◌≡◌, ◌∷◌, ◌++◌, ℕ, true, false, List, [], None, Some, slice_get}
use Rattle.pr_api.specs.Entries.{call_entry}
use Rattle.pr_hidden.specs.HiddenSteps.{IsHidden}
use Rattle.pr_hidden.specs.Hiders.{Hiders}
use Rattle.pr_hidden.specs.Tidiness.{IsPassiveBut, IsSparing, IsTidy}
use Rattle.pr_model.specs.Legal.{state_after}
use Rattle.pr_model.specs.State.{TracedProcess, TracedState, has_agent, live_process}
use Rattle.pr_model.specs.declared.calls.Call.{Call}
use Rattle.pr_model.specs.declared.calls.Reply.{Reply}
use Rattle.pr_model.specs.declared.calls.Reply.TheVariants.{Fail}
use Rattle.pr_model.specs.declared.events.Entry.{Entry}
use Rattle.pr_num.specs.Layout.{stack_base}
use Rattle.pr_num.specs.declared.errnos.Errno.{Errno}
use Rattle.pr_num.specs.declared.messages.Message.TheVariants as message
use Rattle.pr_probe.specs.AgentCode.{stack_size}
use Rattle.pr_probe.specs.ProbeText.{printed}
use Rattle.pr_probe.specs.Probes.{ProbeState, first_probe, has_ended}
use Rattle.pr_probe_laws.specs.HiddenProbes.{AreLeftAlone, IsHidingAfter}
use Rattle.pr_probe_laws.specs.ProbeCalls.{MakesProbeCalls}
use Rattle.pr_probe_laws.specs.PutBack.{PutsBack}
use Rattle.pr_probe_laws.specs.Reasons.{IsInterruptedPoll, TellsWhy}
use Rattle.pr_probe_laws.specs.SetsBack.{SetsBack}
use Rattle.pr_probe_laws.specs.ShownDescriptors.{ShowsOneState}
use Rattle.pr_probe_laws.specs.TakesBack.{TakesBack}
use Rattle.pr_tool_laws.specs.ToolHandles.{HoldsOnly}
use Rattle.pr_truss_laws.specs.Handles.{HasNothingOpen}
use Rattle.pr_world.specs.ControllerStates.{ControllerState, Probe}
use Rattle.pr_world.specs.Protocol.{controllers_at}
use Rattle.pr_tool_laws.specs.Leaving.{LeavesItsProcess, SendsTo}

-- What a run keeps of each apfiles.

-- The controller of a number is an apfiles of this process. At any time each call that it made is one of its table, to
-- that process or its agent, and it has files of that process alone open, and none once it has finished. When it has
-- finished, and was not refused, it has put back what it wrote over in the memory of the process, has set the four
-- traced sets back, on the conditions of SetsBack, has run the process again, or never, where every lwp of it stood
-- when it came, and its text is that of one state, on the conditions of ShowsOneState. When it has finished and was
-- refused, its line has the errno of a call of its own, or of what it read; and where it made no agent it has taken
-- back its request to stop, unless every lwp stood. While it has not finished it prints nothing.
pub record IsProbeKept (controllers : List ControllerState) (first : TracedState) (h : List Entry) (k pid : ℕ)
    : Type 0 where
  pub calls : MakesProbeCalls k pid first h
  pub opens : (p : ProbeState) → slice_get (controllers_at controllers h) k ≡ Some (Probe p)
      → HoldsOnly k pid (state_after first h)
  pub closes : (p : ProbeState) → slice_get (controllers_at controllers h) k ≡ Some (Probe p) → has_ended p ≡ true
      → HasNothingOpen k (state_after first h)
  pub puts_back : (p : ProbeState) → slice_get (controllers_at controllers h) k ≡ Some (Probe p) → has_ended p ≡ true
      → p.refusal ≡ None → PutsBack k pid first h
  pub sets_back : (p : ProbeState) → slice_get (controllers_at controllers h) k ≡ Some (Probe p) → has_ended p ≡ true
      → p.refusal ≡ None → SetsBack k pid first h
  pub runs_again : (p : ProbeState) → slice_get (controllers_at controllers h) k ≡ Some (Probe p) → has_ended p ≡ true
      → p.refusal ≡ None → LeavesItsProcess k pid first h
  pub takes_back : (p : ProbeState) → slice_get (controllers_at controllers h) k ≡ Some (Probe p)
      → has_ended p ≡ true → TakesBack k pid first h
  pub refuses : (p : ProbeState) (e : Errno) → slice_get (controllers_at controllers h) k ≡ Some (Probe p)
      → has_ended p ≡ true → p.refusal ≡ Some e → TellsWhy k pid e first h (printed p)
  pub shows : (p : ProbeState) → slice_get (controllers_at controllers h) k ≡ Some (Probe p) → has_ended p ≡ true
      → p.refusal ≡ None → ShowsOneState k pid first h (printed p)
  pub silent : (p : ProbeState) → slice_get (controllers_at controllers h) k ≡ Some (Probe p) → has_ended p ≡ false
      → printed p ≡ []

-- Programs see nothing of those who hide what they do in a history, whoever they are, where all other calls are
-- passive, programs leave alone what is hidden, and those who hide are tidy: the steps that are not hidden are a run
-- of the machine without controllers, and its trace is that of the history without what is hidden. So it is of
-- apfiles that hide what they do, on the conditions of AreLeftAlone. Each is tidy then, and is refused nothing while
-- it hides something, but that a wait for its agent may be interrupted; and its agent has ended before the bytes are
-- written back at which that was answered.
pub record AreHidden (controllers : List ControllerState) (first : TracedState) (h : List Entry) : Type 0 where
  pub unseen : (who : Hiders) → IsPassiveBut who h → IsSparing who first h → IsTidy who first h → IsHidden who first h
  pub hidden : (who : Hiders) → AreLeftAlone who controllers first h → IsHidden who first h
  pub tidy : (who : Hiders) → AreLeftAlone who controllers first h → IsTidy who first h
  pub accepted : (who : Hiders) → AreLeftAlone who controllers first h → (k pid : ℕ) → who.probes k ≡ true
      → slice_get controllers k ≡ Some (Probe (first_probe pid)) → (front back : List Entry) (c : Call) (e : Errno)
      (p : ProbeState) → h ≡ front ++ call_entry k c (Fail e) ∷ back → IsHidingAfter k pid controllers first front p
      → IsInterruptedPoll c e
  pub gone : (who : Hiders) → AreLeftAlone who controllers first h → (k pid : ℕ) → who.probes k ≡ true
      → slice_get controllers k ≡ Some (Probe (first_probe pid)) → (front back : List Entry) (c : Call) (r : Reply)
      (tail : List ℕ) → h ≡ front ++ call_entry k c r ∷ back
      → SendsTo k pid (message.Write stack_base stack_size) tail (state_after first front) c → (q : TracedProcess)
      → live_process (state_after first front).system pid ≡ Some q → has_agent q ≡ false
