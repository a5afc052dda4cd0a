use Rattle.std.specs.List.{All}
use Rattle.std.specs.Prelude.{◌≡◌, ℕ, List, ◌∷◌, ◌++◌, Some}
use Rattle.pr_api.specs.Entries.{call_entry}
use Rattle.pr_model.specs.Handles.{handle_of}
use Rattle.pr_model.specs.Legal.{state_after}
use Rattle.pr_model.specs.State.{Places, TracedControl, TracedProcess, TracedState, TracedSystem, live_process}
use Rattle.pr_model.specs.declared.calls.Call.TheVariants as call
use Rattle.pr_model.specs.declared.calls.File.TheVariants as file
use Rattle.pr_model.specs.declared.calls.Mode.TheVariants as mode
use Rattle.pr_model.specs.declared.calls.Reply.{Reply}
use Rattle.pr_model.specs.declared.events.Entry.{Entry}
use Rattle.pr_model.specs.declared.handles.Held.{Held}
use Rattle.pr_probe.specs.declared.traced_sets.TracedSets.{TracedSets}
use Rattle.pr_tool_laws.specs.Leaving.{ClosesAtMost, IsNoCall}
use Rattle.pr_truss_laws.specs.Handles.{HasNoOtherWriter}

-- The four sets by which a process is traced (proc(4), "PCSTRACE", "PCSFAULT", "PCSENTRY", "PCSEXIT"). apfiles sets
-- them for its agent, and sets them back.

-- the sets that are set on a process
abbrev pub sets_in_control : TracedControl → TracedSets
sets_in_control c = record {
  signals = c.traced_signals;
  faults = c.traced_faults;
  entries = c.traced_entries;
  exits = c.traced_exits;
}

abbrev pub sets_on : TracedProcess → TracedSets
sets_on p = sets_in_control p.control

-- ---- who has the process to itself

-- In the state after some entries, and after each of the further ones, no other controller has a process open for
-- writing.
pub record IsSoleIn (k pid : ℕ) (first : TracedState) (before between : List Entry) : Type 0 where
  pub each : (front back : List Entry) → between ≡ front ++ back
      → HasNoOtherWriter k pid (state_after first (before ++ front)).opens

-- ---- how it leaves

-- a controller has the control file of a process open
pub record HoldsControl (k pid : ℕ) (opens : Places) : Type 0 where
  pub number : ℕ
  pub held : Held
  pub there : handle_of opens k number ≡ Some held
  pub of : held.pid ≡ pid
  pub file : held.file ≡ file.Ctl

-- ---- the sets are back

-- the entry by which a controller opens the control file of a process, to send it messages
abbrev pub opening_entry : ℕ → ℕ → Reply → Entry
opening_entry k pid r = call_entry k (call.Open pid 0 file.Ctl mode.Write) r

-- A process lived in a state, and was traced by these sets.
pub record WasTraced (pid : ℕ) (sets : TracedSets) (s : TracedSystem) : Type 0 where
  pub process : TracedProcess
  pub lived : live_process s pid ≡ Some process
  pub same : sets ≡ sets_on process

-- A controller has opened the control file of a process by its first call, and later begins to close its files: it
-- still has the control file open, and from then on it does nothing but close. Where no other has that process open for
-- writing meanwhile, the process, if it lives then still, is traced by the sets by which it was traced before.
pub record SetsBack (k pid : ℕ) (first : TracedState) (h : List Entry) : Type 0 where
  pub before : List Entry
  pub opened : Reply
  pub later : List Entry
  pub handle : ℕ
  pub reply : Reply
  pub after : List Entry
  pub place : h
      ≡ (before ++ opening_entry k pid opened ∷ later) ++ call_entry k (call.Close handle) reply ∷ after
  pub first_call : All (IsNoCall k) before
  pub holds : HoldsControl k pid (state_after first (before ++ opening_entry k pid opened ∷ later)).opens
  pub closes : All (ClosesAtMost k) after
  pub back : IsSoleIn k pid first before (opening_entry k pid opened ∷ later) → (q : TracedProcess)
      → live_process (state_after first (before ++ opening_entry k pid opened ∷ later)).system pid ≡ Some q
      → WasTraced pid (sets_on q) (state_after first before).system
