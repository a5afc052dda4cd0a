use Rattle.std.specs.Prelude.{◌≡◌, ℕ, Bool, List, ◌∷◌, ◌++◌, Option, None, Some, option_map}
use Rattle.std.specs.List.{list_all}
use Rattle.pr_api.specs.Entries.{call_entry}
use Rattle.pr_model.specs.Handles.{handle_of}
use Rattle.pr_model.specs.Legal.{state_after}
use Rattle.pr_model.specs.Readers.{space_seen}
use Rattle.pr_model.specs.Records.{lstatus_of}
use Rattle.pr_model.specs.State.{TracedLwp, TracedProcess, TracedState, TracedSystem, live_process}
use Rattle.pr_model.specs.declared.calls.Call.{Call}
use Rattle.pr_model.specs.declared.calls.Call.TheVariants.{CtlWait, Open}
use Rattle.pr_model.specs.declared.calls.File.{File}
use Rattle.pr_model.specs.declared.calls.File.TheVariants.{Ctl}
use Rattle.pr_model.specs.declared.calls.Mode.{Mode}
use Rattle.pr_model.specs.declared.calls.Reply.{Reply}
use Rattle.pr_model.specs.declared.calls.Reply.TheVariants.{Used}
use Rattle.pr_model.specs.declared.events.Entry.{Entry}
use Rattle.pr_model.specs.declared.handles.Held.{Held}
use Rattle.pr_model.specs.declared.tools.ToolKind.TheVariants.{Pstack}
use Rattle.pr_num.specs.Programs.{Program}
use Rattle.pr_tools.specs.Calls.{stop_bytes}
use Rattle.pr_tools.specs.SpaceStacks.{lwps_stacks}
use Rattle.pr_tool_laws.specs.Reads.{IsToolRead}
use Rattle.pr_truss_laws.specs.Stills.{IsHalting, stands_still}

-- The text of pstack(1) as a function of one state of the machine.

-- the stacks of the lwps of a process, in the memory that it shows
unfoldable pub stacks_text : ℕ → List Program → TracedSystem → TracedProcess → List ℕ
stacks_text pid programs s p = lwps_stacks pid programs (space_seen s p) (lstatus_of p)

-- none where the process does not live
unfoldable pub stacks_in : ℕ → List Program → TracedSystem → Option (List ℕ)
stacks_in pid programs s = option_map (stacks_text pid programs s) (live_process s pid)

-- ---- the state that it shows

-- A controller waited, as PCSTOP does, until the process had stopped: by a handle of its control file, however long
-- that took. The wait was over.
pub record HasStopped (k pid : ℕ) (first : TracedState) (h : List Entry) : Type 0 where
  pub before : List Entry
  pub handle : ℕ
  pub used : ℕ
  pub after : List Entry
  pub held : Held
  pub place : h ≡ before ++ call_entry k (CtlWait handle 0 stop_bytes) (Used used) ∷ after
  pub there : handle_of (state_after first before).opens k handle ≡ Some held
  pub of : held.pid ≡ pid
  pub file : held.file ≡ Ctl

-- This text is that of the stacks in a state of the history: in the one that the controller finds when it reads the
-- status of all lwps after it has stopped the process. There each lwp stands on an event of interest, is suspended, or
-- stops before it does anything else. A process that has lent its memory there shows what it lent, which its borrower
-- may change while the frames are read (vfork(2)): of its stacks nothing is said.
pub record ShowsOneStack (k pid : ℕ) (programs : List Program) (first : TracedState) (h : List Entry)
    (text : List ℕ) : Type 0 where
  pub before : List Entry
  pub call : Call
  pub reply : Reply
  pub after : List Entry
  pub place : h ≡ before ++ call_entry k call reply ∷ after
  pub reads : IsToolRead Pstack k pid (state_after first before) call
  pub stopped : HasStopped k pid first before
  pub process : TracedProcess
  pub lives : live_process (state_after first before).system pid ≡ Some process
  pub still : IsHalting process
  pub shown : process.borrower ≡ None → stacks_in pid programs (state_after first before).system ≡ Some text

-- ---- what it finds when it comes

-- a call opens a file
pub record IsOpen (c : Call) : Type 0 where
  pub pid : ℕ
  pub lwp : ℕ
  pub name : File
  pub way : Mode
  pub is : c ≡ Open pid lwp name way

-- an entry is no call of a controller but an open
abbrev pub OpensAtMost : ℕ → Entry → Type 0
OpensAtMost k e = (c : Call) (r : Reply) → e ≡ call_entry k c r → IsOpen c

-- whether every lwp of a process stands on an event of interest or is suspended
unfoldable pub all_still : TracedProcess → Bool
all_still p = list_all (λ (e : ℕ × TracedLwp). stands_still e.1) p.lwps

-- A controller has read the status of all lwps, as pstack does. The process lived, and this says whether every lwp of
-- it stood in the state that the read found: on an event of interest, or suspended.
pub record HasLooked (k pid : ℕ) (stood : Bool) (first : TracedState) (h : List Entry) : Type 0 where
  pub before : List Entry
  pub call : Call
  pub reply : Reply
  pub after : List Entry
  pub place : h ≡ before ++ call_entry k call reply ∷ after
  pub reads : IsToolRead Pstack k pid (state_after first before) call
  pub process : TracedProcess
  pub lives : live_process (state_after first before).system pid ≡ Some process
  pub means : stood ≡ all_still process
