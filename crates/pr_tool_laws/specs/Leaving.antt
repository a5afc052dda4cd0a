use Rattle.std.specs.Prelude.{◌≡◌, ◌≢◌, ℕ, Bool, true, false, List, ◌∷◌, ◌++◌, Some}
use Rattle.std.specs.List.{All}
use Rattle.pr_api.specs.Entries.{call_entry}
use Rattle.pr_model.specs.Handles.{handle_of}
use Rattle.pr_model.specs.Legal.{state_after}
use Rattle.pr_model.specs.State.{TracedState}
use Rattle.pr_model.specs.declared.calls.Call.{Call}
use Rattle.pr_model.specs.declared.calls.Call.TheVariants as call
use Rattle.pr_model.specs.declared.calls.File.TheVariants as file
use Rattle.pr_model.specs.declared.calls.Reply.{Reply}
use Rattle.pr_model.specs.declared.events.Entry.{Entry}
use Rattle.pr_model.specs.declared.handles.Held.{Held}
use Rattle.pr_num.specs.Messages.{spelling}
use Rattle.pr_num.specs.declared.messages.Message.{Message}
use Rattle.pr_num.specs.declared.messages.Message.TheVariants as message
use Rattle.pr_tools.specs.Calls.{run_bytes}
use Rattle.pr_tool_laws.specs.SentMessages.{HasSent, IsSetGoing}
use Rattle.pr_tool_laws.specs.Stacks.{HasLooked, OpensAtMost}

-- How pstack, gcore and apfiles, which stop a process, leave it: running again, unless it stood when they came.

-- ---- messages

-- A controller writes this message, with these bytes after its operands, to the control file of the process, by a
-- handle that it has of it.
pub record SendsTo (k pid : ℕ) (m : Message) (tail : List ℕ) (s : TracedState) (c : Call) : Type 0 where
  pub handle : ℕ
  pub held : Held
  pub sends : c ≡ call.Ctl handle (spelling m tail)
  pub there : handle_of s.opens k handle ≡ Some held
  pub of : held.pid ≡ pid
  pub file : held.file ≡ file.Ctl

-- ---- at the end

-- an entry is no call of a controller but a close
pub record IsClose (c : Call) : Type 0 where
  pub handle : ℕ
  pub is : c ≡ call.Close handle

abbrev pub ClosesAtMost : ℕ → Entry → Type 0
ClosesAtMost k e = (c : Call) (r : Reply) → e ≡ call_entry k c r → IsClose c

-- an entry is no call of a controller
abbrev pub IsNoCall : ℕ → Entry → Type 0
IsNoCall k e = (c : Call) (r : Reply) → e ≢ call_entry k c r

-- ---- the process

-- It has run the process by PCRUN, which was not refused, and since then it has done nothing but close.
pub record HasRunAtLast (k pid : ℕ) (first : TracedState) (h : List Entry) : Type 0 where
  pub sent : HasSent k pid run_bytes IsSetGoing first h
  pub closes : All (ClosesAtMost k) sent.after

-- A controller has read the status of all lwps, and this says whether every lwp of the process stood in the state that
-- the read found: on an event of interest, or suspended. It has done nothing but open before: it has not stopped the
-- process itself. Where not every one did, it has run the process at last.
pub record RunsAtLast (k pid : ℕ) (first : TracedState) (h : List Entry) : Type 0 where
  pub stood : Bool
  pub looked : HasLooked k pid stood first h
  pub came : All (OpensAtMost k) looked.before
  pub runs : stood ≡ false → HasRunAtLast k pid first h

-- A controller has sent the process no PCRUN, whatever its flags.
pub record RunsNobody (k pid : ℕ) (first : TracedState) (h : List Entry) : Type 0 where
  pub each : (front back : List Entry) (c : Call) (r : Reply) (flags : ℕ) (tail : List ℕ)
      → h ≡ front ++ call_entry k c r ∷ back → SendsTo k pid (message.Run flags) tail (state_after first front) c → ⊥

-- It has run the process at last, unless every lwp stood when it came; and where every one did, never.
pub record LeavesItsProcess (k pid : ℕ) (first : TracedState) (h : List Entry) : Type 0 where
  pub left : RunsAtLast k pid first h
  pub lets_be : left.stood ≡ true → RunsNobody k pid first h
