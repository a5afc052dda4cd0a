use Rattle.std.specs.Prelude.{◌≡◌, ℕ, true, false, List, [], ◌∷◌, ◌++◌, Some, codes}
use Rattle.std.specs.List.{All}
use Rattle.pr_api.specs.Entries.{call_entry}
use Rattle.pr_model.specs.Handles.{handle_of}
use Rattle.pr_model.specs.Legal.{state_after}
use Rattle.pr_model.specs.State.{TracedState}
use Rattle.pr_model.specs.declared.calls.Call.{Call}
use Rattle.pr_model.specs.declared.calls.Call.TheVariants as call
use Rattle.pr_model.specs.declared.calls.File.{File}
use Rattle.pr_model.specs.declared.calls.File.TheVariants as file
use Rattle.pr_model.specs.declared.calls.Mode.{Mode}
use Rattle.pr_model.specs.declared.calls.Reply.{Reply}
use Rattle.pr_model.specs.declared.calls.Reply.TheVariants as reply
use Rattle.pr_model.specs.declared.events.Entry.{Entry}
use Rattle.pr_model.specs.declared.handles.Held.{Held}
use Rattle.pr_num.specs.Records.{status_ranges}
use Rattle.pr_num.specs.declared.errnos.Errno.{Errno}
use Rattle.pr_num.specs.declared.errnos.Errno.TheVariants.{Busy, Fault, Intr}
use Rattle.pr_probe.specs.Regions.{has_room}
use Rattle.pr_probe.specs.TracedSets.{is_watched_in}
use Rattle.pr_rec.specs.Reading.{record_read}
use Rattle.pr_tool_laws.specs.Reads.{ReadsFile}
use Rattle.pr_tools.specs.Refusals.{refusal_line}
use Rattle.pr_tools.specs.Replies.{bytes_read}

-- Why apfiles prints the line of a refusal.

-- ---- its calls

-- a controller has a handle of a file of the process
pub record HasHandle (k pid handle : ℕ) (s : TracedState) : Type 0 where
  pub held : Held
  pub there : handle_of s.opens k handle ≡ Some held
  pub of : held.pid ≡ pid

-- A call has to do with the process: it opens a file of it, or goes to a handle of one.
pub data IsCallFor (k pid : ℕ) (s : TracedState) : Call → Type 0 where
  opens : {id : ℕ} {file : File} {mode : Mode} → IsCallFor k pid s (call.Open pid id file mode)
  sends : {handle : ℕ} {bytes : List ℕ} → HasHandle k pid handle s → IsCallFor k pid s (call.Ctl handle bytes)
  waits : {handle until : ℕ} {bytes : List ℕ} → HasHandle k pid handle s
      → IsCallFor k pid s (call.CtlWait handle until bytes)
  polls : {handle : ℕ} → HasHandle k pid handle s → IsCallFor k pid s (call.Poll (handle ∷ []))
  reads : {handle from len : ℕ} → HasHandle k pid handle s → IsCallFor k pid s (call.Read handle from len)

-- ---- what was not refused

-- the call waits for the agent, and was interrupted
pub record IsInterruptedPoll (c : Call) (e : Errno) : Type 0 where
  pub handles : List ℕ
  pub is : c ≡ call.Poll handles
  pub interrupted : e ≡ Intr

-- an entry is no refusal of a call of a controller, but for an interrupt of a wait for its agent
abbrev pub IsNoRefusal : ℕ → Entry → Type 0
IsNoRefusal k e = (c : Call) (d : Errno) → e ≡ call_entry k c (reply.Fail d) → IsInterruptedPoll c d

-- ---- the reason

-- A reply is the reason for an errno: it refused a call for the process, and did not just interrupt a wait for the
-- agent; or it gave the status, with a watched area; or it gave the mappings, in which there is no room for an agent.
pub data IsReason (k pid : ℕ) (s : TracedState) (c : Call) (r : Reply) : Errno → Type 0 where
  refused : {e : Errno} → IsCallFor k pid s c → r ≡ reply.Fail e → (IsInterruptedPoll c e → ⊥)
      → IsReason k pid s c r e
  watched : ReadsFile k pid file.Status s c → is_watched_in (record_read status_ranges (bytes_read r)) ≡ true
      → IsReason k pid s c r Busy
  no_room : ReadsFile k pid file.Map s c → has_room (bytes_read r) ≡ false → IsReason k pid s c r Fault

-- The errno of a refusal has a reason in the history: the reply to a call of its own, of which none was refused before.
pub record HasReason (k pid : ℕ) (e : Errno) (first : TracedState) (h : List Entry) : Type 0 where
  pub before : List Entry
  pub call : Call
  pub reply : Reply
  pub after : List Entry
  pub place : h ≡ before ++ call_entry k call reply ∷ after
  pub earlier : All (IsNoRefusal k) before
  pub reason : IsReason k pid (state_after first before) call reply e

-- the text is the line of a refusal with this errno, which has its reason
pub record TellsWhy (k pid : ℕ) (e : Errno) (first : TracedState) (h : List Entry) (text : List ℕ) : Type 0 where
  pub line : text ≡ refusal_line (codes "apfiles") pid e
  pub reason : HasReason k pid e first h
