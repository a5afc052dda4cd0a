use Rattle.std.specs.Prelude.{◌≡◌, ◌≢◌, ℕ, List, ◌∷◌, ◌++◌, None, Some, codes}
use Rattle.std.specs.List.{All}
use Rattle.pr_api.specs.Entries.{call_entry}
use Rattle.pr_core_laws.specs.GcoreCalls.{IsGcoreCall}
use Rattle.pr_model.specs.Legal.{state_after}
use Rattle.pr_model.specs.State.{TracedProcess, TracedState, live_process}
use Rattle.pr_model.specs.declared.calls.Call.{Call}
use Rattle.pr_model.specs.declared.calls.File.TheVariants as file
use Rattle.pr_model.specs.declared.calls.Reply.{Reply}
use Rattle.pr_model.specs.declared.calls.Reply.TheVariants.{Fail}
use Rattle.pr_model.specs.declared.events.Entry.{Entry}
use Rattle.pr_num.specs.declared.errnos.Errno.{Errno}
use Rattle.pr_num.specs.declared.errnos.Errno.TheVariants.{Busy}
use Rattle.pr_tool_laws.specs.Reads.{ReadsFile}
use Rattle.pr_tools.specs.Refusals.{refusal_line}

-- Why gcore prints the line of a refusal.

-- an entry is no refusal of a call of a controller
abbrev pub IsNoRefusal : ℕ → Entry → Type 0
IsNoRefusal k e = (c : Call) (d : Errno) → e ≢ call_entry k c (Fail d)

-- A call of its own is the reason for an errno: it was refused with that; or it read the status of a process that had
-- lent its memory, of which no core is made.
pub data IsReason (k pid : ℕ) (s : TracedState) (c : Call) (r : Reply) : Errno → Type 0 where
  refused : {e : Errno} → IsGcoreCall k pid s c → r ≡ Fail e → IsReason k pid s c r e
  lent : {process : TracedProcess} → ReadsFile k pid file.Status s c → live_process s.system pid ≡ Some process
      → process.borrower ≢ None → IsReason k pid s c r Busy

-- The errno of a refusal has its reason in the history, in a call of its own, before which none was refused.
pub record HasReason (k pid : ℕ) (e : Errno) (first : TracedState) (h : List Entry) : Type 0 where
  pub before : List Entry
  pub call : Call
  pub reply : Reply
  pub after : List Entry
  pub place : h ≡ before ++ call_entry k call reply ∷ after
  pub earlier : All (IsNoRefusal k) before
  pub reason : IsReason k pid (state_after first before) call reply e

-- the text is the line of a refusal with this errno, which has its reason
pub record TellsWhy (k pid : ℕ) (e : Errno) (first : TracedState) (h : List Entry) (text : List ℕ) : Type 0 where
  pub line : text ≡ refusal_line (codes "gcore") pid e
  pub reason : HasReason k pid e first h
