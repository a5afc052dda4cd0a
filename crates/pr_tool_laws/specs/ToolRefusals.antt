use Rattle.std.specs.Prelude.{◌≡◌, ℕ, List, [], ◌∷◌, ◌++◌}
use Rattle.std.specs.List.{All}
use Rattle.pr_api.specs.Entries.{call_entry}
use Rattle.pr_model.specs.Legal.{after as state_later, state_after}
use Rattle.pr_model.specs.State.{TracedState}
use Rattle.pr_model.specs.ToolNames.{tool_name}
use Rattle.pr_model.specs.declared.calls.Call.{Call}
use Rattle.pr_model.specs.declared.calls.Call.TheVariants as call
use Rattle.pr_model.specs.declared.calls.File.TheVariants as file
use Rattle.pr_model.specs.declared.calls.Reply.{Reply}
use Rattle.pr_model.specs.declared.calls.Reply.TheVariants.{Fail}
use Rattle.pr_model.specs.declared.events.Entry.{Entry}
use Rattle.pr_model.specs.declared.tools.ToolKind.{ToolKind}
use Rattle.pr_model.specs.declared.tools.ToolKind.TheVariants.{Pstack}
use Rattle.pr_num.specs.declared.errnos.Errno.{Errno}
use Rattle.pr_num.specs.declared.errnos.Errno.TheVariants.{Io}
use Rattle.pr_tools.specs.Calls.{run_bytes, short_read}
use Rattle.pr_tools.specs.Refusals.{refusal_line}
use Rattle.pr_tool_laws.specs.FileHandles.{HasHandleOf}
use Rattle.pr_tool_laws.specs.ToolCalls.{IsToolCall}

-- Why a tool prints the line of a refusal.

-- ---- up to the refusal

-- The call of a tool was refused, and it goes on all the same: pstack has read memory of the process where none is
-- mapped (EIO). No other tool goes on after a refusal.
pub record IsPassedOver (kind : ToolKind) (k pid : ℕ) (s : TracedState) (c : Call) (e : Errno) : Type 0 where
  pub pstack : kind ≡ Pstack
  pub handle : ℕ
  pub from : ℕ
  pub reads : c ≡ call.Read handle from short_read
  pub memory : HasHandleOf k pid 0 file.Mem handle s
  pub unmapped : e ≡ Io

-- no call of a controller in a history was refused, but such ones
abbrev pub GoesUnrefused : ToolKind → ℕ → ℕ → TracedState → List Entry → Type 0
GoesUnrefused kind k pid s [] = Unit {0}
GoesUnrefused kind k pid s (e ∷ es) =
    ((c : Call) (d : Errno) → e ≡ call_entry k c (Fail d) → IsPassedOver kind k pid s c d)
    × GoesUnrefused kind k pid (state_later s e) es

-- ---- from the refusal on

-- the calls by which a refused tool leaves: it closes, and pstack may run the process before
pub data IsWayOut : ToolKind → Call → Type 0 where
  closes : {kind : ToolKind} {handle : ℕ} → IsWayOut kind (call.Close handle)
  runs : {handle : ℕ} → IsWayOut Pstack (call.Ctl handle run_bytes)

-- an entry is no call of a controller but one of these
abbrev pub LeavesAtMost : ToolKind → ℕ → Entry → Type 0
LeavesAtMost kind k e = (c : Call) (r : Reply) → e ≡ call_entry k c r → IsWayOut kind c

-- ---- the refusal

-- The errno of a refusal has its reason in the history. A call of the tool, one of its table, was refused with just
-- this errno, and not passed over. None was refused before, and since then it has only left.
pub record HasReason (kind : ToolKind) (k pid : ℕ) (e : Errno) (first : TracedState) (h : List Entry) : Type 0 where
  pub before : List Entry
  pub call : Call
  pub after : List Entry
  pub place : h ≡ before ++ call_entry k call (Fail e) ∷ after
  pub own : IsToolCall k pid (state_after first before) kind call
  pub counts : IsPassedOver kind k pid (state_after first before) call e → ⊥
  pub earlier : GoesUnrefused kind k pid first before
  pub leaves : All (LeavesAtMost kind k) after

-- the text is the line of a refusal of this tool with this errno, which has its reason
pub record TellsWhy (kind : ToolKind) (k pid : ℕ) (e : Errno) (first : TracedState) (h : List Entry)
    (text : List ℕ) : Type 0 where
  pub line : text ≡ refusal_line (tool_name kind) pid e
  pub reason : HasReason kind k pid e first h
