use Rattle.std.specs.Prelude.{◌≡◌, ℕ, List, ◌∷◌, ◌++◌, true, Some, is_some}
use Rattle.pr_api.specs.Entries.{call_entry}
use Rattle.pr_model.specs.Legal.{state_after}
use Rattle.pr_model.specs.State.{TracedProcess, TracedState, TracedSystem, process_of}
use Rattle.pr_model.specs.declared.calls.Call.{Call}
use Rattle.pr_model.specs.declared.calls.Reply.{Reply}
use Rattle.pr_model.specs.declared.events.Entry.{Entry}
use Rattle.pr_model.specs.declared.tools.ToolKind.{ToolKind}
use Rattle.pr_model.specs.declared.tools.ToolKind.TheVariants.{Pwait}
use Rattle.pr_tool_laws.specs.Reads.{IsToolRead, text_read}
use Rattle.pr_tool_laws.specs.ToolTexts.{tool_text}

-- What a tool shows is what stands in one state.

-- A process that has ended, and was not reaped yet.
pub record HasEnded (pid : ℕ) (s : TracedSystem) : Type 0 where
  pub zombie : TracedProcess
  pub there : process_of s pid ≡ Some zombie
  pub ended : is_some zombie.ended ≡ true

-- This text is what stands in a state of the history, in the one that the read of this tool finds; and it is what that
-- read gives there. pstop and prun print nothing. Where pwait prints it, the process has ended in that state.
pub record ShowsOneState (k : ℕ) (kind : ToolKind) (pid : ℕ) (first : TracedState) (h : List Entry)
    (text : List ℕ) : Type 0 where
  pub before : List Entry
  pub call : Call
  pub reply : Reply
  pub after : List Entry
  pub place : h ≡ before ++ call_entry k call reply ∷ after
  pub reads : IsToolRead kind k pid (state_after first before) call
  pub read : text_read kind pid (state_after first before).system ≡ Some text
  pub shown : tool_text kind pid (state_after first before).system ≡ Some text
  pub over : kind ≡ Pwait → HasEnded pid (state_after first before).system
