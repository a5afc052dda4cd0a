use Rattle.std.specs.Prelude.{◌≡◌, ℕ, true, false, List, [], None, Some, IsSome, slice_get}
use Rattle.pr_model.specs.Legal.{state_after}
use Rattle.pr_model.specs.State.{TracedState}
use Rattle.pr_model.specs.declared.events.Entry.{Entry}
use Rattle.pr_model.specs.declared.tools.ToolKind.{ToolKind}
use Rattle.pr_model.specs.declared.tools.ToolKind.TheVariants.{Prun, Pstack, Pstop}
use Rattle.pr_num.specs.Programs.{Program}
use Rattle.pr_num.specs.declared.errnos.Errno.{Errno}
use Rattle.pr_tool_laws.specs.Leaving.{LeavesItsProcess}
use Rattle.pr_tool_laws.specs.ReadOnce.{ReadsOnce}
use Rattle.pr_tool_laws.specs.Requests.{asks_still}
use Rattle.pr_tool_laws.specs.SentMessages.{RunsItsProcess, StopsItsProcess}
use Rattle.pr_tool_laws.specs.ShownStates.{ShowsOneState}
use Rattle.pr_tool_laws.specs.Stacks.{ShowsOneStack}
use Rattle.pr_tool_laws.specs.ToolCalls.{MakesToolCalls}
use Rattle.pr_tool_laws.specs.ToolHandles.{HoldsOnly, LeavesTheSystem, only_reads}
use Rattle.pr_tool_laws.specs.ToolRefusals.{TellsWhy}
use Rattle.pr_tool_laws.specs.ToolTexts.{reads_once}
use Rattle.pr_tools.specs.Tools.{ToolState, has_ended, printed}
use Rattle.pr_truss_laws.specs.Exchanges.{exchanges}
use Rattle.pr_truss_laws.specs.Handles.{HasNothingOpen}
use Rattle.pr_world.specs.ControllerStates.{ControllerState, Tool}
use Rattle.pr_world.specs.Protocol.{controllers_at}

-- What a run keeps of each tool.

-- The controller of a number is a tool of this kind and process. When it has finished, and was not refused, it prints
-- what stands in one state; pstack, which reads more than once, the stacks of one state. This is so with the labels of
-- whatever programs it prints. While it has not finished it prints nothing. pstack has run its process again then, and
-- done nothing but close since, or never, where every lwp of it stood when it came; pstop has directed its process to
-- stop, and prun has run it; a pstack that was refused has taken back its request to stop. One that only reads has read
-- once then. When it has finished and was refused, its line tells why. At any time it makes the calls of its table
-- alone, and has files of this process alone open, and none once it has finished; and one that only reads leaves the
-- system as it was.
pub record IsToolKept (controllers : List ControllerState) (first : TracedState) (h : List Entry)
    (k : ℕ) (kind : ToolKind) (pid : ℕ) : Type 0 where
  pub shows : (t : ToolState) (programs : List Program) → slice_get (controllers_at controllers h) k ≡ Some (Tool t)
      → has_ended t ≡ true → t.refusal ≡ None → reads_once kind ≡ true
      → ShowsOneState k kind pid first h (printed t programs)
  pub stack : (t : ToolState) (programs : List Program) → slice_get (controllers_at controllers h) k ≡ Some (Tool t)
      → has_ended t ≡ true → t.refusal ≡ None → kind ≡ Pstack
      → ShowsOneStack k pid programs first h (printed t programs)
  pub silent : (t : ToolState) (programs : List Program) → slice_get (controllers_at controllers h) k ≡ Some (Tool t)
      → has_ended t ≡ false → printed t programs ≡ []
  pub runs_again : (t : ToolState) → slice_get (controllers_at controllers h) k ≡ Some (Tool t) → has_ended t ≡ true
      → t.refusal ≡ None → kind ≡ Pstack → LeavesItsProcess k pid first h
  pub takes_back : (t : ToolState) → slice_get (controllers_at controllers h) k ≡ Some (Tool t) → has_ended t ≡ true
      → IsSome t.refusal → kind ≡ Pstack → asks_still false (exchanges k h) ≡ false
  pub stops : (t : ToolState) → slice_get (controllers_at controllers h) k ≡ Some (Tool t) → has_ended t ≡ true
      → t.refusal ≡ None → kind ≡ Pstop → StopsItsProcess k pid first h
  pub runs : (t : ToolState) → slice_get (controllers_at controllers h) k ≡ Some (Tool t) → has_ended t ≡ true
      → t.refusal ≡ None → kind ≡ Prun → RunsItsProcess k pid first h
  pub opens : (t : ToolState) → slice_get (controllers_at controllers h) k ≡ Some (Tool t)
      → HoldsOnly k pid (state_after first h)
  pub closes : (t : ToolState) → slice_get (controllers_at controllers h) k ≡ Some (Tool t) → has_ended t ≡ true
      → HasNothingOpen k (state_after first h)
  pub leaves : (t : ToolState) → slice_get (controllers_at controllers h) k ≡ Some (Tool t) → only_reads kind ≡ true
      → LeavesTheSystem k first h
  pub calls : MakesToolCalls kind k pid first h
  pub once : (t : ToolState) → slice_get (controllers_at controllers h) k ≡ Some (Tool t) → has_ended t ≡ true
      → t.refusal ≡ None → only_reads kind ≡ true → ReadsOnce kind k pid h
  pub refuses : (t : ToolState) (e : Errno) (programs : List Program)
      → slice_get (controllers_at controllers h) k ≡ Some (Tool t) → has_ended t ≡ true → t.refusal ≡ Some e
      → TellsWhy kind k pid e first h (printed t programs)
