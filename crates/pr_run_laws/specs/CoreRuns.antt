use Rattle.std.specs.Prelude.{◌≡◌, ℕ, true, false, List, [], None, Some, IsSome, slice_get}
use Rattle.pr_core.specs.CoreText.{printed}
use Rattle.pr_core.specs.Gcores.{GcoreState, has_ended}
use Rattle.pr_core_laws.specs.GcoreCalls.{MakesGcoreCalls}
use Rattle.pr_core_laws.specs.OneCore.{ShowsOneCore}
use Rattle.pr_core_laws.specs.Refused.{TellsWhy}
use Rattle.pr_model.specs.Legal.{state_after}
use Rattle.pr_model.specs.State.{TracedState}
use Rattle.pr_model.specs.declared.events.Entry.{Entry}
use Rattle.pr_num.specs.declared.errnos.Errno.{Errno}
use Rattle.pr_tool_laws.specs.Leaving.{LeavesItsProcess}
use Rattle.pr_tool_laws.specs.Requests.{asks_still}
use Rattle.pr_tool_laws.specs.ToolHandles.{HoldsOnly}
use Rattle.pr_truss_laws.specs.Exchanges.{exchanges}
use Rattle.pr_truss_laws.specs.Handles.{HasNothingOpen}
use Rattle.pr_world.specs.ControllerStates.{ControllerState, Gcore}
use Rattle.pr_world.specs.Protocol.{controllers_at}

-- What a run keeps of each gcore.

-- The controller of a number is a gcore of this process. When it has finished, and was not refused, it prints the core
-- of one state, on the conditions of ShowsOneCore, and has run the process again, and done nothing but close since, or
-- never, where every lwp of it stood when it came. While it has not finished it prints nothing, and so no part of a
-- core. When it has finished and was refused, it has taken back its request to stop, and its line has the errno of a
-- call of its own, or EBUSY of a process that had lent its memory. At any time it has made the calls of its table
-- alone, and has files of this process alone open, and none once it has finished.
pub record IsGcoreKept (controllers : List ControllerState) (first : TracedState) (h : List Entry) (k pid : ℕ)
    : Type 0 where
  pub shows : (g : GcoreState) → slice_get (controllers_at controllers h) k ≡ Some (Gcore g) → has_ended g ≡ true
      → g.refusal ≡ None → ShowsOneCore k pid first h (printed g)
  pub silent : (g : GcoreState) → slice_get (controllers_at controllers h) k ≡ Some (Gcore g) → has_ended g ≡ false
      → printed g ≡ []
  pub runs_again : (g : GcoreState) → slice_get (controllers_at controllers h) k ≡ Some (Gcore g) → has_ended g ≡ true
      → g.refusal ≡ None → LeavesItsProcess k pid first h
  pub takes_back : (g : GcoreState) → slice_get (controllers_at controllers h) k ≡ Some (Gcore g) → has_ended g ≡ true
      → IsSome g.refusal → asks_still false (exchanges k h) ≡ false
  pub calls : (g : GcoreState) → slice_get (controllers_at controllers h) k ≡ Some (Gcore g)
      → MakesGcoreCalls k pid first h
  pub opens : (g : GcoreState) → slice_get (controllers_at controllers h) k ≡ Some (Gcore g)
      → HoldsOnly k pid (state_after first h)
  pub closes : (g : GcoreState) → slice_get (controllers_at controllers h) k ≡ Some (Gcore g) → has_ended g ≡ true
      → HasNothingOpen k (state_after first h)
  pub refuses : (g : GcoreState) (e : Errno) → slice_get (controllers_at controllers h) k ≡ Some (Gcore g)
      → has_ended g ≡ true → g.refusal ≡ Some e → TellsWhy k pid e first h (printed g)
