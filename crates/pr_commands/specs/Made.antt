use Rattle.std.specs.Prelude.{◌≡◌, ◌≤◌, ◌⊎◌, ℕ, List, [], Option}
use Rattle.pr_model.specs.declared.events.Entry.{Entry}
use Rattle.pr_run_laws.specs.ScenarioRuns.{first_world}
use Rattle.pr_scen.specs.Scenarios.{Scenario}
use Rattle.pr_api.specs.Views.{KernelView, kernel_of}
use Rattle.pr_kern.specs.Kernels.{Kernel}
use Rattle.pr_world.specs.Runs.{after_moves}
use Rattle.pr_world.specs.Worlds.{WorldState}
use Rattle.pr_commands.specs.Histories.{IsLedTo}

-- the kernel as a world sees it
abbrev pub kern_view : Kernel → KernelView
kern_view k = kernel_of k.state k.history k.places

-- A history that a world has on its way: that after so many moves, of as many as there are places for entries.
pub record IsWorldsWay (first : WorldState) (history : List Entry) : Type 0 where
  pub moves : ℕ
  pub within : moves ≤ first.kernel.places
  pub is : history ≡ (after_moves moves first).kernel.history

-- A history that was made of a scenario when memory ran out: none, or one that its run has on its way.
abbrev pub IsBroughtSoFar : Scenario → List Entry → Type 0
IsBroughtSoFar s history = (history ≡ []) ⊎ IsWorldsWay (first_world s) history

-- Memory ran out in a run: nothing was written of it.
pub record StoppedRun (s : Scenario) (history : List Entry) (old new : Option (List ℕ)) : Type 0 where
  pub unwritten : new ≡ old
  pub so_far : IsBroughtSoFar s history

-- Memory ran out when this history was made: nothing was written, and just this history is left.
pub record LeftWith (made history : List Entry) (old new : Option (List ℕ)) : Type 0 where
  pub unwritten : new ≡ old
  pub is : history ≡ made

-- Memory ran out in a run by threads, or before it: nothing was written, and what they made is left.
pub record StoppedThreads (s : Scenario) (history : List Entry) (old new : Option (List ℕ)) : Type 0 where
  pub unwritten : new ≡ old
  pub so_far : (history ≡ []) ⊎ IsLedTo s history
