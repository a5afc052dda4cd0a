use Rattle.std.specs.Prelude.{◌<◌, ◌^◌, List, length, map}
use Rattle.pr_hidden.specs.Covers.{Patch}
use Rattle.pr_hidden.specs.HiddenSteps.{IsHidden}
use Rattle.pr_hidden.specs.Hiders.{Hiders}
use Rattle.pr_hidden.specs.Tidiness.{IsPassiveBut, IsSparing, IsTidy}
use Rattle.pr_hide.specs.Hidings.{hiders_of}
use Rattle.pr_hide.specs.declared.hiders.Hider.{Hider}
use Rattle.pr_hide.specs.declared.hiders.Hider.TheVariants.{Functions, Nothing, Probe}
use Rattle.pr_line.specs.declared.functions.Function.{Function}
use Rattle.pr_model.specs.Legal.{IsLegal}
use Rattle.pr_model.specs.declared.events.Entry.{Entry}
use Rattle.pr_run_laws.specs.ScenarioRuns.{first_state_of}
use Rattle.pr_scen.specs.Scenarios.{IsWithinLimits, Scenario}
use Rattle.pr_scen.specs.declared.plans.Plan.{Plan}
use Rattle.pr_scen.specs.declared.plans.Plan.TheVariants as plan

-- Which controllers of a scenario hide what they do.

-- what programs have where the breakpoint of a function is planted: its first instruction
abbrev pub patch_of : Function → Patch
patch_of f = record { at = f.at; bytes = f.code }

-- What a controller hides, a row a kind: a truss its breakpoints, at the functions whose calls it shows, and apfiles
-- its agent. What scripts, the other tools and gcore do is not hidden.
unfoldable pub hider_of : Plan → Hider
hider_of (plan.Script script) = Nothing
hider_of (plan.Truss options) = Functions (map patch_of options.functions)
hider_of (plan.Tool kind pid) = Nothing
hider_of (plan.Gcore pid) = Nothing
hider_of (plan.Probe pid) = Probe

-- the controllers of a scenario that hide what they do, by their numbers
abbrev pub hiders_in : Scenario → Hiders
hiders_in s = hiders_of (map hider_of s.controllers)

-- A history of a scenario that can be played on a new kernel, whether a run made it or not: the scenario is within its
-- limits, and the history has fewer than 2^32 entries, and is legal.
pub record IsOf (s : Scenario) (h : List Entry) : Type 0 where
  pub limits : IsWithinLimits s
  pub few : length h < 2 ^ 32
  pub legal : IsLegal (length s.controllers) (first_state_of s) h

-- Programs see nothing of those who hide in a history, on three conditions: other calls are passive, programs leave
-- alone what is hidden, and those who hide are tidy. Then the steps that are not hidden are a run of the machine
-- without controllers, and its trace is that of the history without what is hidden.
pub record AreUnseen (s : Scenario) (h : List Entry) : Type 0 where
  pub unseen : IsPassiveBut (hiders_in s) h → IsSparing (hiders_in s) (first_state_of s) h
      → IsTidy (hiders_in s) (first_state_of s) h → IsHidden (hiders_in s) (first_state_of s) h
