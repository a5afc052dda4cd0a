use Rattle.std.specs.Prelude.{◌≡◌, ◌≢◌, ℕ, List, [], Some, slice_get}
use Rattle.pr_erasure.specs.Transparency.{IsTransparent}
use Rattle.pr_line.specs.declared.options.Options.{Options}
use Rattle.pr_model.specs.Legal.{state_after}
use Rattle.pr_model.specs.declared.events.Entry.{Entry}
use Rattle.pr_model.specs.declared.tools.ToolKind.{ToolKind}
use Rattle.pr_run_laws.specs.CoreRuns.{IsGcoreKept}
use Rattle.pr_run_laws.specs.FunctionRuns.{IsFunctionTrussKept, WriteUnseen}
use Rattle.pr_run_laws.specs.ProbeRuns.{AreHidden, IsProbeKept}
use Rattle.pr_run_laws.specs.ScenarioRuns.{controllers_of, first_state_of}
use Rattle.pr_run_laws.specs.ToolRuns.{IsToolKept}
use Rattle.pr_run_laws.specs.Tracers.{OthersArePassive}
use Rattle.pr_run_laws.specs.TrussRuns.{IsTrussKept}
use Rattle.pr_scen.specs.Scenarios.{Scenario}
use Rattle.pr_scen.specs.declared.plans.Plan.TheVariants as plan

-- What the controllers of a scenario keep beside an outside that makes any calls.

-- What the history of a session keeps, in which the outside has the number behind the controllers of the scenario. Each
-- truss, each tool, each gcore and each apfiles of the scenario has kept its promises, word for word those of a run;
-- programs see nothing of apfiles where it is left alone; what truss with calls of functions writes leaves them the
-- memory that they had, where it is undisturbed; and the programs of the machine are those of the scenario.
-- Truss without functions, the tools and gcore only stop, run, read and trace: where all others did no more, also the
-- outside, the programs did what they could have done without any.
pub record IsKeptBeside (s : Scenario) (h : List Entry) : Type 0 where
  pub transparent : OthersArePassive (controllers_of s) h → IsTransparent (first_state_of s) h
  pub trusses : (k : ℕ) (o : Options) → slice_get s.controllers k ≡ Some (plan.Truss o) → o.functions ≡ []
      → IsTrussKept (controllers_of s) (first_state_of s) h k o
  pub functions : (k : ℕ) (o : Options) → slice_get s.controllers k ≡ Some (plan.Truss o) → o.functions ≢ []
      → IsFunctionTrussKept (controllers_of s) (first_state_of s) h k o
  pub tools : (k : ℕ) (kind : ToolKind) (pid : ℕ) → slice_get s.controllers k ≡ Some (plan.Tool kind pid)
      → IsToolKept (controllers_of s) (first_state_of s) h k kind pid
  pub cores : (k pid : ℕ) → slice_get s.controllers k ≡ Some (plan.Gcore pid)
      → IsGcoreKept (controllers_of s) (first_state_of s) h k pid
  pub probes : (k pid : ℕ) → slice_get s.controllers k ≡ Some (plan.Probe pid)
      → IsProbeKept (controllers_of s) (first_state_of s) h k pid
  pub hides : AreHidden (controllers_of s) (first_state_of s) h
  pub writes : WriteUnseen (controllers_of s) (first_state_of s) h
  pub programs : (state_after (first_state_of s) h).system.programs ≡ s.programs
