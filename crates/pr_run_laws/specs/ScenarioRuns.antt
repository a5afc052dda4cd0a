use Rattle.std.specs.Prelude.{◌≡◌, ◌≢◌, ℕ, Bool, true, false, List, [], None, Some, length, map, slice_get}
use Rattle.pr_api.specs.Views.{kernel_of}
use Rattle.pr_core.specs.Gcores.{first_gcore}
use Rattle.pr_probe.specs.Probes.{first_probe}
use Rattle.pr_erasure.specs.Transparency.{IsTransparent}
use Rattle.pr_line.specs.declared.options.Options.{Options}
use Rattle.pr_model.specs.FirstState.{first_state, stored_file}
use Rattle.pr_model.specs.Legal.{IsLegal, state_after}
use Rattle.pr_model.specs.Passive.{IsPassive}
use Rattle.pr_model.specs.State.{TracedState}
use Rattle.pr_model.specs.declared.events.Entry.{Entry}
use Rattle.pr_model.specs.declared.tools.ToolKind.{ToolKind}
use Rattle.pr_num.specs.declared.files.StoredFile.{StoredFile}
use Rattle.pr_scen.specs.Scenarios.{Scenario, probes_of, scripts_of, shown_functions}
use Rattle.pr_scen.specs.declared.plans.Plan.{Plan}
use Rattle.pr_scen.specs.declared.plans.Plan.TheVariants as plan
use Rattle.pr_tools.specs.Tools.{first_tool}
use Rattle.pr_truss.specs.Marks.{has_functions}
use Rattle.pr_truss.specs.Trusses.{first_truss}
use Rattle.pr_run_laws.specs.CoreRuns.{IsGcoreKept}
use Rattle.pr_run_laws.specs.FunctionRuns.{IsFunctionTrussKept, WriteUnseen}
use Rattle.pr_run_laws.specs.ProbeRuns.{AreHidden, IsProbeKept}
use Rattle.pr_run_laws.specs.ToolRuns.{IsToolKept}
use Rattle.pr_run_laws.specs.TrussRuns.{IsTrussKept}
use Rattle.pr_world.specs.Protocol.{Follows}
use Rattle.pr_world.specs.Runs.{after_moves}
use Rattle.pr_world.specs.Worlds.{WorldState}
use Rattle.pr_world.specs.ControllerStates.{ControllerState, Script, Truss, FnTruss, Tool, Gcore, Probe}

-- The runs of a scenario.

-- the files that it begins with, as the system keeps them
abbrev pub files_of : Scenario → List StoredFile
files_of s = map stored_file s.files

-- the state of the machine before the first move: the processes that the scenario spawns, of its programs, and its
-- files
abbrev pub first_state_of : Scenario → TracedState
first_state_of s = first_state s.programs (files_of s) s.spawns

-- a truss before its first call, which shows calls of functions or does not
abbrev pub truss_of : Options → Bool → ControllerState
truss_of options true = FnTruss (first_truss options)
truss_of options false = Truss (first_truss options)

-- the controller of a plan before its first call, a row a kind
unfoldable pub controller_of : Plan → ControllerState
controller_of (plan.Script script) = Script script
controller_of (plan.Truss options) = truss_of options (has_functions options)
controller_of (plan.Tool kind pid) = Tool (first_tool kind pid)
controller_of (plan.Gcore pid) = Gcore (first_gcore pid)
controller_of (plan.Probe pid) = Probe (first_probe pid)

-- its controllers before their first calls, in order
abbrev pub controllers_of : Scenario → List ControllerState
controllers_of s = map controller_of s.controllers

-- The world before the first move; the history has as many places as the scenario has turns.
unfoldable pub first_world : Scenario → WorldState
first_world s = record {
  kernel = kernel_of (first_state_of s) [] s.turns;
  controllers = controllers_of s;
  schedule = s.schedule;
  last = None;
}

-- ---- what is kept of a run

-- What every run of a scenario keeps, in whatever order its actors move: each entry is what the machine does; each
-- controller makes exactly the calls that its definition prescribes for the replies that it got, and the clock goes on
-- only where it is awaited; and if controllers only stopped, ran and read, the programs did what they could have done
-- without controllers. Truss without functions, the tools and gcore do no more than that: where no controller is a
-- script, none asks by an agent, and none shows calls of functions, the programs always did so.
--
-- Of a truss that shows calls of functions it is said which calls it makes and what it has learnt from their replies,
-- of which its text is a function; that it traces all of each process that it has opened, alone; and that it lifts a
-- breakpoint for one lwp alone, where it is not interrupted before it reads the process again. Each other truss has
-- shown what was selected while it watched, on the conditions of TrussRuns; it lets a process go for a reason alone,
-- and releases it. When it has finished, it has attached what it was given or reported its refusal, unless it was
-- interrupted before; it has opened or set free each child of a fork that it read and is to follow, or reported its
-- refusal; and it has nothing open. What a tool shows stood so in one state, whatever programs give its labels; what
-- gcore prints is the core of one state, where others spare the process; apfiles puts back what it writes over, and
-- programs see nothing of it where it is left alone; what truss with calls of functions writes leaves programs the
-- memory that they had, where it is undisturbed, and they see nothing of it where others are passive too and programs
-- leave its breakpoints alone; and the programs of the machine are always those of the scenario.
pub record IsKept (s : Scenario) (h : List Entry) : Type 0 where
  pub legal : IsLegal (length (controllers_of s)) (first_state_of s) h
  pub follows : Follows (controllers_of s) (first_state_of s) h
  pub transparent : IsPassive h → IsTransparent (first_state_of s) h
  pub transparent_without_scripts : scripts_of s ≡ [] → probes_of s ≡ [] → shown_functions s ≡ []
      → IsTransparent (first_state_of s) h
  pub trusses : (k : ℕ) (o : Options) → slice_get s.controllers k ≡ Some (plan.Truss o) → o.functions ≡ []
      → IsTrussKept (controllers_of s) (first_state_of s) h k o
  pub functions : (k : ℕ) (o : Options) → slice_get s.controllers k ≡ Some (plan.Truss o) → o.functions ≢ []
      → IsFunctionTrussKept (controllers_of s) (first_state_of s) h k o
  pub tools : (k : ℕ) (kind : ToolKind) (pid : ℕ) → slice_get s.controllers k ≡ Some (plan.Tool kind pid)
      → IsToolKept (controllers_of s) (first_state_of s) h k kind pid
  pub cores : (k pid : ℕ) → slice_get s.controllers k ≡ Some (plan.Gcore pid)
      → IsGcoreKept (controllers_of s) (first_state_of s) h k pid
  pub probes : (k pid : ℕ) → slice_get s.controllers k ≡ Some (plan.Probe pid)
      → IsProbeKept (controllers_of s) (first_state_of s) h k pid
  pub hides : AreHidden (controllers_of s) (first_state_of s) h
  pub writes : WriteUnseen (controllers_of s) (first_state_of s) h
  pub programs : (state_after (first_state_of s) h).system.programs ≡ s.programs

-- ---- on one thread a run is a function of the scenario

-- the world after so many moves, and the history that they made
abbrev pub world_after : ℕ → Scenario → WorldState
world_after n s = after_moves n (first_world s)

abbrev pub history_after : ℕ → Scenario → List Entry
history_after n s = (world_after n s).kernel.history

-- the run: as many moves as there are turns, or until no actor can move
abbrev pub run_of : Scenario → WorldState
run_of s = world_after s.turns s
