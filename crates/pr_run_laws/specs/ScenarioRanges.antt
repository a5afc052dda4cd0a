use Rattle.std.specs.List.{All}
use Rattle.pr_lawful.specs.Starts.{IsStart}
use Rattle.pr_line.specs.declared.functions.Function.{Function}
use Rattle.pr_num.specs.Words.{IsByte}
use Rattle.pr_reached.specs.InRange.{IsStartInRange}
use Rattle.pr_scen.specs.Scenarios.{Scenario}
use Rattle.pr_scen.specs.declared.script_lines.ScriptLine.{ScriptLine}
use Rattle.pr_scen.specs.declared.script_lines.ScriptLine.TheVariants as line
use Rattle.pr_run_laws.specs.NamedFunctions.{NamesShowable}
use Rattle.pr_run_laws.specs.ScenarioRuns.{controllers_of, files_of}
use Rattle.pr_world.specs.ControllerStates.{ControllerState, Script, FnTruss, Probe}

-- What is so of each scenario that was read, beside its limits.

-- what a line of a script writes is bytes
abbrev pub IsLineOfBytes : ScriptLine → Type 0
IsLineOfBytes (line.Write name bytes) = All IsByte bytes
IsLineOfBytes _ = Unit {0}

-- the first instruction of a function is bytes
abbrev pub HasCodeOfBytes : Function → Type 0
HasCodeOfBytes f = All IsByte f.code

-- what a controller writes is bytes, of a probe also what it has saved to write back, of a truss that shows calls of
-- functions their first instructions; of truss without functions, the tools and gcore it always is
unfoldable pub IsCoreOfBytes : ControllerState → Type 0
IsCoreOfBytes (Script s) = All IsLineOfBytes s.lines
IsCoreOfBytes (FnTruss t) = All HasCodeOfBytes t.options.functions
IsCoreOfBytes (Probe p) = All IsByte p.code × All IsByte p.stack
IsCoreOfBytes _ = Unit {0}

-- A scenario in range: its first state is one that can be started, of programs and files in range, what its scripts
-- write is bytes, and what its trusses show calls of are functions as they are asked for, at most 16 each.
pub record IsScenarioInRange (s : Scenario) : Type 0 where
  pub start : IsStart s.programs (files_of s) s.spawns
  pub range : IsStartInRange s.programs (files_of s)
  pub bytes : All IsCoreOfBytes (controllers_of s)
  pub functions : All NamesShowable s.controllers
