-- A scenario as contracts see it, and what is so of each that was read.
use Rattle.std.specs.Prelude.{◌≡◌, ◌≤◌, ◌<◌, ℕ, Bool, true, false, List, [], ◌∷◌, length, map, count_by, sum_by, All}
use Rattle.std.specs.List.{flat_map}
use Rattle.pr_line.specs.declared.functions.Function.{Function}
use Rattle.pr_num.specs.Programs.{Program}
use Rattle.pr_parts.specs.FileTables.{names_differ}
use Rattle.pr_model.specs.FirstState.{mapped_at_start, stored_file}
use Rattle.pr_model.specs.declared.events.Actor.{Actor}
use Rattle.pr_num.specs.Limits.{turn_limit, program_limit, file_limit, file_size_limit, spawn_limit, all_mappings_limit, controller_limit, list_line_limit, schedule_limit}
use Rattle.pr_scen.specs.Scripts.{ScriptState}
use Rattle.pr_scen.specs.declared.plans.Plan.{Plan}
use Rattle.pr_scen.specs.declared.plans.Plan.TheVariants.{Script, Truss, Probe}
pub use Rattle.pr_scen.specs.declared.script_lines.ScriptLine.{ScriptLine}
use Rattle.pr_scen.specs.declared.script_lines.ScriptLine.TheVariants as line

-- What a scenario asks for: how many entries the history may have; its programs and its files, by name; of which
-- programs, counted from 0, processes are made before the first turn; its controllers; and who moves first.
pub record Scenario : Type 0 where
  pub turns : ℕ
  pub programs : List Program
  pub files : List (List ℕ × List ℕ)
  pub spawns : List ℕ
  pub controllers : List Plan
  pub schedule : List Actor

-- the script of a controller that is one
abbrev pub script_in : Plan → List ScriptState
script_in (Script s) = s ∷ []
script_in _ = []

-- the scripts of a scenario, in the order of its controllers
abbrev pub scripts_of : Scenario → List ScriptState
scripts_of s = flat_map script_in s.controllers

-- ---- limits

abbrev pub is_list : ScriptLine → Bool
is_list line.List = true
is_list _ = false

-- the process of a controller that asks for descriptors by an agent
abbrev pub probe_in : Plan → List ℕ
probe_in (Probe pid) = pid ∷ []
probe_in _ = []

-- the processes of a scenario that are asked so, in the order of its controllers
abbrev pub probes_of : Scenario → List ℕ
probes_of s = flat_map probe_in s.controllers

-- the functions whose calls a controller shows
abbrev pub shown_in : Plan → List Function
shown_in (Truss options) = options.functions
shown_in _ = []

-- the functions whose calls the controllers of a scenario show
abbrev pub shown_functions : Scenario → List Function
shown_functions s = flat_map shown_in s.controllers

-- how many `list` lines a controller has
abbrev pub lists_in : Plan → ℕ
lists_in (Script s) = count_by is_list s.lines
lists_in _ = 0

-- What holds of every scenario that was read: it keeps each limit, its files have names of their own, and what is
-- spawned is one of its programs.
pub record IsWithinLimits (s : Scenario) : Type 0 where
  pub least : 1 ≤ s.turns
  pub most : s.turns ≤ turn_limit
  pub programs : length s.programs ≤ program_limit
  pub files : length s.files ≤ file_limit
  pub short : All (λ f. length f.1 ≤ file_size_limit) s.files
  pub own_names : names_differ (map stored_file s.files) ≡ true
  pub spawns : length s.spawns ≤ spawn_limit
  pub of_programs : All (λ place. place < length s.programs) s.spawns
  pub mapped : mapped_at_start s.programs s.spawns ≤ all_mappings_limit
  pub controllers : length s.controllers ≤ controller_limit
  pub lists : sum_by lists_in s.controllers ≤ list_line_limit
  pub schedule : length s.schedule ≤ schedule_limit
