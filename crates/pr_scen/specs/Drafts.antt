-- What was read of a scenario so far, and what one line or block more makes of it.
use Rattle.std.specs.Prelude.{◌+◌, ℕ, Bool, true, Some, None, Option, is_some, List, [], ◌∷◌, ◌++◌, length, option_map, slice_get, nat_lt, nat_le, unwrap_or, Result, Ok, Err, if◌then◌else◌}
use Rattle.pr_num.specs.Programs.{Program}
use Rattle.pr_line.specs.declared.options.Options.{Options}
use Rattle.pr_line.specs.declared.reading.Asked.{Asked}
use Rattle.pr_text.specs.Steps.{◌>>=◌, ok_or}
use Rattle.pr_model.specs.FirstState.{first_size}
use Rattle.pr_num.specs.Limits.{turn_limit, default_turns, program_limit, file_limit, file_size_limit, spawn_limit, all_mappings_limit, controller_limit, list_line_limit, schedule_limit}
use Rattle.pr_scen.specs.Functions.{functions_of}
use Rattle.pr_scen.specs.Names.{place_of}
use Rattle.pr_scen.specs.Scenarios.{Scenario}
use Rattle.pr_scen.specs.Schedules.{turn_count, actors_of}
use Rattle.pr_scen.specs.Scripts.{first_script}
use Rattle.pr_scen.specs.declared.drafts.Draft.{Draft}
use Rattle.pr_scen.specs.declared.items.Item.{Item}
use Rattle.pr_scen.specs.declared.items.Item.TheVariants as item
use Rattle.pr_scen.specs.declared.plans.Plan.{Plan}
use Rattle.pr_scen.specs.declared.plans.Plan.TheVariants.{Script, Truss, Tool, Gcore, Probe}
use Rattle.pr_scen.specs.declared.refusals.ScenKind.{ScenKind}
use Rattle.pr_scen.specs.declared.refusals.ScenKind.TheVariants.{UnknownName, Double, TooMany, TooBig}
use Rattle.pr_scen.specs.declared.schedules.Turns.{Turns}
use Rattle.pr_scen.specs.declared.script_blocks.InScript.{InScript}
use Rattle.pr_scen.specs.declared.script_blocks.InScript.TheVariants as in_script
use Rattle.pr_scen.specs.declared.script_lines.ScriptLine.{ScriptLine}
use Rattle.pr_scen.specs.declared.script_lines.ScriptLine.TheVariants as line

-- before the first line
abbrev pub nothing : Draft
nothing = record {
  turns = None;
  program_names = [];
  programs = [];
  file_names = [];
  files = [];
  spawns = [];
  mapped = 0;
  controllers = [];
  lists = 0;
  schedule = [];
  lines = [];
}

-- ---- lines outside blocks

-- turns N: at most once
unfoldable pub with_turns : Draft → ℕ → Result Draft ScenKind
with_turns d n =
    if is_some d.turns then Err Double
    else (if nat_le n turn_limit then Ok (record d { turns = Some n }) else Err TooMany)

-- file NAME: its name is given once, and it keeps the limits on files and on the bytes of one
unfoldable pub with_file : Draft → List ℕ → List ℕ → Result Draft ScenKind
with_file d name bytes =
    if is_some (place_of d.file_names name) then Err Double
    else (if nat_lt (length d.file_names) file_limit
    then (if nat_le (length bytes) file_size_limit
    then Ok (record d { file_names = d.file_names ++ name ∷ []; files = d.files ++ (name, bytes) ∷ [] })
    else Err TooBig)
    else Err TooMany)

-- one process more, of the program at a place, within the limit on processes and then on mapped bytes
abbrev pub with_process : Draft → ℕ → ℕ → Result Draft ScenKind
with_process d place size =
    if nat_lt (length d.spawns) spawn_limit
    then (if nat_le (d.mapped + size) all_mappings_limit then Ok
    (record d { spawns = d.spawns ++ place ∷ []; mapped = d.mapped + size }) else Err TooBig)
    else Err TooMany

-- spawn NAME: a process of a program whose block has ended above
unfoldable pub with_spawn : Draft → List ℕ → Result Draft ScenKind
with_spawn d name = do
  place ← ok_or UnknownName (place_of d.program_names name)
  size ← ok_or UnknownName (option_map first_size (slice_get d.programs place))
  with_process d place size

-- one controller more
unfoldable pub with_controller : Draft → Plan → Result Draft ScenKind
with_controller d plan =
    if nat_lt (length d.controllers) controller_limit then Ok
    (record d { controllers = d.controllers ++ plan ∷ [] }) else Err TooMany

-- whether a program of this name has ended above
abbrev pub has_program : Draft → List ℕ → Bool
has_program d name = is_some (place_of d.program_names name)

-- whether the program of a truss, if it runs one, has ended above
abbrev pub knows_program : Draft → Option (List ℕ) → Bool
knows_program d None = true
knows_program d (Some name) = has_program d name

-- a truss, where the program that it runs, if it runs one, is known
abbrev pub with_options : Draft → Options → Result Draft ScenKind
with_options d o = if knows_program d o.program then with_controller d (Truss o) else Err UnknownName

-- truss WORDS, where the functions that they name are known too
unfoldable pub with_truss : Draft → Asked → Result Draft ScenKind
with_truss d asked = do
  functions ← ok_or UnknownName (functions_of d.program_names d.programs asked.functions)
  with_options d (record asked.options { functions = functions })

-- schedule ACTORS, after those of the lines above
unfoldable pub with_schedule : Draft → List Turns → Result Draft ScenKind
with_schedule d turns =
    if nat_le (length d.schedule + turn_count turns) schedule_limit
    then Ok (record d { schedule = d.schedule ++ actors_of turns })
    else Err TooMany

-- A line outside blocks, a row a line. Those that begin a block are read with it.
unfoldable pub with_item : Draft → Item → Result Draft ScenKind
with_item d item.Blank = Ok d
with_item d (item.Turns n) = with_turns d n
with_item d (item.File name bytes) = with_file d name bytes
with_item d (item.Program name) = Ok d
with_item d (item.Spawn name) = with_spawn d name
with_item d item.Script = Ok d
with_item d (item.Truss asked) = with_truss d asked
with_item d (item.Tool kind pid) = with_controller d (Tool kind pid)
with_item d (item.Gcore pid) = with_controller d (Gcore pid)
with_item d (item.Probe pid) = with_controller d (Probe pid)
with_item d (item.Schedule turns) = with_schedule d turns

-- ---- blocks

-- A line that begins a block can: a program has a name of its own, and a script is within the limit.
unfoldable pub may_begin : Draft → Item → Result (Unit {0}) ScenKind
may_begin d (item.Program name) =
    if has_program d name then Err Double else
    (if nat_lt (length d.program_names) program_limit then Ok tt else Err TooMany)
may_begin d item.Script = if nat_lt (length d.controllers) controller_limit then Ok tt else Err TooMany
may_begin d _ = Ok tt

-- a program more
unfoldable pub with_program : Draft → List ℕ → Program → Draft
with_program d name program =
    record d { program_names = d.program_names ++ name ∷ []; programs = d.programs ++ program ∷ [] }

-- one line of a script more
abbrev pub with_line : Draft → ScriptLine → Draft
with_line d l = record d { lines = d.lines ++ l ∷ [] }

-- a script can make this call: it spawns a program whose block has ended above; there are at most 4,096 `list` lines
unfoldable pub call_added : Draft → ScriptLine → Result Draft ScenKind
call_added d (line.Spawn program held) =
    if has_program d program then Ok (with_line d (line.Spawn program held)) else Err UnknownName
call_added d line.List =
    if nat_lt d.lists list_line_limit then Ok (record (with_line d line.List) { lists = d.lists + 1 }) else Err TooMany
call_added d l = Ok (with_line d l)

-- what a line of a script block makes of it
unfoldable pub script_line_added : Draft → InScript → Result Draft ScenKind
script_line_added d in_script.Blank = Ok d
script_line_added d (in_script.Line l) = call_added d l

-- the script is whole
unfoldable pub with_script : Draft → Draft
with_script d = record d { controllers = d.controllers ++ Script (first_script d.lines) ∷ []; lines = [] }

-- ---- the end

-- what was read, as a scenario
unfoldable pub made : Draft → Scenario
made d = record {
  turns = unwrap_or d.turns default_turns;
  programs = d.programs;
  files = d.files;
  spawns = d.spawns;
  controllers = d.controllers;
  schedule = d.schedule;
}
