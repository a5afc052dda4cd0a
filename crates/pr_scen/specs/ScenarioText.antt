-- A text of a scenario. Its programs are given as they are written: a scenario has them as they are put together.
use Rattle.std.specs.Prelude.{◌≡◌, ℕ, true, None, List, [], ◌∷◌, ◌++◌, get_or, is_some, map, Ok}
use Rattle.std.specs.List.{AllByRecursion}
use Rattle.pr_num.specs.Programs.{Program}
use Rattle.pr_asm.specs.Assembly.{assembled}
use Rattle.pr_asm.specs.declared.statements.Statement.{Statement}
use Rattle.pr_model.specs.declared.events.Actor.{Actor}
use Rattle.pr_scen.specs.Names.{place_of}
use Rattle.pr_scen.specs.Scenarios.{Scenario}
use Rattle.pr_scen.specs.Scripts.{first_script}
use Rattle.pr_scen.specs.TextEncoding.{Piece, outside, program, script, IsPiece}
use Rattle.pr_scen.specs.declared.items.Item.TheVariants as item
use Rattle.pr_scen.specs.declared.plans.Plan.{Plan}
use Rattle.pr_scen.specs.declared.plans.Plan.TheVariants.{Script, Truss, Tool, Gcore, Probe}
use Rattle.pr_scen.specs.declared.script_lines.ScriptLine.{ScriptLine}
use Rattle.pr_scen.specs.declared.script_lines.ScriptLine.TheVariants as line

-- ---- the pieces of a scenario, where its programs have these names and statements

abbrev pub names_of : List (List ℕ × List Statement) → List (List ℕ)
names_of sources = map (λ source. source.0) sources

abbrev pub program_piece : List ℕ × List Statement → Piece
program_piece source = program source.0 source.1

abbrev pub file_piece : List ℕ × List ℕ → Piece
file_piece file = outside (item.File file.0 file.1)

-- a process of the program at a place
abbrev pub spawn_piece : List (List ℕ) → ℕ → Piece
spawn_piece names place = outside (item.Spawn (get_or names place []))

-- A controller. Of the functions of a truss only those that its words name are read, so none is given here.
abbrev pub plan_piece : Plan → Piece
plan_piece (Script s) = script s.lines
plan_piece (Truss options) = outside (item.Truss (record { options = options; functions = None }))
plan_piece (Tool kind pid) = outside (item.Tool kind pid)
plan_piece (Gcore pid) = outside (item.Gcore pid)
plan_piece (Probe pid) = outside (item.Probe pid)

-- one turn of an actor
abbrev pub turn_piece : Actor → Piece
turn_piece actor = outside (item.Schedule (record { actor = actor; times = 1 } ∷ []))

unfoldable pub pieces_of : List (List ℕ × List Statement) → Scenario → List Piece
pieces_of sources s =
    outside (item.Turns s.turns)
    ∷ (map program_piece sources
    ++ (map file_piece s.files
    ++ (map (spawn_piece (names_of sources)) s.spawns
    ++ (map plan_piece s.controllers ++ map turn_piece s.schedule))))

-- ---- what can be written

-- these are the programs that these statements make, whatever lines they stand on
unfoldable pub AreSources : List (List ℕ × List Statement) → List Program → Type 0
AreSources [] [] = Unit {0}
AreSources (source ∷ sources) (p ∷ programs) =
    ((n : ℕ) → assembled source.0 n (map Ok source.1) ≡ Ok p) × AreSources sources programs
AreSources _ _ = ⊥

-- names that none of these is, nor one of them another
unfoldable pub OwnNames : List (List ℕ) → List (List ℕ) → Type 0
OwnNames above [] = Unit {0}
OwnNames above (name ∷ names) = (place_of above name ≡ None) × OwnNames (above ++ name ∷ []) names

-- a line of a script spawns a program of one of these names, if it spawns one
abbrev pub SpawnsOneOf : List (List ℕ) → ScriptLine → Type 0
SpawnsOneOf names (line.Spawn name held) = is_some (place_of names name) ≡ true
SpawnsOneOf names _ = Unit {0}

-- a script before its first line, which spawns programs of these names
unfoldable pub IsFirstPlan : List (List ℕ) → Plan → Type 0
IsFirstPlan names (Script s) = (s ≡ first_script s.lines) × AllByRecursion (SpawnsOneOf names) s.lines
IsFirstPlan names _ = ⊥

-- A scenario can be written with these programs: they are its own, under names of their own; its controllers are
-- scripts; and each line of its text can be read.
pub record IsWritten (sources : List (List ℕ × List Statement)) (s : Scenario) : Type 0 where
  pub programs : AreSources sources s.programs
  pub names : OwnNames [] (names_of sources)
  pub controllers : AllByRecursion (IsFirstPlan (names_of sources)) s.controllers
  pub pieces : AllByRecursion IsPiece (pieces_of sources s)
