-- The lines outside blocks, each read on its own. Of the kinds of one line a bad operand comes first, wherever it
-- stands, and then a name that is in no table.
use Rattle.std.specs.Prelude.{◌==◌, ℕ, List, [], ◌∷◌, codes, Result, Ok, Err, if◌then◌else◌}
use Rattle.std.specs.Str.{bytes_eq}
use Rattle.pr_line.specs.Reading.{asked_of, has_bad_option}
use Rattle.pr_line.specs.declared.faults.WordFault.{WordFault}
use Rattle.pr_line.specs.declared.reading.Asked.{Asked}
use Rattle.pr_model.specs.declared.tools.ToolKind.TheVariants.{Ptree}
use Rattle.pr_text.specs.Names.{name_of}
use Rattle.pr_text.specs.NumberWords.{number_of, id_of}
use Rattle.pr_text.specs.QuotedWords.{quoted_bytes}
use Rattle.pr_text.specs.Steps.{◌>>=◌, ok_or, none, one, two}
use Rattle.pr_model.specs.ToolNames.{process_tool_of_name}
use Rattle.pr_text.specs.Comments.{begins_comment}
use Rattle.pr_scen.specs.Schedules.{with_turns_of}
use Rattle.pr_scen.specs.declared.items.Item.{Item}
use Rattle.pr_scen.specs.declared.items.Item.TheVariants as item
use Rattle.pr_scen.specs.declared.refusals.ScenKind.{ScenKind}
use Rattle.pr_scen.specs.declared.refusals.ScenKind.TheVariants.{UnknownWord, BadOperand, UnknownName}
use Rattle.pr_scen.specs.declared.schedules.Turns.{Turns}

-- turns N, where N is not 0
unfoldable pub turns_of : List (List ℕ) → Result Item ScenKind
turns_of operands = do
  word ← one BadOperand operands
  n ← ok_or BadOperand (number_of word)
  if n == 0 then Err BadOperand else Ok (item.Turns n)

-- file NAME "..."
unfoldable pub file_of : List (List ℕ) → Result Item ScenKind
file_of operands = do
  words ← two BadOperand operands
  name ← ok_or BadOperand (name_of words.0)
  bytes ← ok_or BadOperand (quoted_bytes words.1)
  Ok (item.File name bytes)

-- program NAME: a block begins
unfoldable pub program_of : List (List ℕ) → Result Item ScenKind
program_of operands = do
  word ← one BadOperand operands
  name ← ok_or BadOperand (name_of word)
  Ok (item.Program name)

-- spawn NAME
unfoldable pub spawn_of : List (List ℕ) → Result Item ScenKind
spawn_of operands = do
  word ← one BadOperand operands
  name ← ok_or BadOperand (name_of word)
  Ok (item.Spawn name)

-- script: a block begins
unfoldable pub script_of : List (List ℕ) → Result Item ScenKind
script_of operands = none BadOperand operands >>= λ _. Ok item.Script

-- truss WORDS (truss(1)); a bad option comes before a name that is in no table
abbrev pub truss_read : List (List ℕ) → Result Asked WordFault → Result Item ScenKind
truss_read words (Ok asked) = Ok (item.Truss asked)
truss_read words (Err fault) = if has_bad_option words then Err BadOperand else Err UnknownName

unfoldable pub truss_of : List (List ℕ) → Result Item ScenKind
truss_of words = truss_read words (asked_of words)

-- a tool of a process, by its name, a row a name; ptree has no process
unfoldable pub process_tool_line : List ℕ → ℕ → Result Item ScenKind
process_tool_line word pid =
    if bytes_eq word (codes "ptree") then Err BadOperand
    else (if bytes_eq word (codes "gcore") then Ok (item.Gcore pid)
    else (if bytes_eq word (codes "apfiles") then Ok (item.Probe pid)
    else (ok_or UnknownName (process_tool_of_name word) >>= λ kind. Ok (item.Tool kind pid))))

-- tool TOOL PID, tool ptree
unfoldable pub tool_line_of : List (List ℕ) → Result Item ScenKind
tool_line_of (word ∷ []) = if bytes_eq word (codes "ptree") then Ok (item.Tool Ptree 0) else Err BadOperand
tool_line_of (word ∷ id ∷ []) = do
  _ ← ok_or BadOperand (name_of word)
  pid ← ok_or BadOperand (id_of id)
  process_tool_line word pid
tool_line_of _ = Err BadOperand

abbrev pub unless_none : List Turns → Result Item ScenKind
unless_none [] = Err BadOperand
unless_none (t ∷ turns) = Ok (item.Schedule (t ∷ turns))

-- schedule ACTORS: one or more
unfoldable pub schedule_of : List (List ℕ) → Result Item ScenKind
schedule_of operands = with_turns_of [] operands >>= unless_none

-- a line that is neither empty nor a comment, by its first word, a row a word
unfoldable pub item_with : List ℕ → List (List ℕ) → Result Item ScenKind
item_with first operands =
    if bytes_eq first (codes "turns") then turns_of operands
    else (if bytes_eq first (codes "file") then file_of operands
    else (if bytes_eq first (codes "program") then program_of operands
    else (if bytes_eq first (codes "spawn") then spawn_of operands
    else (if bytes_eq first (codes "script") then script_of operands
    else (if bytes_eq first (codes "truss") then truss_of operands
    else (if bytes_eq first (codes "tool") then tool_line_of operands
    else (if bytes_eq first (codes "schedule") then schedule_of operands
    else Err UnknownWord)))))))

-- What the words of a line outside blocks say. A line without words, and one whose first word begins with #, mean
-- nothing.
unfoldable pub item_of : List (List ℕ) → Result Item ScenKind
item_of [] = Ok item.Blank
item_of (first ∷ operands) = if begins_comment first then Ok item.Blank else item_with first operands
