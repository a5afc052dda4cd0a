-- The lines of a script block, each read on its own. Of the kinds of one line a bad operand comes first, wherever it
-- stands, and then a name that is in no table.
use Rattle.std.specs.Prelude.{◌==◌, ◌++◌, ℕ, true, false, Option, Some, None, List, [], ◌∷◌, codes, Result, Ok, Err, if◌then◌else◌}
use Rattle.std.specs.List.{slice_split}
use Rattle.std.specs.Str.{bytes_eq}
use Rattle.pr_text.specs.Names.{name_of}
use Rattle.pr_text.specs.NumberWords.{number_of, id_of}
use Rattle.pr_text.specs.Steps.{◌>>=◌, ok_or, none, one, two, three, four, some}
use Rattle.pr_model.specs.FileNames.{file_of_name, mode_of_name}
use Rattle.pr_text.specs.Comments.{begins_comment}
use Rattle.pr_scen.specs.Messages.{messages_of}
use Rattle.pr_scen.specs.declared.script_blocks.InScript.{InScript}
use Rattle.pr_scen.specs.declared.script_blocks.InScript.TheVariants.{Blank, Line}
use Rattle.pr_scen.specs.declared.script_lines.ScriptLine.{ScriptLine}
use Rattle.pr_scen.specs.declared.script_lines.ScriptLine.TheVariants as line
use Rattle.pr_scen.specs.declared.refusals.ScenKind.{ScenKind}
use Rattle.pr_scen.specs.declared.refusals.ScenKind.TheVariants.{UnknownWord, BadOperand, UnknownName}

-- the ids of a place: a process and an lwp of it, which / joins
abbrev pub ids_at : Option ℕ → Option ℕ → Option (ℕ × ℕ)
ids_at (Some pid) (Some lwp) = Some (pid, lwp)
ids_at _ _ = None

-- a process, or an lwp of a process; lwp 0 stands for the process
abbrev pub place_from : List (List ℕ) → Option (ℕ × ℕ)
place_from (pid ∷ []) = ids_at (id_of pid) (Some 0)
place_from (pid ∷ lwp ∷ []) = ids_at (id_of pid) (id_of lwp)
place_from _ = None

-- the process and the lwp that a word names: P, or P/L
unfoldable pub place_of_word : List ℕ → Option (ℕ × ℕ)
place_of_word word = place_from (slice_split (λ b. b == 47) word)

-- open V PID FILE MODE, open V PID/LWP FILE MODE
unfoldable pub open_of : List (List ℕ) → Result ScriptLine ScenKind
open_of operands = do
  words ← four BadOperand operands
  name ← ok_or BadOperand (name_of words.0)
  place ← ok_or BadOperand (place_of_word words.1)
  mode ← ok_or BadOperand (mode_of_name words.3)
  _ ← ok_or BadOperand (name_of words.2)
  file ← ok_or UnknownName (file_of_name words.2)
  Ok (line.Open name place.0 place.1 file mode)

-- close V
unfoldable pub close_of : List (List ℕ) → Result ScriptLine ScenKind
close_of operands = do
  word ← one BadOperand operands
  name ← ok_or BadOperand (name_of word)
  Ok (line.Close name)

-- read V AT LEN
unfoldable pub read_of : List (List ℕ) → Result ScriptLine ScenKind
read_of operands = do
  words ← three BadOperand operands
  name ← ok_or BadOperand (name_of words.0)
  at ← ok_or BadOperand (number_of words.1)
  len ← ok_or BadOperand (number_of words.2)
  Ok (line.Read name at len)

-- names with those that more words are
unfoldable pub with_names : List (List ℕ) → List (List ℕ) → Result (List (List ℕ)) ScenKind
with_names names [] = Ok names
with_names names (word ∷ words) = ok_or BadOperand (name_of word) >>= λ name. with_names (names ++ name ∷ []) words

abbrev pub unless_none : List (List ℕ) → Result ScriptLine ScenKind
unless_none [] = Err BadOperand
unless_none (name ∷ others) = Ok (line.Poll (name ∷ others))

-- poll V ..: one name or more
unfoldable pub poll_of : List (List ℕ) → Result ScriptLine ScenKind
poll_of operands = with_names [] operands >>= unless_none

-- write V MESSAGES: one message or more
unfoldable pub write_of : List (List ℕ) → Result ScriptLine ScenKind
write_of operands = do
  words ← some BadOperand operands
  name ← ok_or BadOperand (name_of words.0)
  bytes ← messages_of words.1
  Ok (line.Write name bytes)

-- interrupt K
unfoldable pub interrupt_of : List (List ℕ) → Result ScriptLine ScenKind
interrupt_of operands = do
  word ← one BadOperand operands
  controller ← ok_or BadOperand (id_of word)
  Ok (line.Interrupt controller)

-- spawn NAME, spawn NAME held
unfoldable pub spawn_of : List (List ℕ) → Result ScriptLine ScenKind
spawn_of (word ∷ []) = ok_or BadOperand (name_of word) >>= λ name. Ok (line.Spawn name false)
spawn_of (word ∷ how ∷ []) =
    ok_or BadOperand (name_of word)
    >>= λ name. if bytes_eq how (codes "held") then Ok (line.Spawn name true) else Err BadOperand
spawn_of _ = Err BadOperand

-- kill PID SIGNUMBER
unfoldable pub kill_of : List (List ℕ) → Result ScriptLine ScenKind
kill_of operands = do
  words ← two BadOperand operands
  pid ← ok_or BadOperand (id_of words.0)
  sig ← ok_or BadOperand (number_of words.1)
  Ok (line.Kill pid sig)

-- until N
unfoldable pub until_of : List (List ℕ) → Result ScriptLine ScenKind
until_of operands = do
  word ← one BadOperand operands
  moment ← ok_or BadOperand (number_of word)
  Ok (line.Until moment)

-- list
unfoldable pub list_of : List (List ℕ) → Result ScriptLine ScenKind
list_of operands = none BadOperand operands >>= λ _. Ok line.List

-- a line of a script by its first word, a row a word
unfoldable pub call_with : List ℕ → List (List ℕ) → Result ScriptLine ScenKind
call_with first operands =
    if bytes_eq first (codes "open") then open_of operands
    else (if bytes_eq first (codes "close") then close_of operands
    else (if bytes_eq first (codes "read") then read_of operands
    else (if bytes_eq first (codes "poll") then poll_of operands
    else (if bytes_eq first (codes "write") then write_of operands
    else (if bytes_eq first (codes "interrupt") then interrupt_of operands
    else (if bytes_eq first (codes "spawn") then spawn_of operands
    else (if bytes_eq first (codes "kill") then kill_of operands
    else (if bytes_eq first (codes "until") then until_of operands
    else (if bytes_eq first (codes "list") then list_of operands
    else Err UnknownWord)))))))))

-- What the words of a line in a script block say. A line without words, and one whose first word begins with #, mean
-- nothing.
unfoldable pub script_line_of : List (List ℕ) → Result InScript ScenKind
script_line_of [] = Ok Blank
script_line_of (first ∷ operands) =
    if begins_comment first then Ok Blank else (call_with first operands >>= λ l. Ok (Line l))
