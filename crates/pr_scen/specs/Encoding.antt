-- Words that encode the lines of a scenario.
use Rattle.std.specs.Prelude.{◌≡◌, ◌≤◌, ◌<◌, ◌^◌, ℕ, true, false, List, [], ◌∷◌, ◌++◌, codes, decimal, map}
use Rattle.std.specs.List.{AllByRecursion}
use Rattle.pr_model.specs.declared.events.Actor.{Actor}
use Rattle.pr_model.specs.declared.events.Actor.TheVariants.{Controller, Lwp, Clock}
use Rattle.pr_model.specs.declared.tools.ToolKind.{ToolKind}
use Rattle.pr_model.specs.declared.tools.ToolKind.TheVariants.{Ptree}
use Rattle.pr_text.specs.HexWords.{digits_of_bytes}
use Rattle.pr_text.specs.LwpWords.{lwp_text}
use Rattle.pr_text.specs.Names.{is_name}
use Rattle.pr_text.specs.QuotedWords.{quoted}
use Rattle.pr_model.specs.FileNames.{file_name, mode_name}
use Rattle.pr_model.specs.ToolNames.{tool_name}
use Rattle.pr_scen.specs.declared.items.Item.{Item}
use Rattle.pr_scen.specs.declared.items.Item.TheVariants as item
use Rattle.pr_scen.specs.declared.schedules.Turns.{Turns}
use Rattle.pr_scen.specs.declared.script_lines.ScriptLine.{ScriptLine}
use Rattle.pr_scen.specs.declared.script_lines.ScriptLine.TheVariants as line

abbrev pub IsId : ℕ → Type 0
IsId n = n < 2 ^ 32

-- ---- turns at the beginning

unfoldable pub actor_word : Actor → List ℕ
actor_word (Controller k) = 99 ∷ decimal k
actor_word (Lwp pid lwp) = lwp_text pid lwp
actor_word Clock = codes "clock"

unfoldable pub IsActor : Actor → Type 0
IsActor (Controller k) = IsId k
IsActor (Lwp pid lwp) = IsId pid × IsId lwp
IsActor Clock = Unit {0}

-- an actor, and how many turns it has
abbrev pub turns_word : Turns → List ℕ
turns_word t = actor_word t.actor ++ 42 ∷ decimal t.times

abbrev pub AreTurns : Turns → Type 0
AreTurns t = IsActor t.actor × (t.times < 2 ^ 64)

abbrev pub SomeTurns : List Turns → Type 0
SomeTurns [] = ⊥
SomeTurns (t ∷ turns) = AllByRecursion AreTurns (t ∷ turns)

-- ---- tools

-- the words of a tool and its process; `ptree` has none
unfoldable pub tool_words : ToolKind → ℕ → List (List ℕ)
tool_words Ptree pid = codes "ptree" ∷ []
tool_words kind pid = tool_name kind ∷ decimal pid ∷ []

unfoldable pub IsTool : ToolKind → ℕ → Type 0
IsTool Ptree pid = pid ≡ 0
IsTool kind pid = IsId pid

-- ---- lines outside blocks, but for those of truss

unfoldable pub item_words : Item → List (List ℕ)
item_words item.Blank = []
item_words (item.Turns n) = codes "turns" ∷ decimal n ∷ []
item_words (item.File name bytes) = codes "file" ∷ name ∷ quoted bytes ∷ []
item_words (item.Program name) = codes "program" ∷ name ∷ []
item_words (item.Spawn name) = codes "spawn" ∷ name ∷ []
item_words item.Script = codes "script" ∷ []
item_words (item.Truss asked) = []
item_words (item.Tool kind pid) = codes "tool" ∷ tool_words kind pid
item_words (item.Gcore pid) = codes "tool" ∷ codes "gcore" ∷ decimal pid ∷ []
item_words (item.Probe pid) = codes "tool" ∷ codes "apfiles" ∷ decimal pid ∷ []
item_words (item.Schedule turns) = codes "schedule" ∷ map turns_word turns

-- what can be encoded: names have their form, and numbers are words
unfoldable pub IsItem : Item → Type 0
IsItem item.Blank = Unit {0}
IsItem (item.Turns n) = (1 ≤ n) × (n < 2 ^ 64)
IsItem (item.File name bytes) = is_name name ≡ true
IsItem (item.Program name) = is_name name ≡ true
IsItem (item.Spawn name) = is_name name ≡ true
IsItem item.Script = Unit {0}
IsItem (item.Truss asked) = ⊥
IsItem (item.Tool kind pid) = IsTool kind pid
IsItem (item.Gcore pid) = IsId pid
IsItem (item.Probe pid) = IsId pid
IsItem (item.Schedule turns) = SomeTurns turns

-- ---- lines of scripts; in an `open` lwp 0 stands for the process

unfoldable pub line_words : ScriptLine → List (List ℕ)
line_words (line.Open name pid lwp file mode) =
    codes "open" ∷ name ∷ lwp_text pid lwp ∷ file_name file ∷ mode_name mode ∷ []
line_words (line.Close name) = codes "close" ∷ name ∷ []
line_words (line.Read name at len) = codes "read" ∷ name ∷ decimal at ∷ decimal len ∷ []
line_words (line.Poll names) = codes "poll" ∷ names
line_words (line.Write name bytes) = codes "write" ∷ name ∷ codes "raw" ∷ digits_of_bytes bytes ∷ []
line_words (line.Interrupt controller) = codes "interrupt" ∷ decimal controller ∷ []
line_words (line.Spawn program false) = codes "spawn" ∷ program ∷ []
line_words (line.Spawn program true) = codes "spawn" ∷ program ∷ codes "held" ∷ []
line_words (line.Kill pid sig) = codes "kill" ∷ decimal pid ∷ decimal sig ∷ []
line_words (line.Until moment) = codes "until" ∷ decimal moment ∷ []
line_words line.List = codes "list" ∷ []

abbrev pub SomeNames : List (List ℕ) → Type 0
SomeNames [] = ⊥
SomeNames (name ∷ names) = AllByRecursion (λ n. is_name n ≡ true) (name ∷ names)

abbrev pub SomeBytes : List ℕ → Type 0
SomeBytes [] = ⊥
SomeBytes (b ∷ bytes) = AllByRecursion (λ x. x < 256) (b ∷ bytes)

unfoldable pub IsLine : ScriptLine → Type 0
IsLine (line.Open name pid lwp file mode) = (is_name name ≡ true) × IsId pid × IsId lwp
IsLine (line.Close name) = is_name name ≡ true
IsLine (line.Read name at len) = (is_name name ≡ true) × (at < 2 ^ 64) × (len < 2 ^ 64)
IsLine (line.Poll names) = SomeNames names
IsLine (line.Write name bytes) = (is_name name ≡ true) × SomeBytes bytes
IsLine (line.Interrupt controller) = IsId controller
IsLine (line.Spawn program held) = is_name program ≡ true
IsLine (line.Kill pid sig) = IsId pid × (sig < 2 ^ 64)
IsLine (line.Until moment) = moment < 2 ^ 64
IsLine line.List = Unit {0}
