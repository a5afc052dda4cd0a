-- A text that begins with a history, and the first line at which a text is none.
use Rattle.std.specs.Prelude.{◌≡◌, ◌≢◌, ℕ, ◌+◌, ◌<◌, ◌⊎◌, true, List, [], ◌∷◌, ◌++◌, codes, decimal, length}
use Rattle.std.specs.List.{list_all}
use Rattle.pr_text.specs.TextLines.{lines_of, newline}
use Rattle.pr_model.specs.declared.events.Entry.{Entry}
use Rattle.pr_plain.specs.EntryForms.{is_number, has_form}
use Rattle.pr_text.specs.SpacedWords.{joined}
use Rattle.pr_plain.specs.HistoryText.{entry_line, heading_text, entries_text}
use Rattle.pr_plain.specs.Lines.{entry_lines}
use Rattle.pr_plain.specs.declared.refusals.HistRefusal.{HistRefusal}
use Rattle.pr_plain.specs.declared.refusals.HistRefusal.TheVariants.{Line, NoMemory}

-- the text of a history: its heading, and its entries, which count from 0
unfoldable pub history_text : List Entry → List ℕ
history_text es = heading_text (length es) ++ entries_text 0 es

-- the line of a heading
unfoldable pub heading_line : ℕ → List ℕ
heading_line n = joined (codes "history" ∷ decimal n ∷ [])

-- the lines of a history
abbrev pub history_lines : List Entry → List (List ℕ)
history_lines es = heading_line (length es) ∷ entry_lines 0 es

-- A text begins with a history: its first lines are the history's, whatever stands below.
pub record BeginsWith (text : List ℕ) (es : List Entry) : Type 0 where
  pub below : List (List ℕ)
  pub lines : lines_of text ≡ history_lines es ++ below
  pub formed : list_all has_form es ≡ true

-- A text is that of a history with anything behind it, or lacks only its last newline. These are the texts that begin
-- with it.
abbrev pub IsTextOf : List ℕ → List Entry → Type 0
IsTextOf text es = ((rest : List ℕ) × (text ≡ history_text es ++ rest)) ⊎ (text ++ newline ∷ [] ≡ history_text es)

-- the first of some lines is no heading
abbrev pub NoHeading : List (List ℕ) → Type 0
NoHeading [] = Unit {0}
NoHeading (l ∷ ls) = (n : ℕ) → is_number n ≡ true → l ≢ heading_line n

-- the first of some lines is no entry of this number, or there is no line
abbrev pub NoEntry : ℕ → List (List ℕ) → Type 0
NoEntry n [] = Unit {0}
NoEntry n (l ∷ ls) = (e : Entry) → has_form e ≡ true → l ≢ entry_line n e

-- Below a heading stand some entries, fewer than it tells, and the line below them is not the next one. Its number is
-- `line`, where the heading's is `first`.
pub record StopsShort (first : ℕ) (lines : List (List ℕ)) (line : ℕ) : Type 0 where
  pub count : ℕ
  pub entries : List Entry
  pub below : List (List ℕ)
  pub is : lines ≡ heading_line count ∷ entry_lines 0 entries ++ below
  pub formed : list_all has_form entries ≡ true
  pub fewer : length entries < count
  pub wrong : NoEntry (length entries) below
  pub at : line ≡ first + 1 + length entries

-- This is the number of the first line that is wrong: the first line, or one below entries.
abbrev pub IsFirstWrong : ℕ → List (List ℕ) → ℕ → Type 0
IsFirstWrong first lines line = (NoHeading lines × (line ≡ first)) ⊎ StopsShort first lines line

-- a refusal names the first line that is wrong, unless memory ran out
abbrev pub Refuses : ℕ → List ℕ → HistRefusal → Type 0
Refuses first text NoMemory = Unit {0}
Refuses first text (Line line) = IsFirstWrong first (lines_of text) line
