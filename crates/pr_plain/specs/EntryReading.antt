-- How entries, and the history that they make, are read from lines.
use Rattle.std.specs.Prelude.{ℕ, ◌+◌, ◌==◌, Option, Some, None, List, [], ◌∷◌, codes, Result, Ok, Err, if◌then◌else◌}
use Rattle.std.specs.List.{slice_split}
use Rattle.std.specs.Str.{bytes_eq}
use Rattle.pr_model.specs.declared.events.Act.{Act}
use Rattle.pr_model.specs.declared.events.Act.TheVariants as act
use Rattle.pr_model.specs.declared.events.Actor.{Actor}
use Rattle.pr_model.specs.declared.events.Actor.TheVariants.{Controller, Lwp, Clock}
use Rattle.pr_model.specs.declared.events.Entry.{Entry}
use Rattle.pr_plain.specs.CallReading.{arrow, lwp_of, begins_call, call_at, reply_at}
use Rattle.pr_plain.specs.DecimalWords.{decimal_of, decimal_id_of}
use Rattle.pr_text.specs.TextLines.{is_newline}
use Rattle.pr_plain.specs.Lines.{is_blank}
use Rattle.pr_plain.specs.Readings.{◌>>=◌}
use Rattle.pr_plain.specs.TurnReading.{turn_of}
use Rattle.pr_plain.specs.WordReading.{Words, word_at, is_done, behind_word, number_at}

-- who acted: the clock, c and a controller's number, or an lwp
abbrev pub controller_or_lwp : List ℕ → Option Actor
controller_or_lwp [] = None
controller_or_lwp (b ∷ bs) =
    if b == 99 then (decimal_id_of bs >>= λ k. Some (Controller k)) else (lwp_of (b ∷ bs) >>= λ l. Some (Lwp l.0 l.1))

unfoldable pub actor_of : List ℕ → Option Actor
actor_of w = if bytes_eq w (codes "clock") then Some Clock else controller_or_lwp w

-- a call, an arrow and the reply, of all the words
unfoldable pub exchange_of : Words → Option Act
exchange_of ws = do
  c ← call_at ws
  rest ← behind_word arrow c.1
  r ← reply_at rest
  if is_done r.1 then Some (act.Call c.0 r.0) else None

-- a time with nothing behind it
unfoldable pub tick_of : ℕ → Words → Option Act
tick_of n ws = if is_done ws then Some (act.Tick n) else None

-- what was done: its first word is a time, or begins a call or a turn
abbrev pub act_by : Option ℕ → List ℕ → Words → Words → Option Act
act_by (Some n) w rest ws = tick_of n rest
act_by None w rest ws = if begins_call w then exchange_of ws else (turn_of ws >>= λ t. Some (act.Turn t))

unfoldable pub act_of : Words → Option Act
act_of ws = do
  w ← word_at ws
  act_by (decimal_of w.0) w.0 w.1 ws

-- the entry of a number, of all the words
unfoldable pub entry_of : ℕ → Words → Option Entry
entry_of n ws = do
  i ← number_at ws
  w ← word_at i.1
  actor ← actor_of w.0
  a ← act_of w.1
  if i.0 == n then Some (record { actor = actor; act = a }) else None

-- how many entries a heading tells
unfoldable pub heading_of : Words → Option ℕ
heading_of ws = do
  rest ← behind_word (codes "history") ws
  n ← number_at rest
  if is_done n.1 then Some n.0 else None

-- ---- lines

-- the entry of a number that a line is, and the heading that one is
abbrev pub entry_in : ℕ → List ℕ → Option Entry
entry_in n line = entry_of n (slice_split is_blank line)

abbrev pub heading_in : List ℕ → Option ℕ
heading_in line = heading_of (slice_split is_blank line)

-- what was read, unless a line is wrong, which then is told by its number
abbrev pub or_line : {X : Type 0} → ℕ → Option X → Result X ℕ
or_line line (Some x) = Ok x
or_line line None = Err line

abbrev pub then_reads : {X Y : Type 0} → Result X ℕ → (X → Result Y ℕ) → Result Y ℕ
then_reads (Ok x) f = f x
then_reads (Err line) f = Err line

-- the entry of a number off the next line, and the lines below it
unfoldable pub next_entry : ℕ → ℕ → List (List ℕ) → Result (Entry × List (List ℕ)) ℕ
next_entry line n ls =
    then_reads (or_line line (word_at ls)) (λ l. then_reads (or_line line (entry_in n l.0)) (λ e. Ok (e, l.1)))

-- the heading off the first line, and the lines below it
unfoldable pub next_heading : ℕ → List (List ℕ) → Result (ℕ × List (List ℕ)) ℕ
next_heading line ls =
    then_reads (or_line line (word_at ls)) (λ l. then_reads (or_line line (heading_in l.0)) (λ count. Ok (count, l.1)))

-- The entries from a number on, up to as many as there are to be, in lines that count from `line`; or the first line
-- that is wrong. Where the lines end too early that is the line behind the last.
unfoldable pub entries_in : ℕ → ℕ → ℕ → List (List ℕ) → Result (List Entry) ℕ
entries_in line count n [] = if n == count then Ok [] else Err line
entries_in line count n (l ∷ ls) =
    if n == count then Ok []
    else then_reads (or_line line (entry_in n l))
    (λ e. then_reads (entries_in (line + 1) count (n + 1) ls) (λ es. Ok (e ∷ es)))

-- the entries of the history that lines begin with, or the first line that is wrong
unfoldable pub history_in : ℕ → List (List ℕ) → Result (List Entry) ℕ
history_in line ls = then_reads (next_heading line ls) (λ heading. entries_in (line + 1) heading.0 0 heading.1)

-- the same of a text
abbrev pub history_of : ℕ → List ℕ → Result (List Entry) ℕ
history_of line text = history_in line (slice_split is_newline text)
