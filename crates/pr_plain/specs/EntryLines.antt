-- Entries that are read off their lines one after another.
use Rattle.std.specs.Prelude.{ℕ, ◌+◌, List, Result, Ok}
use Rattle.std.specs.List.{slice_split}
use Rattle.pr_model.specs.declared.events.Entry.{Entry}
use Rattle.pr_plain.specs.EntryReading.{entries_in, next_entry, next_heading, then_reads}
use Rattle.pr_text.specs.TextLines.{is_newline}

-- The number of the first entry's line, how many entries there are to be, how many of them were read, and the lines
-- below these.
pub record EntriesAhead : Type 0 where
  pub first : ℕ
  pub count : ℕ
  pub read : ℕ
  pub lines : List (List ℕ)

-- the entries that are still to be read, or the first line that is wrong
abbrev pub entries_left : EntriesAhead → Result (List Entry) ℕ
entries_left l = entries_in (l.first + l.read) l.count l.read l.lines

-- the lines below a heading, of a text whose lines count from a number; or that number, where the first is no heading
unfoldable pub below_heading : ℕ → List ℕ → Result EntriesAhead ℕ
below_heading line text = then_reads (next_heading line (slice_split is_newline text)) (λ heading. Ok (record {
  first = line + 1;
  count = heading.0;
  read = 0;
  lines = heading.1;
}))

-- the next entry, and what is left behind it; or the number of its line
unfoldable pub next_of : EntriesAhead → Result (Entry × EntriesAhead) ℕ
next_of l =
    then_reads (next_entry (l.first + l.read) l.read l.lines)
    (λ x. Ok (x.0, record l { read = l.read + 1; lines = x.1 }))
