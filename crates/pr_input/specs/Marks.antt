-- Inputs in two parts, with a line between them that is a mark.
use Rattle.std.specs.Prelude.{◌==◌, ◌+◌, ◌-◌, ◌&&◌, ◌||◌, ℕ, Bool, true, false, List, Option, Some, None, codes, count_by, drop, find, length, min, take, if◌then◌else◌}
use Rattle.std.specs.List.{range_with_len, slice_get, starts_with}
use Rattle.std.specs.Str.{bytes_eq}
use Rattle.pr_text.specs.TextLines.{is_newline}
use Rattle.pr_input.specs.declared.marks.Mark.{Mark}
use Rattle.pr_input.specs.declared.marks.Mark.TheVariants as mark

-- ---- the line between them

-- a mark with its newline, and as the last line of an input that lacks it
unfoldable pub mark_line : Mark → List ℕ
mark_line mark.History = codes "%history\n"
mark_line mark.Core = codes "%core\n"

unfoldable pub last_mark : Mark → List ℕ
last_mark mark.History = codes "%history"
last_mark mark.Core = codes "%core"

-- whether the first line of a text is a mark
unfoldable pub is_mark : Mark → List ℕ → Bool
is_mark m text = starts_with ◌==◌ text (mark_line m) || bytes_eq text (last_mark m)

-- whether a byte is there, and ends a line
abbrev pub ends_line : Option ℕ → Bool
ends_line None = false
ends_line (Some byte) = is_newline byte

-- whether a line begins at a place of a text, counted from 0
unfoldable pub begins_line : List ℕ → ℕ → Bool
begins_line text place = if place == 0 then true else ends_line (slice_get text (place - 1))

unfoldable pub is_mark_at : Mark → List ℕ → ℕ → Bool
is_mark_at m text place = begins_line text place && is_mark m (drop place text)

-- the place of the first line that is a mark, where no more bytes stand above it than a limit
unfoldable pub mark_place : Mark → ℕ → List ℕ → Option ℕ
mark_place m limit text = find (is_mark_at m text) (range_with_len 0 (min (length text) (limit + 1)))

-- ---- what stands above and below

-- how many lines stand above a place where a line begins
abbrev pub lines_above : List ℕ → ℕ → ℕ
lines_above text place = count_by is_newline (take place text)

-- the text below a mark at a place, and the number of its first line
abbrev pub text_below : Mark → List ℕ → ℕ → List ℕ
text_below m text place = drop (place + length (mark_line m)) text

abbrev pub line_below : List ℕ → ℕ → ℕ
line_below text place = lines_above text place + 2
