-- Reading the text of a core, as gcore(1) prints it: a line `core N`, N the number of bytes in decimal, and the bytes
-- in lines of hex of 1,024 bytes each, the last with the rest. Lines count from a number, and one that is damaged is
-- told by its number. What follows the text is not looked at.
use Rattle.std.specs.Prelude.{◌≡◌, ◌==◌, ℕ, ◌+◌, ◌-◌, ◌/◌, ◌++◌, List, [], ◌∷◌, Option, Some, None, Result, Ok, Err, codes, decimal, drop, length, min, nat_lt, if◌then◌else◌}
use Rattle.std.specs.List.{starts_with}
use Rattle.std.specs.Str.{bytes_eq}
use Rattle.pr_text.specs.HexWords.{bytes_of_digits}
use Rattle.pr_text.specs.NumberWords.{number_of}
use Rattle.pr_text.specs.Steps.{◌>>=◌}
use Rattle.pr_text.specs.TextLines.{lines_of}
use Rattle.pr_core.specs.CoreReading.{core_read}
use Rattle.pr_core.specs.CoreText.{line_bytes}
use Rattle.pr_core.specs.Cores.{CoreWords}
use Rattle.pr_core.specs.declared.faults.CoreFault.{CoreFault}
use Rattle.pr_core.specs.declared.faults.CoreFault.TheVariants.{Short, Bad, NoMemory}
use Rattle.pr_core_text.specs.declared.refusals.CoreTextRefusal.{CoreTextRefusal}
use Rattle.pr_core_text.specs.declared.refusals.CoreTextRefusal.TheVariants as refusal

-- what a line tells, unless it is damaged
abbrev pub or_line : {X : Type 0} → ℕ → Option X → Result X ℕ
or_line line (Some x) = Ok x
or_line line None = Err line

-- ---- the heading

-- a number in decimal as it is written, and no other spelling of it
abbrev pub if_written : List ℕ → Option ℕ → Option ℕ
if_written word None = None
if_written word (Some n) = if bytes_eq (decimal n) word then Some n else None

abbrev pub heading : List ℕ
heading = codes "core "

-- how many bytes a heading tells
unfoldable pub size_in : List ℕ → Option ℕ
size_in line =
    if starts_with ◌==◌ line heading
    then if_written (drop (length heading) line) (number_of (drop (length heading) line)) else None

-- ---- the bytes

-- how many bytes the next line has, where so many are left
abbrev pub on_line : ℕ → ℕ
on_line left = min left line_bytes

abbrev pub if_many : ℕ → Option (List ℕ) → Option (List ℕ)
if_many size None = None
if_many size (Some bytes) = if length bytes == size then Some bytes else None

-- the bytes that a line tells in hex, where they are so many
unfoldable pub bytes_on : ℕ → List ℕ → Option (List ℕ)
bytes_on size line = if_many size (bytes_of_digits line)

-- the bytes of a text, and the number of the line behind it
pub record Bytes : Type 0 where
  pub bytes : List ℕ
  pub behind : ℕ

-- So many bytes more than these, in lines that count from a number. Where the lines end too early, the line behind the
-- last is damaged.
unfoldable pub bytes_after : List ℕ → ℕ → ℕ → List (List ℕ) → Result Bytes ℕ
bytes_after done line left [] = if left == 0 then Ok (record { bytes = done; behind = line }) else Err line
bytes_after done line left (this ∷ below) =
    if left == 0 then Ok (record { bytes = done; behind = line })
    else (or_line line (bytes_on (on_line left) this) >>= λ more.
    bytes_after (done ++ more) (line + 1) (left - on_line left) below)

-- ---- the core

-- the line of the byte at a place, where the first line of bytes has this number; or the line behind the text
unfoldable pub line_of : ℕ → Bytes → ℕ → ℕ
line_of first b at = if nat_lt at (length b.bytes) then first + at / line_bytes else b.behind

-- the bytes, where they are those of a core; else the line with the byte at which reading them stops
abbrev pub if_core : ℕ → Bytes → Result CoreWords CoreFault → Result (List ℕ) ℕ
if_core first b (Ok words) = Ok b.bytes
if_core first b (Err (Short at)) = Err (line_of first b at)
if_core first b (Err (Bad at)) = Err (line_of first b at)
if_core first b (Err NoMemory) = Err b.behind

-- the bytes of the core whose text lines begin with, or the first line that is damaged
unfoldable pub core_in : ℕ → List (List ℕ) → Result (List ℕ) ℕ
core_in line [] = Err line
core_in line (first ∷ below) =
    or_line line (size_in first) >>= λ size.
    bytes_after [] (line + 1) size below >>= λ b.
    if_core (line + 1) b (core_read b.bytes)

-- the same of a text
unfoldable pub core_of : ℕ → List ℕ → Result (List ℕ) ℕ
core_of line text = core_in line (lines_of text)

-- ---- what reading answers

-- what was read, unless memory ran out
abbrev pub Stops : {Y : Type 0} → CoreTextRefusal → Result Y ℕ → Type 0
Stops refusal.NoMemory read = Unit {0}
Stops (refusal.Line line) read = read ≡ Err line

abbrev pub Answers : {X Y : Type 0} → (X → Y) → Result X CoreTextRefusal → Result Y ℕ → Type 0
Answers view (Ok x) read = read ≡ Ok (view x)
Answers view (Err e) read = Stops e read
