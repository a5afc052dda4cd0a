-- Programs as a debugger shows them: an address in the text of a process by program, label and line of the source.
use Rattle.std.specs.Prelude.{ℕ, ◌==◌, ◌-◌, ◌/◌, Bool, List, [], ◌++◌, Option, Some, None, codes, decimal, nat_le, if◌then◌else◌}
use Rattle.std.specs.List.{position, slice_get}
use Rattle.std.specs.Str.{bytes_eq}
use Rattle.pr_asm.specs.Symbols.{symbol_at}
use Rattle.pr_num.specs.Layout.{text_base}
use Rattle.pr_num.specs.Limits.{instruction_size}
use Rattle.pr_num.specs.Programs.{Program}
use Rattle.pr_text.specs.Numerals.{hex_text}

-- a program, and the number of the line on which each of its instructions stands, in their order
pub record Listing : Type 0 where
  pub program : Program
  pub lines : List ℕ

-- the place of the listing of a program of this name, counted from 0
abbrev pub is_of_name : List ℕ → Listing → Bool
is_of_name name l = bytes_eq l.program.name name

unfoldable pub listed_at : List Listing → List ℕ → Option ℕ
listed_at listings name = position (is_of_name name) listings

-- the line of the instruction in which an address lies, where there is one
unfoldable pub line_at : Listing → ℕ → Option ℕ
line_at l at = if nat_le text_base at then slice_get l.lines ((at - text_base) / instruction_size) else None

-- how far an address lies past its label
unfoldable pub past_text : ℕ → List ℕ
past_text n = if n == 0 then [] else codes "+" ++ hex_text n

-- the last label at or below an address, behind the name of its program; nothing where there is none
abbrev pub label_text : Option (List ℕ × ℕ) → List ℕ
label_text None = []
label_text (Some s) = codes ":" ++ (s.0 ++ past_text s.1)

-- where an address on this line stands in its program
unfoldable pub source_text : Listing → ℕ → ℕ → List ℕ
source_text l at line =
    codes " (" ++ (l.program.name ++ (label_text (symbol_at l.program at)
    ++ (codes ", line " ++ (decimal line ++ codes ")"))))

abbrev pub source_or_none : Listing → ℕ → Option ℕ → List ℕ
source_or_none l at None = []
source_or_none l at (Some line) = source_text l at line

-- behind an address: where it stands in the program that its process runs; nothing where that is not known, or the
-- address lies in no instruction of it
unfoldable pub place_text : Option Listing → ℕ → List ℕ
place_text None at = []
place_text (Some l) at = source_or_none l at (line_at l at)
