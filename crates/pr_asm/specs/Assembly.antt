-- The program that statements make, and the first line that is refused.
use Rattle.std.specs.Prelude.{◌==◌, ◌+◌, ◌-◌, ℕ, Bool, false, Option, Some, None, List, [], ◌∷◌, ◌++◌, length, replicate, map, Result, Ok, Err, nat_lt, if◌then◌else◌}
use Rattle.pr_num.specs.Limits.{code_limit}
use Rattle.pr_num.specs.Programs.{Program}
use Rattle.pr_text.specs.TextLines.{lines_of}
use Rattle.pr_num.specs.declared.instructions.Instruction.{Instruction}
use Rattle.pr_num.specs.declared.instructions.Instruction.TheVariants.{Bpt, Nop, Set, Mov, Add, Sub, Mul, Div, Ld, St, Ldb, Stb, Jmp, Jz, Jnz, Jlt, Call, Ret, Sys}
use Rattle.pr_asm.specs.declared.places.Place.{Place}
use Rattle.pr_asm.specs.declared.layouts.Layout.{Layout}
use Rattle.pr_asm.specs.declared.statements.Statement.{Statement}
use Rattle.pr_asm.specs.declared.statements.Statement.TheVariants.{Blank, Label, Data, Code}
use Rattle.pr_asm.specs.Refusals.{AsmFault}
use Rattle.pr_asm.specs.declared.refusals.AsmKind.{AsmKind}
use Rattle.pr_asm.specs.declared.refusals.AsmKind.TheVariants.{UnknownName, Double, TooBig}
use Rattle.pr_asm.specs.Limits.{program}
use Rattle.pr_text.specs.Steps.{◌>>=◌, ok_or, folded}
use Rattle.pr_asm.specs.Placing.{aligned, has_room, place_in}
use Rattle.pr_asm.specs.Statements.{statement_of}

-- an instruction with another immediate, where it has one
unfoldable pub with_immediate : Instruction → ℕ → Instruction
with_immediate Bpt value = Bpt
with_immediate Nop value = Nop
with_immediate (Set a _) value = Set a value
with_immediate (Mov a b) value = Mov a b
with_immediate (Add a b) value = Add a b
with_immediate (Sub a b) value = Sub a b
with_immediate (Mul a b) value = Mul a b
with_immediate (Div a b) value = Div a b
with_immediate (Ld a b _) value = Ld a b value
with_immediate (St a b _) value = St a b value
with_immediate (Ldb a b _) value = Ldb a b value
with_immediate (Stb a b _) value = Stb a b value
with_immediate (Jmp _) value = Jmp value
with_immediate (Jz a _) value = Jz a value
with_immediate (Jnz a _) value = Jnz a value
with_immediate (Jlt a b _) value = Jlt a b value
with_immediate (Call _) value = Call value
with_immediate Ret value = Ret
with_immediate (Sys c) value = Sys c

-- an instruction with its immediate: the value of the name that stands there, if a name does
unfoldable pub filled : (List ℕ → Option Place) → Instruction → Option (List ℕ) → Result Instruction AsmKind
filled place_of i None = Ok i
filled place_of i (Some name) = ok_or UnknownName (place_of name) >>= λ place. Ok (with_immediate i place.value)

-- whether a place is on this line
abbrev pub is_at : ℕ → Option Place → Bool
is_at line None = false
is_at line (Some place) = place.line == line

-- whether a name is placed first on this line
unfoldable pub is_first : (List ℕ → Option Place) → ℕ → List ℕ → Bool
is_first place_of line name = is_at line (place_of name)

-- how much a program has
abbrev pub layout_of : Program → Layout
layout_of p = record { code = length p.code; bytes = length p.bytes }

-- A program with one thing more: a label below its instructions; data, from a multiple of 8 on; an instruction.
abbrev pub with_label : Program → List ℕ → Program
with_label p name = record p { labels = p.labels ++ record { name = name; place = length p.code } ∷ [] }

abbrev pub with_data : Program → List ℕ → ℕ → Program
with_data p bytes zeros =
    record p
    { bytes = p.bytes ++ replicate (aligned (length p.bytes) - length p.bytes) 0 ++ bytes ++ replicate zeros 0 }

abbrev pub with_code : Program → Instruction → Program
with_code p i = record p { code = p.code ++ i ∷ [] }

-- The same, or the kind for which it is refused. A name may be placed once; a limit may not be passed.
unfoldable pub label_added : (List ℕ → Option Place) → ℕ → Program → List ℕ → Result Program AsmKind
label_added place_of line p name = if is_first place_of line name then Ok (with_label p name) else Err Double

unfoldable pub data_added : (List ℕ → Option Place) → ℕ → Program → List ℕ → List ℕ → ℕ → Result Program AsmKind
data_added place_of line p name bytes zeros =
    if is_first place_of line name
    then (if has_room (length p.bytes) (length bytes) zeros then Ok (with_data p bytes zeros) else Err TooBig)
    else Err Double

unfoldable pub code_added : (List ℕ → Option Place) → Program → Instruction → Option (List ℕ) → Result Program AsmKind
code_added place_of p i name =
    filled place_of i name >>= λ j. if nat_lt (length p.code) code_limit then Ok (with_code p j) else Err TooBig

-- a program with one more statement, which stands on this line
unfoldable pub with_statement : (List ℕ → Option Place) → ℕ → Program → Statement → Result Program AsmKind
with_statement place_of line p Blank = Ok p
with_statement place_of line p (Label name) = label_added place_of line p name
with_statement place_of line p (Data name bytes zeros) = data_added place_of line p name bytes zeros
with_statement place_of line p (Code i name) = code_added place_of p i name

-- a program with what was read on one more line
abbrev pub read_added : (List ℕ → Option Place) → ℕ → Program → Result Statement AsmKind → Result Program AsmKind
read_added place_of line p read = read >>= with_statement place_of line p

-- a kind with its line
abbrev pub numbered : {A : Type 0} → ℕ → Result A AsmKind → Result A AsmFault
numbered line (Ok x) = Ok x
numbered line (Err kind) = Err (record { line = line; kind = kind })

-- a program with what was read on line n, or that line
abbrev pub read_added_at : (List ℕ → Option Place) → ℕ → Program → Result Statement AsmKind → Result Program AsmFault
read_added_at place_of line p read = numbered line (read_added place_of line p read)

-- A program with the statements of more lines, which count from `line`, or the first of these lines that is refused.
abbrev pub with_lines : (List ℕ → Option Place) → ℕ → Program → List (Result Statement AsmKind)
    → Result Program AsmFault
with_lines place_of line p reads = folded (read_added_at place_of) line p reads

-- what each line of a text says on its own
abbrev pub reads_of : List ℕ → List (Result Statement AsmKind)
reads_of text = map statement_of (lines_of text)

-- the program that lines make of which these were read
unfoldable pub assembled : List ℕ → ℕ → List (Result Statement AsmKind) → Result Program AsmFault
assembled name first reads = with_lines (place_in first reads) first (program name [] [] []) reads

-- The program of this name that lines spell, which count from `first`, or the first of them that is refused. First each
-- line is read on its own, then the names of the well formed lines are placed, and then the program is put together
-- line by line.
abbrev pub program_in : List ℕ → List (List ℕ) → ℕ → Result Program AsmFault
program_in name lines first = assembled name first (map statement_of lines)

-- the same of a text
abbrev pub program_of : List ℕ → List ℕ → ℕ → Result Program AsmFault
program_of name text first = program_in name (lines_of text) first
