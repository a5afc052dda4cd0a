-- The source lines of the instructions of a scenario's programs.
use Rattle.std.specs.Prelude.{◌≡◌, ℕ, ◌+◌, ◌-◌, Bool, true, false, Option, Some, None, List, [], ◌∷◌, ◌++◌, Result, Ok, codes, drop, length, map, option_and_then, slice_get, take, if◌then◌else◌}
use Rattle.std.specs.Result.{result_ok}
use Rattle.pr_asm.specs.Assembly.{filled}
use Rattle.pr_asm.specs.Placing.{place_in}
use Rattle.pr_asm.specs.Statements.{statement_of}
use Rattle.pr_asm.specs.declared.places.Place.{Place}
use Rattle.pr_asm.specs.declared.refusals.AsmKind.{AsmKind}
use Rattle.pr_asm.specs.declared.statements.Statement.{Statement}
use Rattle.pr_asm.specs.declared.statements.Statement.TheVariants.{Code}
use Rattle.pr_hist.specs.Listings.{Listing}
use Rattle.pr_hist.specs.Names.{Names}
use Rattle.pr_hist.specs.News.{known_at_start}
use Rattle.pr_num.specs.Programs.{Program as ProgramOf}
use Rattle.pr_num.specs.declared.instructions.Instruction.{Instruction}
use Rattle.pr_scen.specs.Blocks.{item_in, program_read}
use Rattle.pr_scen.specs.Lines.{first_is, is_end}
use Rattle.pr_scen.specs.Scenarios.{Scenario}
use Rattle.pr_scen.specs.declared.items.Item.TheVariants as item
use Rattle.pr_text.specs.TextLines.{lines_of}
use Rattle.pr_text.specs.Words.{texts_of}
use Rattle.phist.specs.declared.sources.Block.{Block}
use Rattle.phist.specs.declared.sources.Block.TheVariants.{Outside, Program, Script}

-- the block that a line outside of blocks begins, if it does, and a block after a line of it
abbrev pub block_begun : List ℕ → Block
block_begun this =
    if first_is (codes "program") (texts_of this) then Program
    else (if first_is (codes "script") (texts_of this) then Script else Outside)

abbrev pub inside_or_out : Block → List ℕ → Block
inside_or_out block this = if is_end this then Outside else block

-- the block in which the next line stands, where a line stands in this one
unfoldable pub block_after : Block → List ℕ → Block
block_after Outside this = block_begun this
block_after Program this = inside_or_out Program this
block_after Script this = inside_or_out Script this

-- whether a line of a program is an instruction
abbrev pub is_code_of : Result Statement AsmKind → Bool
is_code_of (Ok (Code instruction name)) = true
is_code_of _ = false

unfoldable pub is_code : List ℕ → Bool
is_code this = is_code_of (statement_of this)

-- the numbers of lines with that of line n, where it is an instruction of a program
unfoldable pub code_after : Block → ℕ → List ℕ → List ℕ → List ℕ
code_after Program n this numbers = if is_code this then numbers ++ n ∷ [] else numbers
code_after _ n this numbers = numbers

-- the numbers with those of lines that count from n, of which the first stands in this block
unfoldable pub code_from : ℕ → Block → List ℕ → List (List ℕ) → List ℕ
code_from n block numbers [] = numbers
code_from n block numbers (this ∷ below) =
    code_from (n + 1) (block_after block this) (code_after block n this numbers) below

-- the lines of all instructions of programs, in their order; lines count from 1
abbrev pub code_lines : List ℕ → List ℕ
code_lines text = code_from 1 Outside [] (lines_of text)

-- a program with the lines of its instructions, which are the first of these
abbrev pub listing_of : ProgramOf → List ℕ → Listing
listing_of p numbers = record { program = p; lines = take (length p.code) numbers }

-- programs with the lines of their instructions, which stand one after another in these
unfoldable pub listings_of : List ProgramOf → List ℕ → List Listing
listings_of [] numbers = []
listings_of (p ∷ ps) numbers = listing_of p numbers ∷ listings_of ps (drop (length p.code) numbers)

-- what a scenario tells before the first entry of its history, where it was read from this text
unfoldable pub names_of : Scenario → List ℕ → Names
names_of s text = known_at_start (listings_of s.programs (code_lines text)) s.spawns

-- ---- the lines of a program are its own

-- the numbers of those of these lines that are instructions; they count from n
unfoldable pub code_numbers : ℕ → List (List ℕ) → List ℕ
code_numbers n [] = []
code_numbers n (this ∷ below) =
    if is_code this then n ∷ code_numbers (n + 1) below else code_numbers (n + 1) below

-- where the names stand of a program whose lines these are, which count from n
abbrev pub names_in : ℕ → List (List ℕ) → List ℕ → Option Place
names_in n body = place_in n (map statement_of body)

-- the instruction that a line is, where names stand in these places
abbrev pub instruction_by : (List ℕ → Option Place) → Result Statement AsmKind → Option Instruction
instruction_by place_of (Ok (Code i name)) = result_ok (filled place_of i name)
instruction_by place_of _ = None

abbrev pub instruction_in : (List ℕ → Option Place) → List ℕ → Option Instruction
instruction_in place_of this = instruction_by place_of (statement_of this)

-- the one that line n of a text is
abbrev pub instruction_at : (List ℕ → Option Place) → List (List ℕ) → ℕ → Option Instruction
instruction_at place_of lines n = option_and_then (instruction_in place_of) (slice_get lines (n - 1))

-- A program has its own lines in a text of these lines. Its block stands there, behind the line `program NAME`, and is
-- what the program was read from. Its lines are those of the block that are instructions, all of them and in their
-- order; and each is, with the names of the block, the instruction of its place.
pub record HasItsLines (text : List (List ℕ)) (l : Listing) : Type 0 where
  pub above : List (List ℕ)
  pub first : List ℕ
  pub body : List (List ℕ)
  pub below : List (List ℕ)
  pub stands : text ≡ above ++ first ∷ (body ++ below)
  pub name : List ℕ
  pub begins : item_in first ≡ Ok (item.Program name)
  pub read : program_read name (length above + 2) body ≡ Ok l.program
  pub numbers : l.lines ≡ code_numbers (length above + 2) body
  pub each : map (instruction_at (names_in (length above + 2) body) text) l.lines ≡ map Some l.program.code
