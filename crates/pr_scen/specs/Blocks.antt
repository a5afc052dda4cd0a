-- What one part of a text more makes of what was read, or the first of its lines that is refused.
use Rattle.std.specs.Prelude.{◌+◌, ℕ, List, [], ◌∷◌, length, nat_le, Result, Ok, Err, if◌then◌else◌}
use Rattle.pr_num.specs.Programs.{Program}
use Rattle.pr_asm.specs.Assembly.{program_in}
use Rattle.pr_asm.specs.Refusals.{AsmFault}
use Rattle.pr_asm.specs.declared.refusals.AsmKind.{AsmKind}
use Rattle.pr_asm.specs.declared.refusals.AsmKind.TheVariants as asm
use Rattle.pr_text.specs.Steps.{◌>>=◌, none, folded}
use Rattle.pr_text.specs.Words.{texts_of}
use Rattle.pr_scen.specs.Drafts.{with_item, may_begin, with_program, script_line_added, with_script}
use Rattle.pr_scen.specs.Items.{item_of}
use Rattle.pr_scen.specs.Lines.{readable}
use Rattle.pr_scen.specs.Parts.{Part, line, block, endless}
use Rattle.pr_scen.specs.ScriptLines.{script_line_of}
use Rattle.pr_scen.specs.declared.drafts.Draft.{Draft}
use Rattle.pr_scen.specs.declared.items.Item.{Item}
use Rattle.pr_scen.specs.declared.items.Item.TheVariants as item
use Rattle.pr_scen.specs.Refusals.{ScenFault}
use Rattle.pr_scen.specs.declared.refusals.ScenKind.{ScenKind}
use Rattle.pr_scen.specs.declared.refusals.ScenKind.TheVariants as kind

-- a kind with its line
abbrev pub numbered : {A : Type 0} → ℕ → Result A ScenKind → Result A ScenFault
numbered n (Ok x) = Ok x
numbered n (Err k) = Err (record { line = n; kind = k })

-- what a line outside blocks says
abbrev pub item_in : List ℕ → Result Item ScenKind
item_in this = readable this >>= λ _. item_of (texts_of this)

-- line n, outside blocks
unfoldable pub line_added : Draft → List ℕ → Result Draft ScenKind
line_added d this = item_in this >>= with_item d

-- a line that begins a block, and may
unfoldable pub begun : Draft → List ℕ → Result Item ScenKind
begun d this = item_in this >>= λ i. may_begin d i >>= λ _. Ok i

abbrev pub nothing_more : List (List ℕ) → Result (Unit {0}) ScenKind
nothing_more [] = Ok tt
nothing_more (first ∷ others) = none kind.BadOperand others

-- the line that ends a block has `end` alone
unfoldable pub ended : List ℕ → Result (Unit {0}) ScenKind
ended this = readable this >>= λ _. nothing_more (texts_of this)

-- ---- program blocks

-- the kinds of programs are kinds of scenarios
unfoldable pub kind_of : AsmKind → ScenKind
kind_of asm.UnknownWord = kind.UnknownWord
kind_of asm.BadOperand = kind.BadOperand
kind_of asm.UnknownName = kind.UnknownName
kind_of asm.Double = kind.Double
kind_of asm.TooBig = kind.TooBig

-- The first of these lines, which count from n, that cannot be read, if there is one.
unfoldable pub all_readable : ℕ → List (List ℕ) → Result (Unit {0}) ScenFault
all_readable n [] = Ok tt
all_readable n (this ∷ below) = numbered n (readable this) >>= λ _. all_readable (n + 1) below

-- What stands first: a line that cannot be read, or what the program's own language refuses. Of one line it is the
-- former.
abbrev pub first_of_both : Result (Unit {0}) ScenFault → Result Program AsmFault → Result Program ScenFault
first_of_both (Ok _) (Ok program) = Ok program
first_of_both (Ok _) (Err fault) = Err (record { line = fault.line; kind = kind_of fault.kind })
first_of_both (Err unreadable) (Ok program) = Err unreadable
first_of_both (Err unreadable) (Err fault) =
    if nat_le unreadable.line fault.line then Err unreadable else Err
    (record { line = fault.line; kind = kind_of fault.kind })

-- The program of the lines of a block, which count from n. A line that cannot be read places its name all the same.
unfoldable pub program_read : List ℕ → ℕ → List (List ℕ) → Result Program ScenFault
program_read name n body = first_of_both (all_readable n body) (program_in name body n)

-- the block of a program of this name, whose first line is n
unfoldable pub program_added : ℕ → Draft → List ℕ → List (List ℕ) → List ℕ → Result Draft ScenFault
program_added n d name body last = do
  program ← program_read name (n + 1) body
  _ ← numbered (n + (length body + 1)) (ended last)
  Ok (with_program d name program)

-- ---- script blocks

-- what a line of a script block makes of it
abbrev pub script_words_added : Draft → List ℕ → Result Draft ScenKind
script_words_added d this = readable this >>= λ _. script_line_of (texts_of this) >>= script_line_added d

-- the same, with the number of the line where it is refused
unfoldable pub script_line_read : ℕ → Draft → List ℕ → Result Draft ScenFault
script_line_read n d this = numbered n (script_words_added d this)

-- the block of a script, whose first line is n
unfoldable pub script_added : ℕ → Draft → List (List ℕ) → List ℕ → Result Draft ScenFault
script_added n d body last = do
  e ← folded script_line_read (n + 1) d body
  _ ← numbered (n + (length body + 1)) (ended last)
  Ok (with_script e)

-- ---- parts

-- the block that a line begins, by what that says
unfoldable pub block_added : ℕ → Draft → Item → List (List ℕ) → List ℕ → Result Draft ScenFault
block_added n d (item.Program name) body last = program_added n d name body last
block_added n d item.Script body last = script_added n d body last
block_added n d _ body last = Ok d

-- the first line of a block that has no end
abbrev pub endless_kind : Draft → List ℕ → Result Draft ScenKind
endless_kind d first = begun d first >>= λ _. Err kind.NoEnd

-- A part more, a row a part. The first line of a block without end is refused for that after its other kinds.
unfoldable pub part_added : Draft → Part → Result Draft ScenFault
part_added d (line n this) = numbered n (line_added d this)
part_added d (block n first body last) = numbered n (begun d first) >>= λ i. block_added n d i body last
part_added d (endless n first) = numbered n (endless_kind d first)

-- parts more, one after the other, or the first line that is refused
unfoldable pub parts_added : Draft → List Part → Result Draft ScenFault
parts_added d [] = Ok d
parts_added d (part ∷ parts) = part_added d part >>= λ e. parts_added e parts
