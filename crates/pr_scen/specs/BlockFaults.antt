-- The line of a block that is refused: of several it is the least.
use Rattle.std.specs.Prelude.{◌≡◌, ◌⊎◌, ◌+◌, ℕ, Option, List, [], ◌∷◌, ◌++◌, length, map, Result, Ok, Err}
use Rattle.pr_num.specs.Programs.{Program}
use Rattle.pr_asm.specs.Assembly.{with_lines, read_added}
use Rattle.pr_asm.specs.Limits.{program}
use Rattle.pr_asm.specs.Placing.{place_in}
use Rattle.pr_asm.specs.Statements.{statement_of}
use Rattle.pr_asm.specs.declared.places.Place.{Place}
use Rattle.pr_asm.specs.declared.refusals.AsmKind.{AsmKind}
use Rattle.pr_text.specs.Steps.{◌>>=◌, folded}
use Rattle.pr_scen.specs.Blocks.{begun, ended, kind_of, all_readable, program_read, script_words_added, script_line_read}
use Rattle.pr_scen.specs.Lines.{readable}
use Rattle.pr_scen.specs.declared.drafts.Draft.{Draft}
use Rattle.pr_scen.specs.declared.items.Item.TheVariants as item
use Rattle.pr_scen.specs.Refusals.{ScenFault}
use Rattle.pr_scen.specs.declared.refusals.ScenKind.{ScenKind}

-- ---- lines of programs

-- a kind of programs as a kind of scenarios
abbrev pub with_kind : Result Program AsmKind → Result Program ScenKind
with_kind (Ok p) = Ok p
with_kind (Err k) = Err (kind_of k)

-- line n of a program block below a program: it is read, and then its statement follows
abbrev pub program_line : (List ℕ → Option Place) → ℕ → Program → List ℕ → Result Program ScenKind
program_line place_of n p this = readable this >>= λ _. with_kind (read_added place_of n p (statement_of this))

-- Of these lines, which count from n and stand below a program, one is the least that is refused: those above it can be
-- read and make a program, which it cannot follow.
pub record StopsBelow (place_of : List ℕ → Option Place) (n : ℕ) (p : Program) (lines : List (List ℕ))
    (fault : ScenFault) : Type 0 where
  pub above : List (List ℕ)
  pub this : List ℕ
  pub below : List (List ℕ)
  pub made : Program
  pub whole : lines ≡ above ++ this ∷ below
  pub readable_above : all_readable n above ≡ Ok tt
  pub accepted : with_lines place_of n p (map statement_of above) ≡ Ok made
  pub at : fault.line ≡ n + length above
  pub refused : program_line place_of (n + length above) made this ≡ Err fault.kind

-- the least line of a program block that is refused; all lines of the block place their names
abbrev pub StopsInProgram : List ℕ → ℕ → List (List ℕ) → ScenFault → Type 0
StopsInProgram name n body fault = StopsBelow (place_in n (map statement_of body)) n (program name [] [] []) body fault

-- ---- lines of scripts

-- Of the lines of a script block, which count from n, one is the least that is refused: those above it are accepted,
-- one after another, and it cannot follow them.
pub record StopsInScript (d : Draft) (n : ℕ) (body : List (List ℕ)) (fault : ScenFault) : Type 0 where
  pub above : List (List ℕ)
  pub this : List ℕ
  pub below : List (List ℕ)
  pub read : Draft
  pub whole : body ≡ above ++ this ∷ below
  pub accepted : folded script_line_read n d above ≡ Ok read
  pub at : fault.line ≡ n + length above
  pub refused : script_words_added read this ≡ Err fault.kind

-- ---- blocks

-- the line that begins a block is refused
pub record StopsAtBegin (d : Draft) (n : ℕ) (first : List ℕ) (fault : ScenFault) : Type 0 where
  pub at : fault.line ≡ n
  pub refused : begun d first ≡ Err fault.kind

-- all is accepted but the line that ends the block, line n
pub record StopsAtEnd (n : ℕ) (last : List ℕ) (fault : ScenFault) : Type 0 where
  pub at : fault.line ≡ n
  pub refused : ended last ≡ Err fault.kind

-- all lines of a program block make a program
pub record MakeProgram (name : List ℕ) (n : ℕ) (body : List (List ℕ)) : Type 0 where
  pub made : Program
  pub accepted : program_read name n body ≡ Ok made

-- all lines of a script block are accepted
pub record MakeScript (d : Draft) (n : ℕ) (body : List (List ℕ)) : Type 0 where
  pub read : Draft
  pub accepted : folded script_line_read n d body ≡ Ok read

-- a program block: it may begin, and then a line of it is refused, or all make a program and its end is refused
pub record StopsProgram (d : Draft) (n : ℕ) (first : List ℕ) (body : List (List ℕ)) (last : List ℕ)
    (fault : ScenFault) : Type 0 where
  pub name : List ℕ
  pub begins : begun d first ≡ Ok (item.Program name)
  pub stops : StopsInProgram name (n + 1) body fault
      ⊎ (MakeProgram name (n + 1) body × StopsAtEnd (n + (length body + 1)) last fault)

-- a script block: the same
pub record StopsScript (d : Draft) (n : ℕ) (first : List ℕ) (body : List (List ℕ)) (last : List ℕ)
    (fault : ScenFault) : Type 0 where
  pub begins : begun d first ≡ Ok item.Script
  pub stops : StopsInScript d (n + 1) body fault
      ⊎ (MakeScript d (n + 1) body × StopsAtEnd (n + (length body + 1)) last fault)

-- the least line of a block that is refused, the first line of which is n
abbrev pub IsLeastInBlock : Draft → ℕ → List ℕ → List (List ℕ) → List ℕ → ScenFault → Type 0
IsLeastInBlock d n first body last fault =
    StopsAtBegin d n first fault ⊎ StopsProgram d n first body last fault ⊎ StopsScript d n first body last fault
