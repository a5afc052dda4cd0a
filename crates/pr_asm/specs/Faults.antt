-- The first line of a program that is refused.
use Rattle.std.specs.Prelude.{◌≡◌, ◌+◌, ℕ, Some, List, [], take, slice_get, Ok, Err}
use Rattle.pr_num.specs.Programs.{Program}
use Rattle.pr_asm.specs.Refusals.{AsmFault}
use Rattle.pr_asm.specs.declared.refusals.AsmKind.{AsmKind}
use Rattle.pr_asm.specs.declared.statements.Statement.{Statement}
use Rattle.std.specs.Prelude.{Result, Option}
use Rattle.pr_asm.specs.declared.places.Place.{Place}
use Rattle.pr_asm.specs.Assembly.{with_lines, read_added, reads_of}
use Rattle.pr_asm.specs.Limits.{program}
use Rattle.pr_asm.specs.Placing.{place_in}

-- Of these lines, which count from `line` and stand below a program, one is the first that is refused: the lines above
-- it make a program with the first one, and below that it is refused for this kind.
pub record StopsAt (place_of : List ℕ → Option Place) (line : ℕ) (p : Program) (reads : List (Result Statement AsmKind))
    (fault : AsmFault) : Type 0 where
  pub index : ℕ
  pub read : Result Statement AsmKind
  pub above : Program
  pub here : slice_get reads index ≡ Some read
  pub numbered : fault.line ≡ line + index
  pub accepted : with_lines place_of line p (take index reads) ≡ Ok above
  pub refused : read_added place_of fault.line above read ≡ Err fault.kind

-- the first line of a text that is refused
abbrev pub IsFirstFault : List ℕ → List ℕ → ℕ → AsmFault → Type 0
IsFirstFault name text first fault =
    StopsAt (place_in first (reads_of text)) first (program name [] [] []) (reads_of text) fault
