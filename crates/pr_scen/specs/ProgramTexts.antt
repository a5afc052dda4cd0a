-- Texts of programs alone: program blocks, comments, and lines without words.
use Rattle.std.specs.Prelude.{◌||◌, ℕ, Bool, true, List, [], ◌∷◌, codes, Result, Ok, Err, if◌then◌else◌}
use Rattle.std.specs.Str.{bytes_eq}
use Rattle.pr_num.specs.Programs.{Program}
use Rattle.pr_text.specs.Comments.{begins_comment}
use Rattle.pr_text.specs.Steps.{◌>>=◌}
use Rattle.pr_text.specs.TextLines.{lines_of}
use Rattle.pr_text.specs.Words.{texts_of}
use Rattle.pr_scen.specs.Blocks.{numbered, part_added}
use Rattle.pr_scen.specs.Drafts.{nothing}
use Rattle.pr_scen.specs.Lines.{readable}
use Rattle.pr_scen.specs.Parts.{Part, first_line_of, parts_of}
use Rattle.pr_scen.specs.declared.drafts.Draft.{Draft}
use Rattle.pr_scen.specs.Refusals.{ScenFault}
use Rattle.pr_scen.specs.declared.refusals.ScenKind.{ScenKind}
use Rattle.pr_scen.specs.declared.refusals.ScenKind.TheVariants.{UnknownWord}

-- whether a line with these words may begin a part: it has none, is a comment, or begins a program block
unfoldable pub may_stand : List (List ℕ) → Bool
may_stand [] = true
may_stand (first ∷ operands) = begins_comment first || bytes_eq first (codes "program")

-- The first word of any other line is unknown there. A line that cannot be read is refused for that first.
unfoldable pub admitted : List ℕ → Result (Unit {0}) ScenKind
admitted this = readable this >>= λ _. if may_stand (texts_of this) then Ok tt else Err UnknownWord

abbrev pub part_admitted : Part → Result (Unit {0}) ScenFault
part_admitted part = numbered (first_line_of part).0 (admitted (first_line_of part).1)

-- parts more, one after the other, or the first line that is refused
unfoldable pub program_parts_added : Draft → List Part → Result Draft ScenFault
program_parts_added d [] = Ok d
program_parts_added d (part ∷ parts) =
    part_admitted part >>= λ _. part_added d part >>= λ e. program_parts_added e parts

-- what the parts of lines make
unfoldable pub program_draft_in : List (List ℕ) → Result Draft ScenFault
program_draft_in lines = program_parts_added nothing (parts_of lines)

-- the programs of what was read, in the order of their blocks
abbrev pub programs_in : Draft → Result (List Program) ScenFault
programs_in d = Ok d.programs

-- the programs that a text spells, or its first line that is refused; lines count from 1
unfoldable pub programs_of : List ℕ → Result (List Program) ScenFault
programs_of text = program_draft_in (lines_of text) >>= programs_in
