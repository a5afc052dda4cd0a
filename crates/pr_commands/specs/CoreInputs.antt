use Rattle.std.specs.Prelude.{ℕ, List, Option, Some, None, Result, Err, take}
use Rattle.pr_core.specs.CoreBytes.{core_bytes}
use Rattle.pr_core.specs.Cores.{CoreState}
use Rattle.pr_core_text.specs.CoreTexts.{core_of}
use Rattle.pr_input.specs.Marks.{line_below, mark_place, text_below}
use Rattle.pr_input.specs.declared.marks.Mark.TheVariants.{Core}
use Rattle.pr_num.specs.Programs.{Program}
use Rattle.pr_scen.specs.ProgramTexts.{programs_of}
use Rattle.pr_scen.specs.declared.refusals.ScenKind.TheVariants.{NoEnd}
use Rattle.pr_commands.specs.Inputs.{too_long}
use Rattle.pr_commands.specs.Parts.{Gives, both_read, refused_as}
use Rattle.pr_commands.specs.declared.wrongs.Misread.{Misread}
use Rattle.pr_commands.specs.declared.wrongs.Wrong.{Wrong}
use Rattle.pr_commands.specs.declared.wrongs.Wrong.TheVariants as wrong

-- What the command `core` reads in an input: programs, the line `%core`, and the text of a core.

-- the most bytes that an input of `core` may have
abbrev pub core_limit : ℕ
core_limit = 4194304

-- programs, and the bytes of a core
abbrev pub ReadCore : Type 0
ReadCore = List Program × List ℕ

-- what an input says with the line `%core` at this place
unfoldable pub core_parts_at : List ℕ → ℕ → Result ReadCore Wrong
core_parts_at text place =
    both_read wrong.Core (programs_of (take place text)) (core_of (line_below text place) (text_below Core text place))

-- The programs and the core of an input; or the first line that is refused. The line `%core` is missing: that is said
-- of the whole input, for which line 0 stands, whatever its lines are.
unfoldable pub core_input_of : List ℕ → Result ReadCore Wrong
core_input_of text = by (mark_place Core core_limit text)
  where
    by : Option ℕ → Result ReadCore Wrong
    by (Some place) = core_parts_at text place
    by None = Err (wrong.Scenario (record { line = 0; kind = NoEnd }))

-- the same of an input; none: it had more bytes than it may have
unfoldable pub core_of_input : Option (List ℕ) → Result ReadCore Wrong
core_of_input None = Err (wrong.Scenario too_long)
core_of_input (Some input) = core_input_of input

-- what a function that reads a core answers
abbrev pub ReadsCore : Result CoreState Misread → Result (List ℕ) ℕ → Type 0
ReadsCore result read = Gives (λ core. core_bytes core) result (refused_as wrong.Core read)
