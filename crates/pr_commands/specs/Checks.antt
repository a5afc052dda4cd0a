use Rattle.std.specs.Prelude.{ℕ, List, Option, Some, None, Result, Err, length, nat_le, take, if◌then◌else◌}
use Rattle.pr_input.specs.Marks.{line_below, mark_place, text_below}
use Rattle.pr_input.specs.declared.marks.Mark.TheVariants.{History}
use Rattle.pr_model.specs.declared.events.Entry.{Entry}
use Rattle.pr_num.specs.Limits.{scenario_limit}
use Rattle.pr_plain.specs.EntryReading.{history_of}
use Rattle.pr_scen.specs.Reading.{scenario_of}
use Rattle.pr_scen.specs.Scenarios.{Scenario}
use Rattle.pr_scen.specs.declared.refusals.ScenKind.{ScenKind}
use Rattle.pr_scen.specs.declared.refusals.ScenKind.TheVariants.{NoEnd, TooLong}
use Rattle.pr_commands.specs.Inputs.{too_long}
use Rattle.pr_commands.specs.Parts.{both_read}
use Rattle.pr_commands.specs.declared.wrongs.Wrong.{Wrong}
use Rattle.pr_commands.specs.declared.wrongs.Wrong.TheVariants as wrong

-- What the command `check` reads in an input: a scenario, the line `%history`, and the history that is to be judged. No
-- more bytes stand above that line than a scenario may have.

-- what an input says with the line `%history` at this place
unfoldable pub parts_at : List ℕ → ℕ → Result (Scenario × List Entry) Wrong
parts_at text place =
    both_read wrong.History (scenario_of (take place text))
    (history_of (line_below text place) (text_below History text place))

-- An input without the line is all scenario: that is longer than a scenario may be, or the line is missing.
unfoldable pub unmarked : List ℕ → ScenKind
unmarked text = if nat_le (length text) scenario_limit then NoEnd else TooLong

-- The scenario and the history of an input; or the first line that is refused, where line 0 stands for the whole input.
unfoldable pub checked_of : List ℕ → Result (Scenario × List Entry) Wrong
checked_of text = by (mark_place History scenario_limit text)
  where
    by : Option ℕ → Result (Scenario × List Entry) Wrong
    by (Some place) = parts_at text place
    by None = Err (wrong.Scenario (record { line = 0; kind = unmarked text }))

-- the same of an input; none: it had more bytes than it may have
unfoldable pub checked_of_input : Option (List ℕ) → Result (Scenario × List Entry) Wrong
checked_of_input None = Err (wrong.Scenario too_long)
checked_of_input (Some input) = checked_of input
