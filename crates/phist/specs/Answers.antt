-- What the program answers to an input, where nothing fails.
use Rattle.std.specs.Prelude.{◌≡◌, ◌==◌, ◌⊎◌, ℕ, Bool, List, [], ◌++◌, Option, Some, None, Result, Ok, Err, codes, take, if◌then◌else◌}
use Rattle.std.specs.List.{starts_with}
use Rattle.pr_ends.specs.Inputs.{Took}
use Rattle.pr_hist.specs.Drawings.{chart_of}
use Rattle.pr_hist.specs.Entries.{text_of}
use Rattle.pr_hist.specs.Names.{Names}
use Rattle.pr_hist.specs.News.{nothing_known}
use Rattle.pr_hist.specs.Selections.{selected_text}
use Rattle.pr_hist.specs.Spellings.{bytes_of_line}
use Rattle.pr_input.specs.Kinds.{kind_name}
use Rattle.pr_input.specs.Marks.{line_below, mark_place, text_below}
use Rattle.pr_input.specs.declared.marks.Mark.TheVariants.{History}
use Rattle.pr_model.specs.declared.events.Entry.{Entry}
use Rattle.pr_num.specs.Limits.{scenario_limit}
use Rattle.pr_output.specs.Output.{refusal_text}
use Rattle.pr_plain.specs.EntryReading.{history_of}
use Rattle.pr_scen.specs.Reading.{scenario_of}
use Rattle.pr_scen.specs.Scenarios.{Scenario}
use Rattle.pr_scen.specs.Refusals.{ScenFault}
use Rattle.pr_text.specs.HexWords.{digits_of_bytes}
use Rattle.phist.specs.Sources.{names_of}
use Rattle.phist.specs.declared.statuses.Status.{Status}
use Rattle.phist.specs.declared.statuses.Status.TheVariants.{Done, Refused, Usage}
use Rattle.phist.specs.declared.words.Work.{Work}
use Rattle.phist.specs.declared.words.Work.TheVariants.{Tells, Selects, Draws, Spells, Explains}

-- the status, and what is written
pub record Answered : Type 0 where
  pub status : Status
  pub text : List ℕ

-- the input is refused, at a line for a reason
unfoldable pub refused_at : ℕ → List ℕ → Answered
refused_at line kind = record { status = Refused; text = refusal_text line kind }

-- what is shown of a history in words, before which this is known: all of it, or a part
unfoldable pub shown_text : Work → Names → List Entry → List ℕ
shown_text Tells names es = text_of names es
shown_text (Selects s) names es = selected_text s names es
shown_text (Draws c s) names es = []
shown_text (Spells line) names es = []
shown_text Explains names es = []

-- the history is shown in words
unfoldable pub in_words : Work → Names → List Entry → Answered
in_words work names es = record { status = Done; text = shown_text work names es }

-- it is drawn; or it has too many rows for that
unfoldable pub drawn_or : Option (List ℕ) → Answered
drawn_or None = record { status = Refused; text = codes "more than 5,000 entries: take a part by -n FROM-TO\n" }
drawn_or (Some text) = record { status = Done; text = text }

unfoldable pub shown : Work → Names → List Entry → Answered
shown (Draws c s) names es = drawn_or (chart_of c s names es)
shown work names es = in_words work names es

-- the answer to a history that was read, or to the first line that is wrong
abbrev pub answer_of : Work → Names → Result (List Entry) ℕ → Answered
answer_of work names (Err line) = refused_at line (codes "BadHistory")
answer_of work names (Ok es) = shown work names es

-- the answer to a history that stands alone
abbrev pub answer_alone : Work → List ℕ → Answered
answer_alone work text = answer_of work nothing_known (history_of 1 text)

-- The answer to a scenario, the line `%history` at this place, and a history: the scenario is read first. Lines count
-- on from the upper part to the lower.
abbrev pub answer_behind : Work → List ℕ → ℕ → Result Scenario ScenFault → Answered
answer_behind work text place (Err fault) = refused_at fault.line (kind_name fault.kind)
answer_behind work text place (Ok s) =
    answer_of work (names_of s (take place text)) (history_of (line_below text place) (text_below History text place))

unfoldable pub answer_at : Work → List ℕ → ℕ → Answered
answer_at work text place = answer_behind work text place (scenario_of (take place text))

abbrev pub answer_by : Work → List ℕ → Option ℕ → Answered
answer_by work text None = answer_alone work text
answer_by work text (Some place) = answer_at work text place

-- whether a text begins as a history does, which no scenario does
unfoldable pub begins_history : List ℕ → Bool
begins_history text = starts_with ◌==◌ text (codes "history ")

-- the answer to a text: to a history, or to a scenario and a history where that line is found
unfoldable pub answer_to_text : Work → List ℕ → Answered
answer_to_text work text =
    if begins_history text then answer_alone work text
    else answer_by work text (mark_place History scenario_limit text)

-- The answer to an input; none: it had more bytes than it may have, for which line 0 stands. The lines of the input
-- count from 1.
unfoldable pub answer_to : Work → Option (List ℕ) → Answered
answer_to work None = refused_at 0 (codes "TooLong")
answer_to work (Some text) = answer_to_text work text

-- The bytes that a line spells, in hex; or that it is neither an instruction nor a message.
unfoldable pub spelled_or : Option (List ℕ) → Answered
spelled_or None = record { status = Refused; text = codes "neither an instruction nor a control message\n" }
spelled_or (Some bytes) = record { status = Done; text = digits_of_bytes bytes ++ codes "\n" }

unfoldable pub spelled : List ℕ → Answered
spelled line = spelled_or (bytes_of_line line)

-- how the program is called
abbrev pub usage_line : List ℕ
usage_line = codes "usage: phist [lanes [-w WIDTH] | svg] [-v] [-p PID | -c K | -l P/L] [-n FROM-TO] | bytes TEXT\n"

unfoldable pub explained : Answered
explained = record { status = Usage; text = usage_line }

-- The answer to what was read.
pub record Answers (work : Work) (limit : ℕ) (old new : Option (List ℕ)) (answer : Answered) : Type 0 where
  pub input : Option (List ℕ)
  pub took : Took limit old new input
  pub is : answer ≡ answer_to work input

-- the status of an answer to an input
abbrev pub IsAnswerStatus : Status → Type 0
IsAnswerStatus status = (status ≡ Done) ⊎ (status ≡ Refused)
