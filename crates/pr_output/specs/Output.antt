use Rattle.std.specs.Prelude.{◌≡◌, ℕ, List, [], ◌++◌, Option, codes, decimal, take}
use Rattle.pr_io.specs.Known.{with_end}
use Rattle.pr_model.specs.declared.events.Entry.{Entry}
use Rattle.pr_model.specs.declared.steps.Step.{Step}
use Rattle.pr_plain.specs.Histories.{history_text}
use Rattle.pr_plain.specs.HistoryText.{status_text}
use Rattle.pr_plain.specs.PlainText.{plain_text}
use Rattle.pr_output.specs.Reports.{reports_text}
use Rattle.pr_output.specs.declared.reports.Report.{Report}
use Rattle.pr_output.specs.declared.runs.Showing.{Showing}
use Rattle.pr_output.specs.declared.runs.Showing.TheVariants.{Whole, Quiet}

-- What the program writes.

-- a history, or nothing where it is left out
unfoldable pub shown_history : Showing → List Entry → List ℕ
shown_history Whole h = history_text h
shown_history Quiet h = []

-- a run: its history, or not where that is left out; what its controllers print; and the status with which the program
-- ends
unfoldable pub run_text : Showing → List Entry → List Report → ℕ → List ℕ
run_text showing h reports status = shown_history showing h ++ (reports_text reports ++ status_text status)

-- a run as the machine without controllers makes it: its steps, its trace, and the status with which the program ends
unfoldable pub plain_run_text : List Step → List Step → ℕ → List ℕ
plain_run_text steps trace status = plain_text steps trace ++ status_text status

-- an input that is refused: the first line at fault, and why
unfoldable pub refusal_text : ℕ → List ℕ → List ℕ
refusal_text line kind = codes "line " ++ (decimal line ++ (codes ": " ++ (kind ++ codes "\n")))

-- A prefix of a text was appended, or all of it.
pub record AppendsSome (old new : Option (List ℕ)) (text : List ℕ) : Type 0 where
  pub count : ℕ
  pub appended : new ≡ with_end old (take count text)
