use Rattle.std.specs.Prelude.{◌≡◌, ◌≤◌, ℕ, false, List, [], ◌++◌, Option, Some, None, Result, Ok, Err, codes, decimal, length}
use Rattle.pr_core.specs.CoreBytes.{core_bytes}
use Rattle.pr_core.specs.CoreRanges.{IsCore}
use Rattle.pr_core.specs.CoreTools.{tool_over_core}
use Rattle.pr_core.specs.Cores.{CoreState}
use Rattle.pr_input.specs.Kinds.{kind_name}
use Rattle.pr_hidden.specs.Hiders.{Hiders}
use Rattle.pr_hidden.specs.HiddenSteps.{hidden_steps, hidden_trace}
use Rattle.pr_judge.specs.Judgements.{first_illegal}
use Rattle.pr_model.specs.State.{TracedState}
use Rattle.pr_model.specs.UntracedSteps.{untraced_steps, untraced_trace}
use Rattle.pr_model.specs.declared.events.Entry.{Entry}
use Rattle.pr_model.specs.declared.tools.ToolKind.{ToolKind}
use Rattle.pr_num.specs.Programs.{Program}
use Rattle.pr_output.specs.Output.{plain_run_text, refusal_text, run_text}
use Rattle.pr_plain.specs.Generated.{generated_text}
use Rattle.pr_run_laws.specs.ScenarioRuns.{first_state_of, first_world, run_of}
use Rattle.pr_scen.specs.Refusals.{ScenFault}
use Rattle.pr_scen.specs.Scenarios.{Scenario}
use Rattle.pr_world.specs.Runs.{CameFrom, TellsMachine}
use Rattle.pr_world.specs.Worlds.{WorldState, end_of, goes_on}
use Rattle.pr_world.specs.declared.ends.End.{End}
use Rattle.pr_world.specs.declared.ends.End.TheVariants as end
use Rattle.pr_output.specs.declared.reports.Report.{Report}
use Rattle.pr_output.specs.declared.runs.Showing.{Showing}
use Rattle.pr_commands.specs.Checks.{checked_of_input}
use Rattle.pr_commands.specs.CoreInputs.{ReadCore, core_of_input}
use Rattle.pr_commands.specs.Hidings.{hiders_in}
use Rattle.pr_commands.specs.Inputs.{scenario_of_input}
use Rattle.pr_commands.specs.Reports.{reports_of}
use Rattle.pr_commands.specs.Statuses.{number}
use Rattle.pr_commands.specs.Usage.{usage_line}
use Rattle.pr_commands.specs.declared.wrongs.Wrong.{Wrong}
use Rattle.pr_commands.specs.declared.wrongs.Wrong.TheVariants as wrong
use Rattle.pr_commands.specs.declared.outcomes.Status.{Status}
use Rattle.pr_commands.specs.declared.outcomes.Status.TheVariants.{Done, Usage, Refused, Spent, Stuck, NotLegal}

-- What a command answers to an input, where nothing fails. It is a function of the input, but of a run on several
-- threads, of which there may be many.

-- the status, the history of the run, and what is written
pub record Answer : Type 0 where
  pub status : Status
  pub history : List Entry
  pub text : List ℕ

abbrev pub bad_history : List ℕ
bad_history = codes "BadHistory"

abbrev pub bad_core : List ℕ
bad_core = codes "BadCore"

-- the input is refused, at a line for a reason
unfoldable pub refused_at : ℕ → List ℕ → Answer
refused_at line kind = record { status = Refused; history = []; text = refusal_text line kind }

-- The status of a run: done where no actor can move and all controllers have finished, stuck where no actor can move
-- and a controller has not, and spent where the history has all its entries and an actor could move still.
unfoldable pub end_status : End → Status
end_status end.Quiet = Done
end_status end.Spent = Spent
end_status end.Stuck = Stuck

-- ---- the commands `run` and `plain`

-- what is written of a run with this history and these reports that ended with this status
abbrev pub RunText : Type 0
RunText = List Entry → List Report → ℕ → List ℕ

-- what a command writes of the run of a scenario
abbrev pub CommandText : Type 0
CommandText = Scenario → RunText

-- what `run` writes, whatever the scenario is: the history, or not, the reports, and the status
abbrev pub run_text_of : Showing → CommandText
run_text_of showing s = run_text showing

-- what programs see of a run from this state, where these controllers hide what they do: the steps of its history and
-- its trace, each without what is hidden, and the status
unfoldable pub seen_shown : Hiders → TracedState → RunText
seen_shown who first history reports status =
    plain_run_text (hidden_steps who first history) (hidden_trace who first history) status

-- the same where nobody hides anything: all untraced steps of the history, its whole trace, and the status
unfoldable pub untraced_shown : RunText
untraced_shown history reports status = plain_run_text (untraced_steps history) (untraced_trace history) status

-- what `plain` writes: what programs see of the run of the scenario, of which controllers hide their breakpoints and
-- agents
abbrev pub plain_shown : CommandText
plain_shown s = seen_shown (hiders_in s) (first_state_of s)

-- a run that ended so with this history and these reports, of which this is written
unfoldable pub ran_so : RunText → End → List Entry → List Report → Answer
ran_so text end history reports = record {
  status = end_status end;
  history = history;
  text = text history reports (number (end_status end));
}

unfoldable pub ran : RunText → WorldState → Answer
ran text w = ran_so text (end_of w) w.kernel.history (reports_of w)

unfoldable pub answer_of : CommandText → Result Scenario ScenFault → Answer
answer_of text (Err fault) = refused_at fault.line (kind_name fault.kind)
answer_of text (Ok s) = ran (text s) (run_of s)

-- the answer to an input; none: it had more bytes than it may have
unfoldable pub answer_to : CommandText → Option (List ℕ) → Answer
answer_to text input = answer_of text (scenario_of_input input)

-- ---- the command `run` on several threads

-- A world in which a run of a scenario may have ended, in whatever order its actors moved: its kernel is that of a
-- machine, and no actor can move any more, or there is no place for an entry.
pub record IsEndOf (s : Scenario) (w : WorldState) : Type 0 where
  pub came : CameFrom (first_world s) w
  pub told : TellsMachine w
  pub over : goes_on w ≡ false
  pub within : length w.kernel.history ≤ w.kernel.places

-- what is written of one such world
pub record ShowsEnd (showing : Showing) (s : Scenario) (answer : Answer) : Type 0 where
  pub world : WorldState
  pub ends : IsEndOf s world
  pub is : answer ≡ ran (run_text showing) world

abbrev pub MayAnswerRead : Showing → Result Scenario ScenFault → Answer → Type 0
MayAnswerRead showing (Err fault) answer = answer ≡ refused_at fault.line (kind_name fault.kind)
MayAnswerRead showing (Ok s) answer = ShowsEnd showing s answer

-- whether this may be answered to an input; none: it had more bytes than it may have
abbrev pub MayAnswer : Showing → Option (List ℕ) → Answer → Type 0
MayAnswer showing input answer = MayAnswerRead showing (scenario_of_input input) answer

-- ---- the command `check`

-- the first entry of a history that is not legal from the first state of a scenario, with its controllers
unfoldable pub first_illegal_of : Scenario → List Entry → Option ℕ
first_illegal_of s history = first_illegal (length s.controllers) (first_state_of s) history

-- a status, and a number between two texts
abbrev pub said : Status → List ℕ → ℕ → List ℕ → Answer
said status before number behind = record { status = status; history = []; text = before ++ (decimal number ++ behind) }

-- what is said of a history of so many entries: it is legal; or this entry is the first that is not
unfoldable pub judged : ℕ → Option ℕ → Answer
judged entries None = said Done (codes "legal ") entries (codes "\n")
judged entries (Some place) = said NotLegal (codes "entry ") place (codes ": not legal\n")

-- what is said of a line that is refused
unfoldable pub refused_for : Wrong → Answer
refused_for (wrong.Scenario fault) = refused_at fault.line (kind_name fault.kind)
refused_for (wrong.History line) = refused_at line bad_history
refused_for (wrong.Core line) = refused_at line bad_core

unfoldable pub judgement_of : Result (Scenario × List Entry) Wrong → Answer
judgement_of (Err w) = refused_for w
judgement_of (Ok read) = judged (length read.1) (first_illegal_of read.0 read.1)

-- the answer to an input; none: it had more bytes than it may have
unfoldable pub check_of : Option (List ℕ) → Answer
check_of input = judgement_of (checked_of_input input)

-- ---- the command `core`

-- a text is written, and the work is done
abbrev pub text_written : List ℕ → Answer
text_written text = record { status = Done; history = []; text = text }

-- What is written of the core with these bytes: the text of a tool over it, with the labels of these programs. No other
-- core has its bytes.
pub record ShowsCore (kind : ToolKind) (programs : List Program) (bytes : List ℕ) (answer : Answer) : Type 0 where
  pub core : CoreState
  pub is_core : IsCore core
  pub spelled : core_bytes core ≡ bytes
  pub is : answer ≡ text_written (tool_over_core kind core programs)

abbrev pub MayShowRead : ToolKind → Result ReadCore Wrong → Answer → Type 0
MayShowRead kind (Err w) answer = answer ≡ refused_for w
MayShowRead kind (Ok read) answer = ShowsCore kind read.0 read.1 answer

-- whether this may be answered to an input; none: it had more bytes than it may have
abbrev pub MayShowCore : ToolKind → Option (List ℕ) → Answer → Type 0
MayShowCore kind input answer = MayShowRead kind (core_of_input input) answer

-- ---- the command `gen`

-- the scenario for so many children is written
unfoldable pub generated : ℕ → Answer
generated children = record { status = Done; history = []; text = generated_text children }

-- ---- other words

-- how the program is called
unfoldable pub explained : Answer
explained = record { status = Usage; history = []; text = usage_line }
