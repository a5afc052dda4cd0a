use Rattle.std.specs.Prelude.{◌≡◌, ◌≢◌, ◌⊎◌, ℕ, Bool, true, false, List, [], Option, IfSome, IfOk, length}
use Rattle.pr_ends.specs.Ends.{Ends}
use Rattle.pr_ends.specs.Inputs.{Took}
use Rattle.pr_io.specs.Faults.{Rose}
use Rattle.pr_io.specs.Reading.{Came, CameWithin}
use Rattle.pr_judge.specs.Judgements.{Judges}
use Rattle.pr_model.specs.declared.events.Entry.{Entry}
use Rattle.pr_model.specs.declared.tools.ToolKind.{ToolKind}
use Rattle.pr_num.specs.Limits.{checked_limit, scenario_limit}
use Rattle.pr_run_laws.specs.Prefixes.{IsPrefix}
use Rattle.pr_run_laws.specs.ScenarioRuns.{first_state_of, first_world, run_of}
use Rattle.pr_scen.specs.Scenarios.{Scenario}
use Rattle.pr_world.specs.Runs.{LedFrom}
use Rattle.pr_commands.specs.Answers.{Answer, CommandText, MayAnswer, MayShowCore, ShowsEnd, answer_to, check_of, explained, generated, judged, plain_shown, run_text_of}
use Rattle.pr_commands.specs.Checks.{checked_of_input}
use Rattle.pr_commands.specs.CoreInputs.{core_limit}
use Rattle.pr_commands.specs.Ends.{EndsAs}
use Rattle.pr_commands.specs.Giving.{IsGiven, IsCutShort, RanOutLate, Responds}
use Rattle.pr_commands.specs.Histories.{IsLedTo, Making, RanOutEarly, by_threads, in_rounds, no_run}
use Rattle.pr_commands.specs.Inputs.{scenario_of_input, taken_of}
use Rattle.pr_commands.specs.Statuses.{IsWhole, number}
use Rattle.pr_output.specs.declared.runs.Showing.{Showing}
use Rattle.pr_commands.specs.declared.commands.Work.{Work}
use Rattle.pr_commands.specs.declared.commands.Work.TheVariants.{Checks, Explains, Generates, Runs, Shares, ShowsCore, Strips}
use Rattle.pr_commands.specs.declared.outcomes.Status.{Status}
use Rattle.pr_commands.specs.declared.outcomes.Status.TheVariants.{ReadFailed, WriteFailed, OutOfMemory}

-- What each command does, a row for each, and how a call of it ends.

-- A command says the same whatever the input is: it reads nothing and takes no memory. Or it reads an input, up to a
-- limit, and answers it; where it makes a run, that is left as far as it was made where memory ran out. Or it reads a
-- scenario and makes its run on several threads: what they may answer is then not one answer. Or it reads programs and
-- a core, and a tool shows the core.
pub data Row : Type 0 where
  says : Answer → Row
  reads : ℕ → (Option (List ℕ) → Answer) → Making → Row
  shares : Showing → Row
  shows_core : ToolKind → Row

unfoldable pub row_of : Work → Row
row_of Explains = says explained
row_of (Generates children) = says (generated children)
row_of (Runs showing) = reads scenario_limit (answer_to (run_text_of showing)) in_rounds
row_of (Shares showing workers) = shares showing
row_of Strips = reads scenario_limit (answer_to plain_shown) in_rounds
row_of Checks = reads checked_limit check_of no_run
row_of (ShowsCore kind) = shows_core kind

-- how a command of a row makes a run
abbrev pub making_in : Row → Making
making_in (says answer) = no_run
making_in (reads limit answer making) = making
making_in (shares showing) = by_threads
making_in (shows_core kind) = no_run

abbrev pub making_of : Work → Making
making_of work = making_in (row_of work)

-- whether a command of a row leaves the source alone
abbrev pub is_unread : Row → Bool
is_unread (says answer) = true
is_unread (reads limit answer making) = false
is_unread (shares showing) = false
is_unread (shows_core kind) = false

abbrev pub reads_nothing : Work → Bool
reads_nothing work = is_unread (row_of work)

-- ---- a command that reads nothing

pub record Says (answer : Answer) (old new : Ends) (status : Status) (history : List Entry) : Type 0 where
  pub responds : Responds answer ⊥ status history old.written new.written old.write_faults new.write_faults
  pub had_memory : status ≢ OutOfMemory
  pub no_history : history ≡ []
  pub unread : new.left ≡ old.left
  pub no_read_fault : new.read_faults ≡ old.read_faults

-- ---- a command that reads an input

-- the one answer of a command that is a function of the input
abbrev pub IsThe : (Option (List ℕ) → Answer) → Option (List ℕ) → Answer → Type 0
IsThe answer input given = given ≡ answer input

-- One of the answers that may come was given whole.
pub record GivesOne (May : Answer → Type 0) (status : Status) (history : List Entry)
    (old new : Option (List ℕ)) : Type 0 where
  pub answer : Answer
  pub may : May answer
  pub given : IsGiven answer status history old new

-- Where nothing failed: an answer to what was read was given whole.
pub record Answered (limit : ℕ) (May : Option (List ℕ) → Answer → Type 0) (old new : Ends) (status : Status)
    (history : List Entry) : Type 0 where
  pub input : Option (List ℕ)
  pub took : Took limit old.left new.left input
  pub gives : GivesOne (May input) status history old.written new.written

-- Where a write failed.
pub record CutShort (limit : ℕ) (May : Option (List ℕ) → Answer → Type 0) (old new : Ends)
    (history : List Entry) : Type 0 where
  pub input : Option (List ℕ)
  pub took : Took limit old.left new.left input
  pub answer : Answer
  pub may : May input answer
  pub cut : IsCutShort answer history old.written new.written

-- Nothing was written, and there is no history.
pub record LeftNothing (old new : Ends) (history : List Entry) : Type 0 where
  pub no_history : history ≡ []
  pub unwritten : new.written ≡ old.written

-- Where memory ran out in the reading: some bytes came, and the others are left.
pub record RanOutReading (old new : Ends) (history : List Entry) : Type 0 where
  pub nothing : LeftNothing old new history
  pub came : Came old.left new.left

-- Memory ran out while the text of one of the answers that may come was written.
pub record OneRanOut (May : Answer → Type 0) (history : List Entry) (old new : Option (List ℕ)) : Type 0 where
  pub answer : Answer
  pub may : May answer
  pub ran_out : RanOutLate answer history old new

-- Where memory ran out after the reading: before the text was begun, or while it was written.
pub record RanOutAfter (limit : ℕ) (May : Option (List ℕ) → Answer → Type 0) (making : Making) (old new : Ends)
    (history : List Entry) : Type 0 where
  pub input : Option (List ℕ)
  pub took : Took limit old.left new.left input
  pub ran_out : RanOutEarly making input history old.written new.written
      ⊎ OneRanOut (May input) history old.written new.written

-- How it ends, where these are the answers that may come to an input. Where nothing failed, one to what was read was
-- given; and where the bytes that were left are known, one to them. A read failed: no more bytes than the limit came,
-- and the others are left; nothing was written, and there is no history. A write failed: the history is that of an
-- answer, and a prefix of its text was written. Memory ran out in the reading, or after it. Only a read that failed
-- raises the count of the source, and only a write that failed that of the sink.
pub record Reads (limit : ℕ) (May : Option (List ℕ) → Answer → Type 0) (making : Making) (old new : Ends)
    (status : Status) (history : List Entry) : Type 0 where
  pub answered : IsWhole status → Answered limit May old new status history
  pub answers : IsWhole status
      → IfSome old.left (λ left. GivesOne (May (taken_of limit left)) status history old.written new.written)
  pub not_read : status ≡ ReadFailed → LeftNothing old new history
  pub read_within : status ≡ ReadFailed → CameWithin limit old.left new.left
  pub read_failed : status ≡ ReadFailed → Rose old.read_faults new.read_faults
  pub cut : status ≡ WriteFailed → CutShort limit May old new history
  pub write_failed : status ≡ WriteFailed → Rose old.write_faults new.write_faults
  pub memory : status ≡ OutOfMemory → RanOutReading old new history ⊎ RanOutAfter limit May making old new history
  pub no_read_fault : status ≢ ReadFailed → new.read_faults ≡ old.read_faults
  pub no_write_fault : status ≢ WriteFailed → new.write_faults ≡ old.write_faults

-- ---- each command

-- How a call ends whose command has this row. Of one that answers by a function of the input, status, history and text
-- are that function of the bytes that were left, where these are known.
abbrev pub EndsBy : Row → Ends → Ends → Status → List Entry → Type 0
EndsBy (says answer) old new status history = Says answer old new status history
EndsBy (reads limit answer making) old new status history = Reads limit (IsThe answer) making old new status history
EndsBy (shares showing) old new status history =
    Reads scenario_limit (MayAnswer showing) by_threads old new status history
EndsBy (shows_core kind) old new status history = Reads core_limit (MayShowCore kind) no_run old new status history

-- The history of a call is that of a world to which the first one of a scenario was led, and the status says how that
-- ended.
pub record EndsRun (s : Scenario) (status : Status) (history : List Entry) : Type 0 where
  pub led : IsLedTo s history
  pub ends : EndsAs s.turns led.world status

-- The run that an answer shows ended as the answer's status says, and this became of the answer.
pub record EndsUnsaid (showing : Showing) (s : Scenario) (history : List Entry)
    (Became : Answer → Type 0) : Type 0 where
  pub answer : Answer
  pub shows : ShowsEnd showing s answer
  pub ends : EndsRun s answer.status history
  pub became : Became answer

-- Nothing was written, and what was made of the run is left, or nothing. It begins the run of an answer that may come,
-- whose status says how that ended.
pub record WouldEnd (showing : Showing) (s : Scenario) (old new : Ends) (history : List Entry) : Type 0 where
  pub unwritten : new.written ≡ old.written
  pub answer : Answer
  pub shows : ShowsEnd showing s answer
  pub ends : EndsRun s answer.status answer.history
  pub begins : IsPrefix history answer.history

-- The status of an answer that was given whole says how the run ended that threads made, and so does that of the answer
-- itself where its text was cut short by a write that failed or for memory. Where memory ran out and no text was begun,
-- the run could have ended as the status of such an answer says.
pub record TellsEndOfOne (showing : Showing) (s : Scenario) (old new : Ends) (status : Status)
    (history : List Entry) : Type 0 where
  pub given : IsWhole status → EndsRun s status history
  pub cut : status ≡ WriteFailed
      → EndsUnsaid showing s history (λ answer. IsCutShort answer history old.written new.written)
  pub memory : status ≡ OutOfMemory → WouldEnd showing s old new history
      ⊎ EndsUnsaid showing s history (λ answer. RanOutLate answer history old.written new.written)

-- The judgement of a history was given: it is legal from the first state of the scenario, with its controllers, or this
-- entry is the first that is not.
pub record IsJudged (s : Scenario) (entries : List Entry) (old new : Ends) (status : Status)
    (history : List Entry) : Type 0 where
  pub first : Option ℕ
  pub judges : Judges (length s.controllers) (first_state_of s) entries first
  pub given : IsGiven (judged (length entries) first) status history old.written new.written

-- The status of an answer that was given whole says how the run of the scenario ended, and so does that of the answer
-- itself, also where its text was cut short by a write that failed or for memory, or never begun. The controllers whose
-- texts the answer shows are what the entries of the history have made of those of the scenario.
pub record TellsEnd (s : Scenario) (answer : Answer) (status : Status) : Type 0 where
  pub led : LedFrom (first_world s) (run_of s)
  pub given : IsWhole status → EndsAs s.turns (run_of s) status
  pub answered : EndsAs s.turns (run_of s) answer.status

-- An input that is a scenario: its run is made in rounds, and the status says how that ended.
abbrev pub EndsRounds : CommandText → Option (List ℕ) → Status → Type 0
EndsRounds text left status =
    IfSome left
    (λ input.
    IfOk (scenario_of_input (taken_of scenario_limit input))
    (λ scenario. TellsEnd scenario (answer_to text (taken_of scenario_limit input)) status))

-- What is done of an input, unless a read or a write failed or memory ran out: one that is a scenario is run, and the
-- status says how that ended; one that is a scenario and a history is judged.
abbrev pub DoesWork : Work → Ends → Ends → Status → List Entry → Type 0
DoesWork (Runs showing) old new status history = EndsRounds (run_text_of showing) old.left status
DoesWork Strips old new status history = EndsRounds plain_shown old.left status
DoesWork (Shares showing workers) old new status history =
    IfSome old.left (λ left. IfOk (scenario_of_input (taken_of scenario_limit left)) (λ scenario.
    TellsEndOfOne showing scenario old new status history))
DoesWork Checks old new status history =
    IfSome old.left
    (λ left.
    IfOk (checked_of_input (taken_of checked_limit left))
    (λ read. IsWhole status → IsJudged read.0 read.1 old new status history))
DoesWork _ old new status history = Unit {0}

-- How a call ends that does this work, by the number with which the process ends.
pub record EndsWith (work : Work) (old new : Ends) (code : ℕ) (history : List Entry) : Type 0 where
  pub status : Status
  pub code_is : code ≡ number status
  pub ends : EndsBy (row_of work) old new status history
  pub does_work : DoesWork work old new status history
