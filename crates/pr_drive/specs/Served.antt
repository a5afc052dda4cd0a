use Rattle.std.specs.Prelude.{◌≡◌, ◌≢◌, ◌≤◌, ◌<◌, ◌+◌, ◌⊎◌, ℕ, Bool, true, false, List, [], ◌∷◌, ◌++◌, Option, Result}
use Rattle.std.specs.Prelude.{Ok, Err, codes, length, All}
use Rattle.std.specs.List.{flat_map}
use Rattle.std.specs.Str.{bytes_eq}
use Rattle.pr_ends.specs.Ends.{Ends}
use Rattle.pr_input.specs.Kinds.{kind_name}
use Rattle.pr_io.specs.Faults.{Rose}
use Rattle.pr_io.specs.Known.{with_end}
use Rattle.pr_io.specs.Writing.{AppendsFront}
use Rattle.pr_num.specs.Limits.{controller_limit, scenario_limit}
use Rattle.pr_output.specs.Output.{AppendsSome, refusal_text, run_text}
use Rattle.pr_output.specs.declared.runs.Showing.{Showing}
use Rattle.pr_run_laws.specs.ScenarioRuns.{controllers_of, first_state_of}
use Rattle.pr_scen.specs.Reading.{scenario_of}
use Rattle.pr_scen.specs.Refusals.{ScenFault}
use Rattle.pr_scen.specs.Scenarios.{Scenario}
use Rattle.pr_scen.specs.Scripts.{ScriptState}
use Rattle.pr_scen.specs.declared.refusals.ScenKind.{ScenKind}
use Rattle.pr_scen.specs.declared.refusals.ScenKind.TheVariants.{NoEnd, TooLong, TooMany}
use Rattle.pr_text.specs.TextLines.{newline}
use Rattle.pr_drive.specs.Alone.{IsPartOfRun, OnlyLetOthers}
use Rattle.pr_drive.specs.Beside.{IsKeptBeside}
use Rattle.pr_drive.specs.Going.{SeatsState}
use Rattle.pr_drive.specs.Inputs.{Asked, AskedInVain, FoundEnd, Input, Took, from_start}
use Rattle.pr_actors.specs.Reports.{reports_from}
use Rattle.pr_drive.specs.Rounds.{FinishesRound, GoesBySchedule, RoundsState, first_controllers}
use Rattle.pr_drive.specs.Scripted.{AllSaid, IsUnnamed, with_script}
use Rattle.pr_drive.specs.Sessions.{AnsweredAll, AnsweredSome, AnsweredUnread, IsHistoryFrom, Stand}
use Rattle.pr_drive.specs.Starts.{first_seats}
use Rattle.pr_drive.specs.Statuses.{EndsAs, number}
use Rattle.pr_drive.specs.declared.readings.Above.{Above}
use Rattle.pr_drive.specs.declared.readings.Above.TheVariants as above
use Rattle.pr_drive.specs.declared.readings.Opening.{Opening}
use Rattle.pr_drive.specs.declared.readings.Opening.TheVariants as opening
use Rattle.pr_drive.specs.declared.commands.Work.{Work}
use Rattle.pr_drive.specs.declared.commands.Work.TheVariants.{Drives, Explains}
use Rattle.pr_drive.specs.declared.ends.Status.{Status}
use Rattle.pr_drive.specs.declared.ends.Status.TheVariants.{Usage, Refused, ReadFailed, WriteFailed, OutOfMemory}

-- What a call of the program does, from what its source has left to what its sink has got.

-- ---- the scenario

-- whether a line is the mark, between the scenario and the calls
abbrev pub is_mark : List ℕ → Bool
is_mark line = bytes_eq line (codes "%calls")

-- Lines were taken, one after another.
abbrev pub TookLines : List (List ℕ) → Input → Input → Type 0
TookLines [] old new = new ≡ old
TookLines (line ∷ lines) old new = (m : Input) × (Took line old m × TookLines lines m new)

-- lines as a text, each with its newline
abbrev pub text_of : List (List ℕ) → List ℕ
text_of lines = flat_map (λ line. line ++ newline ∷ []) lines

-- Lines above the mark were taken, of which none is the mark, and which a scenario may have.
pub record TookAbove (lines : List (List ℕ)) (old new : Input) : Type 0 where
  pub took : TookLines lines old new
  pub above : All (λ line. is_mark line ≡ false) lines
  pub within : length (text_of lines) ≤ scenario_limit

-- The text above the mark was taken, and the mark.
pub record TookText (text : List ℕ) (above : ℕ) (old new : Input) : Type 0 where
  pub lines : List (List ℕ)
  pub count : above ≡ length lines
  pub is : text ≡ text_of lines
  pub reached : Input
  pub took : TookAbove lines old reached
  pub last : List ℕ
  pub is_last : is_mark last ≡ true
  pub mark : Took last reached new

-- There is no mark, and no more above the end than a scenario may have.
pub record NoMark (old new : Input) : Type 0 where
  pub lines : List (List ℕ)
  pub reached : Input
  pub took : TookAbove lines old reached
  pub end : FoundEnd reached new

-- More stands above the mark than a scenario may have: the line that was taken last, which is not the mark, is the
-- first one for which it has no room.
pub record TooMuch (old new : Input) : Type 0 where
  pub lines : List (List ℕ)
  pub reached : Input
  pub took : TookAbove lines old reached
  pub last : List ℕ
  pub is_last : is_mark last ≡ false
  pub line : Took last reached new
  pub above : scenario_limit < length (text_of (lines ++ last ∷ []))

-- a refusal of the scenario as a whole
abbrev pub whole : ScenKind → ScenFault
whole kind = record { line = 0; kind = kind }

-- What is above the mark has too many bytes, or there is no mark.
abbrev pub WrongAbove : ScenKind → Input → Input → Type 0
WrongAbove NoEnd old new = NoMark old new
WrongAbove TooLong old new = TooMuch old new
WrongAbove _ old new = ⊥

-- What stands above the mark: a text of so many lines, or what is wrong with it.
abbrev pub IsAbove : Above → List ℕ → Input → Input → Type 0
IsAbove (above.Text count) text old new = TookText text count old new
IsAbove (above.Wrong kind) text old new = WrongAbove kind old new

-- Before the outside's first turn the actors of the schedule moved, and then the first round began at the controllers
-- and went by up to that turn.
pub record Begins (s : Scenario) (first : RoundsState) : Type 0 where
  pub followed : SeatsState
  pub schedule : GoesBySchedule s.schedule (first_seats s) followed
  pub round : FinishesRound 0 (record { seats = followed; place = first_controllers }) first

-- The scenario of a text, which has so many lines, was read, and the others have had their turn. So many lines stand
-- above the first one of the outside.
pub record OpenedText (text : List ℕ) (lines : ℕ) (above : ℕ) (first : RoundsState) : Type 0 where
  pub scenario : Scenario
  pub read : scenario_of text ≡ Ok scenario
  pub few : length scenario.controllers < controller_limit
  pub count : above ≡ lines + 1
  pub begins : Begins scenario first

-- Why a text is refused: it is no scenario, or has so many controllers that no place is left for one more.
abbrev pub RefusesText : Result Scenario ScenFault → ScenFault → Type 0
RefusesText (Err fault) given = given ≡ fault
RefusesText (Ok s) given = (given ≡ whole TooMany) × (controller_limit ≤ length s.controllers)

abbrev pub OpensText : List ℕ → ℕ → Opening → Type 0
OpensText text lines (opening.Session first above) = OpenedText text lines above first
OpensText text lines (opening.Refused fault) = RefusesText (scenario_of text) fault

-- The text above the mark was read so.
pub record Opened (above : ℕ) (first : RoundsState) (old new : Input) : Type 0 where
  pub text : List ℕ
  pub lines : ℕ
  pub took : TookText text lines old new
  pub opened : OpenedText text lines above first

pub record RefusedText (fault : ScenFault) (old new : Input) : Type 0 where
  pub text : List ℕ
  pub lines : ℕ
  pub took : TookText text lines old new
  pub refuses : RefusesText (scenario_of text) fault

pub record RefusedWhole (fault : ScenFault) (old new : Input) : Type 0 where
  pub kind : ScenKind
  pub wrong : WrongAbove kind old new
  pub is : fault ≡ whole kind

-- How a session opens: with the scenario, or that is refused.
abbrev pub OpensAs : Opening → Input → Input → Type 0
OpensAs (opening.Session first above) old new = Opened above first old new
OpensAs (opening.Refused fault) old new = RefusedText fault old new ⊎ RefusedWhole fault old new

-- ---- a session

-- what is written at the end of a session
abbrev pub end_text : Showing → SeatsState → Status → List ℕ
end_text showing s status =
    run_text showing s.kernel.history (reports_from s.kernel.state.system.programs 0 s.controllers) (number status)

-- The end of a session was told, which stands so.
pub record TellsEnd (showing : Showing) (s : SeatsState) (status : Status)
    (before after : Option (List ℕ)) : Type 0 where
  pub ends : EndsAs s status
  pub written : after ≡ with_end before (end_text showing s status)

-- A prefix of it was, or nothing.
pub record CutEnd (showing : Showing) (s : SeatsState) (before after : Option (List ℕ)) : Type 0 where
  pub status : Status
  pub ends : EndsAs s status
  pub written : AppendsSome before after (end_text showing s status)

abbrev pub CutsEnd : Showing → SeatsState → Option (List ℕ) → Option (List ℕ) → Type 0
CutsEnd showing s before after = (after ≡ before) ⊎ CutEnd showing s before after

-- Lines were answered from where a session stands, and its end was told. That much is left of the source.
pub record WasEnded (showing : Showing) (above : ℕ) (a : Stand) (left before after : Option (List ℕ))
    (status : Status) : Type 0 where
  pub end : Stand
  pub left_is : left ≡ end.input.left
  pub replies : Option (List ℕ)
  pub answered : AnsweredAll above a end before replies
  pub told : TellsEnd showing end.rounds.seats status replies after

-- Lines were answered, and the session was cut off in its end. So much is left of the source.
pub record CutBehind (showing : Showing) (above : ℕ) (a : Stand) (left before after : Option (List ℕ)) : Type 0 where
  pub end : Stand
  pub left_is : left ≡ end.input.left
  pub replies : Option (List ℕ)
  pub answered : AnsweredAll above a end before replies
  pub cut : CutsEnd showing end.rounds.seats replies after

abbrev pub WasCutOff : Showing → ℕ → Stand → Option (List ℕ) → Option (List ℕ) → Option (List ℕ) → Type 0
WasCutOff showing above a left before after = AnsweredSome above a left before after
    ⊎ CutBehind showing above a left before after

-- The refusal of a scenario was written.
pub record TellsRefusal (fault : ScenFault) (status : Status) (before after : Option (List ℕ)) : Type 0 where
  pub status_is : status ≡ Refused
  pub written : after ≡ with_end before (refusal_text fault.line (kind_name fault.kind))

-- The scenario was refused, and the refusal was written; nothing was read behind the line that showed it.
pub record WasRefused (old new : Ends) (status : Status) : Type 0 where
  pub fault : ScenFault
  pub input : Input
  pub refused : RefusedText fault (from_start old.left) input ⊎ RefusedWhole fault (from_start old.left) input
  pub left_is : new.left ≡ input.left
  pub told : TellsRefusal fault status old.written new.written

-- All lines of the outside were answered, and that much is left of the source: what was read behind the last line that
-- was taken is held at the end, and came with the end of that line.
pub record AnsweredLines (old : Ends) (left replies : Option (List ℕ)) (s : Scenario) (last : SeatsState) : Type 0 where
  pub above : ℕ
  pub begun : Stand
  pub opened : Opened above begun.rounds (from_start old.left) begun.input
  pub scenario_is : s ≡ opened.opened.scenario
  pub end : Stand
  pub last_is : last ≡ end.rounds.seats
  pub left_is : left ≡ end.input.left
  pub answered : AnsweredAll above begun end old.written replies
  pub history : IsHistoryFrom (first_state_of s) (controllers_of s) s.turns last
  pub kept : IsKeptBeside s last.kernel.history
  pub alone : OnlyLetOthers answered.exchanges → IsPartOfRun s last.kernel.history
  pub scripted : (script : ScriptState) → AllSaid answered.exchanges script → IsUnnamed s
      → IsPartOfRun (with_script script s) last.kernel.history

-- A session was written: the replies to its lines, and behind them its history, what the controllers print, and the
-- status, which says how it ended.
pub record WroteSession (showing : Showing) (old new : Ends) (status : Status) : Type 0 where
  pub scenario : Scenario
  pub last : SeatsState
  pub replies : Option (List ℕ)
  pub answered : AnsweredLines old new.left replies scenario last
  pub told : TellsEnd showing last status replies new.written

abbrev pub WasDriven : Showing → Ends → Ends → Status → Type 0
WasDriven showing old new status = WasRefused old new status ⊎ WroteSession showing old new status

-- ---- a session that is cut off

-- Lines above the mark were taken, and then a line was asked for; it is the mark where it was taken and more was done.
-- So much is left of the source.
pub record CutAbove (old : Input) (left : Option (List ℕ)) : Type 0 where
  pub lines : List (List ℕ)
  pub reached : Input
  pub took : TookAbove lines old reached
  pub asked : Asked reached left

-- Lines above the mark were taken, and then a read failed, before the end of the next line had come.
pub record UnreadAbove (old : Input) (left : Option (List ℕ)) : Type 0 where
  pub lines : List (List ℕ)
  pub reached : Input
  pub took : TookAbove lines old reached
  pub asked : AskedInVain reached left

-- before the first line of the outside
pub record CutBefore (old new : Ends) : Type 0 where
  pub above : CutAbove (from_start old.left) new.left
  pub unwritten : new.written ≡ old.written

-- while the refusal was written
pub record CutRefusal (old new : Ends) : Type 0 where
  pub fault : ScenFault
  pub input : Input
  pub refused : RefusedText fault (from_start old.left) input ⊎ RefusedWhole fault (from_start old.left) input
  pub left_is : new.left ≡ input.left
  pub written : AppendsSome old.written new.written (refusal_text fault.line (kind_name fault.kind))

-- while lines were answered
pub record CutInLines (old new : Ends) : Type 0 where
  pub above : ℕ
  pub begun : Stand
  pub opened : Opened above begun.rounds (from_start old.left) begun.input
  pub answered : AnsweredSome above begun new.left old.written new.written

-- while the end was told
pub record CutInEnd (showing : Showing) (old new : Ends) : Type 0 where
  pub scenario : Scenario
  pub last : SeatsState
  pub replies : Option (List ℕ)
  pub answered : AnsweredLines old new.left replies scenario last
  pub cut : CutsEnd showing last replies new.written

-- Nothing was written, or a prefix of what is written of a session; and what is left of the source.
abbrev pub WasCut : Showing → Ends → Ends → Type 0
WasCut showing old new = CutBefore old new ⊎ (CutRefusal old new ⊎ (CutInLines old new ⊎ CutInEnd showing old new))

-- ---- a read that failed

-- above the mark
pub record UnreadBefore (old new : Ends) : Type 0 where
  pub above : UnreadAbove (from_start old.left) new.left
  pub unwritten : new.written ≡ old.written

-- after lines of the outside: all replies to them had been written
pub record UnreadBehind (old new : Ends) : Type 0 where
  pub above : ℕ
  pub begun : Stand
  pub opened : Opened above begun.rounds (from_start old.left) begun.input
  pub answered : AnsweredUnread above begun new.left old.written new.written

-- A read failed before the end of a line had come, and what was written are the replies to the lines before: so that,
-- whenever more is read of the source than up to the end of a line, all that is to be written for those is written.
abbrev pub WasUnread : Ends → Ends → Type 0
WasUnread old new = UnreadBefore old new ⊎ UnreadBehind old new

-- Nothing failed.
pub record IsWhole (status : Status) : Type 0 where
  pub read : status ≢ ReadFailed
  pub wrote : status ≢ WriteFailed
  pub had_memory : status ≢ OutOfMemory

-- A session: it is told whole, or cut off; only a read that failed raises the count of the source, and only a write
-- that failed that of the sink.
pub record Drove (showing : Showing) (old new : Ends) (status : Status) : Type 0 where
  pub told : IsWhole status → WasDriven showing old new status
  pub read_cut : status ≡ ReadFailed → WasUnread old new
  pub read_failed : status ≡ ReadFailed → Rose old.read_faults new.read_faults
  pub write_cut : status ≡ WriteFailed → WasCut showing old new
  pub write_failed : status ≡ WriteFailed → Rose old.write_faults new.write_faults
  pub memory : status ≡ OutOfMemory → WasCut showing old new
  pub no_read_fault : status ≢ ReadFailed → new.read_faults ≡ old.read_faults
  pub no_write_fault : status ≢ WriteFailed → new.write_faults ≡ old.write_faults

-- ---- other words

-- how the program is called
abbrev pub usage_line : List ℕ
usage_line = codes "usage: pdrive [-q]\n"

-- The usage was told.
pub record WasExplained (old new : Ends) (status : Status) : Type 0 where
  pub told : status ≢ WriteFailed → (status ≡ Usage) × (new.written ≡ with_end old.written usage_line)
  pub cut : status ≡ WriteFailed → AppendsFront old.written new.written usage_line
  pub write_failed : status ≡ WriteFailed → Rose old.write_faults new.write_faults
  pub no_write_fault : status ≢ WriteFailed → new.write_faults ≡ old.write_faults
  pub read : status ≢ ReadFailed
  pub had_memory : status ≢ OutOfMemory
  pub unread : new.left ≡ old.left
  pub no_read_fault : new.read_faults ≡ old.read_faults

-- How a call ends, by its work.
abbrev pub EndsWith : Work → Ends → Ends → Status → Type 0
EndsWith Explains old new status = WasExplained old new status
EndsWith (Drives showing) old new status = Drove showing old new status
