use Rattle.std.specs.Prelude.{◌≡◌, ◌<◌, ◌⊎◌, ◌++◌, ◌&&◌, ℕ, zero, suc, Bool, true, false, List, [], ◌∷◌, Option, Some}
use Rattle.std.specs.Prelude.{None, codes, filter, is_some, length, map}
use Rattle.std.specs.List.{flat_map, range_with_len}
use Rattle.pr_asks.specs.Replies.{count_line, reply_line}
use Rattle.pr_asks.specs.declared.asks.Ask.{Ask}
use Rattle.pr_asks.specs.declared.asks.Ask.TheVariants as ask
use Rattle.pr_model.specs.Calls.{answer_to, is_interrupted, is_open_by, is_polled_ready}
use Rattle.pr_model.specs.declared.calls.Call.{Call}
use Rattle.pr_model.specs.declared.calls.Call.TheVariants.{Poll}
use Rattle.pr_model.specs.declared.events.Actor.{Actor}
use Rattle.pr_model.specs.declared.events.Entry.{Entry}
use Rattle.pr_num.specs.Limits.{handle_limit}
use Rattle.pr_plain.specs.HistoryText.{entries_text}
use Rattle.pr_scen.specs.Scripts.{ScriptState, fed, next_call_of}
use Rattle.pr_world.specs.Controllers.{wait_end_of}
use Rattle.pr_drive.specs.Going.{Called, Moved, NoneCanMove, SeatsState, Stayed, has_place, outside_of}
use Rattle.pr_drive.specs.Rounds.{AreStepsOn, FinishesRound, GoesRound, IsAtRest, RoundsState, after_step, after_steps}

-- What is done for the outside, and what is answered: a row for each thing that a line can ask for.

-- ---- calls

-- whether a call of the outside would be answered now, and there is a place for its entry
abbrev pub is_answered_now : Call → SeatsState → Bool
is_answered_now c s = has_place s && is_some (answer_to s.kernel.state (outside_of s) c)

-- So many rounds of the others went by, and before each of them the call was not answered: so none did where it is
-- answered at once.
abbrev pub WaitsFor : ℕ → Call → RoundsState → RoundsState → Type 0
WaitsFor zero c old new = new ≡ old
WaitsFor (suc n) c old new =
    (m : RoundsState) × (WaitsFor n c old m × ((is_answered_now c m.seats ≡ false) × GoesRound (wait_end_of c) m new))

-- The others moved until a call was ready, and it was made.
pub record Made (c : Call) (old new : RoundsState) : Type 0 where
  pub rounds : ℕ
  pub ready : RoundsState
  pub waits : WaitsFor rounds c old ready
  pub called : Called c ready.seats new.seats
  pub place : new.place ≡ ready.place

-- a call that is never answered: it is not ready, and none of the others can move; or there is no place for its entry
pub record IsNever (c : Call) (s : SeatsState) : Type 0 where
  pub cases : (has_place s ≡ false)
      ⊎ ((is_some (answer_to s.kernel.state (outside_of s) c) ≡ false) × NoneCanMove (wait_end_of c) s)

-- Others moved until that was so.
pub record GaveUp (c : Call) (old new : RoundsState) : Type 0 where
  pub rounds : ℕ
  pub last : RoundsState
  pub waits : WaitsFor rounds c old last
  pub rests : IsAtRest (wait_end_of c) last new
  pub never : IsNever c new.seats

abbrev pub CallsIf : Bool → Call → RoundsState → RoundsState → Type 0
CallsIf true c old new = Made c old new
CallsIf false c old new = GaveUp c old new

-- A call is ready, and there is a place for its entry.
pub record IsReady (c : Call) (s : SeatsState) : Type 0 where
  pub place : length s.kernel.history < s.kernel.places
  pub answered : is_some (answer_to s.kernel.state (outside_of s) c) ≡ true

-- The others moved until a call is ready.
pub record Waited (c : Call) (old new : RoundsState) : Type 0 where
  pub rounds : ℕ
  pub waits : WaitsFor rounds c old new
  pub ready : IsReady c new.seats

abbrev pub WaitsIf : Bool → Call → RoundsState → RoundsState → Type 0
WaitsIf true c old new = Waited c old new
WaitsIf false c old new = GaveUp c old new

-- A call was made, and its reply is answered.
pub record MadeCall (c : Call) (old new : RoundsState) (text : List ℕ) : Type 0 where
  pub made : Made c old new
  pub reply : text ≡ reply_line made.called.answer.reply

-- A call was taken back.
pub record TookBack (c : Call) (old new : RoundsState) (text : List ℕ) : Type 0 where
  pub gave_up : GaveUp c old new
  pub reply : text ≡ codes "never\n"

abbrev pub AnswersCall : Bool → Call → RoundsState → RoundsState → List ℕ → Type 0
AnswersCall true c old new text = MadeCall c old new text
AnswersCall false c old new text = TookBack c old new text

-- ---- messages by words

-- the moment until which the next call of a script waits, or 0
abbrev pub wait_of : Option Call → ℕ
wait_of None = 0
wait_of (Some c) = wait_end_of c

-- The next call of a script was made, and it got the reply.
pub record MadeNext (script after : ScriptState) (old new : RoundsState) (text : List ℕ) : Type 0 where
  pub call : Call
  pub next : next_call_of script ≡ Some call
  pub made : MadeCall call old new text
  pub got : after ≡ fed script made.made.called.answer.reply

-- So it was, and then the others had their turn.
pub record MadeMessage (script after : ScriptState) (old new : RoundsState) (text : List ℕ) : Type 0 where
  pub made : RoundsState
  pub next : MadeNext script after old made text
  pub round : FinishesRound (wait_of (next_call_of after)) made new

-- one call after another
abbrev pub MadeMessages : ScriptState → ScriptState → RoundsState → RoundsState → List (List ℕ) → Type 0
MadeMessages script after old new [] = (after ≡ script) × (new ≡ old)
MadeMessages script after old new (text ∷ texts) =
    (s : ScriptState) × (m : RoundsState) × (MadeMessage script s old m text × MadeMessages s after m new texts)

-- the script makes no call any more
pub record HasEnded (script : ScriptState) (old new : RoundsState) (text : List ℕ) : Type 0 where
  pub ended : next_call_of script ≡ None
  pub same : new ≡ old
  pub nothing : text ≡ []

-- its next call is never answered
pub record IsTakenBack (script : ScriptState) (old new : RoundsState) (text : List ℕ) : Type 0 where
  pub call : Call
  pub next : next_call_of script ≡ Some call
  pub taken_back : TookBack call old new text

-- no call was made: there is none, or it is never answered
abbrev pub CallsNone : ScriptState → RoundsState → RoundsState → List ℕ → Type 0
CallsNone script old new text = HasEnded script old new text ⊎ IsTakenBack script old new text

abbrev pub AnswersNext : Bool → ScriptState → ScriptState → RoundsState → RoundsState → List ℕ → Type 0
AnswersNext true script after old new text = MadeNext script after old new text
AnswersNext false script after old new text = CallsNone script old new text

-- the texts of all
abbrev pub all_of : List (List ℕ) → List ℕ
all_of texts = flat_map (λ text. text) texts

-- The calls of a script were made, a reply for each, up to its end or to one that is never answered.
pub record AnswersMessages (script : ScriptState) (old new : RoundsState) (text : List ℕ) : Type 0 where
  pub replies : List (List ℕ)
  pub after : ScriptState
  pub reached : RoundsState
  pub made : MadeMessages script after old reached replies
  pub last : List ℕ
  pub end : CallsNone after reached new last
  pub whole : text ≡ all_of replies ++ last

-- ---- moves of others

-- the lines of the entries that came, and how many there are now
abbrev pub came_text : SeatsState → SeatsState → List Entry → List ℕ
came_text old new entries = entries_text (length old.kernel.history) entries ++ count_line (length new.kernel.history)

-- all of so many moves were made
pub record MadeAll (times : ℕ) (entries : List Entry) (old new : RoundsState) : Type 0 where
  pub all : length entries ≡ times
  pub is : new ≡ after_steps entries old

-- fewer were, as nobody could move any more
pub record MadeFewer (times : ℕ) (entries : List Entry) (old new : RoundsState) : Type 0 where
  pub fewer : length entries < times
  pub rests : IsAtRest 0 (after_steps entries old) new

-- So many moves were made, in rounds in which the outside makes no call; or fewer.
pub record GoesFor (times : ℕ) (old new : RoundsState) : Type 0 where
  pub entries : List Entry
  pub steps : AreStepsOn 0 old entries
  pub end : MadeAll times entries old new ⊎ MadeFewer times entries old new

pub record MovesOthers (times : ℕ) (old new : RoundsState) (text : List ℕ) : Type 0 where
  pub moves : GoesFor times old new
  pub told : text ≡ came_text old.seats new.seats moves.entries

-- One actor made its move, or could not. The place in the round stays.
pub record MovesOne (actor : Actor) (old new : RoundsState) (text : List ℕ) : Type 0 where
  pub moved : Moved 0 actor old.seats new.seats
  pub place : new.place ≡ old.place
  pub told : text ≡ came_text old.seats new.seats (moved.entry ∷ [])

pub record MovesNot (actor : Actor) (old new : RoundsState) (text : List ℕ) : Type 0 where
  pub stayed : Stayed 0 actor old.seats new.seats
  pub place : new.place ≡ old.place
  pub told : text ≡ codes "no\n"

-- a poll of one file, and of each that the outside has open
abbrev pub poll_of : ℕ → Call
poll_of handle = Poll (handle ∷ [])

abbrev pub is_open : SeatsState → ℕ → Bool
is_open s handle = is_open_by s.kernel.state.opens (outside_of s) handle

abbrev pub polls_if : ℕ → Bool → List Call
polls_if handle true = poll_of handle ∷ []
polls_if handle false = []

unfoldable pub polls_of : SeatsState → List Call
polls_of s = map poll_of (filter (is_open s) (range_with_len 0 handle_limit))

-- A poll of the files that the outside has open would be answered: it has one open that is ready (poll(2)), or it has
-- one open and was interrupted. Handles have numbers below a limit.
pub record HasReady (s : SeatsState) : Type 0 where
  pub handle : ℕ
  pub within : handle < handle_limit
  pub held : is_open s handle ≡ true
  pub ready : (is_interrupted s.kernel.state (outside_of s) ≡ true)
      ⊎ (is_polled_ready s.kernel.state (outside_of s) handle ≡ true)

pub record HasNoneReady (s : SeatsState) : Type 0 where
  pub none : HasReady s → ⊥

-- before each of these moves none was ready
abbrev pub NoneReadyBefore : RoundsState → List Entry → Type 0
NoneReadyBefore r [] = Unit {0}
NoneReadyBefore r (e ∷ es) = HasNoneReady r.seats × NoneReadyBefore (after_step e r) es

-- one is ready
pub record StopsReady (entries : List Entry) (old new : RoundsState) : Type 0 where
  pub ready : HasReady new.seats
  pub is : new ≡ after_steps entries old

-- nobody can move any more, and none is ready, or there is no place
pub record StopsAtRest (entries : List Entry) (old new : RoundsState) : Type 0 where
  pub rests : IsAtRest 0 (after_steps entries old) new
  pub unready : (has_place new.seats ≡ false) ⊎ HasNoneReady new.seats

-- The others moved until a file of the outside was ready, or else nobody could move any more. Where a file is ready the
-- round stays where it is, also if nobody can move.
pub record GoesUntil (old new : RoundsState) : Type 0 where
  pub entries : List Entry
  pub steps : AreStepsOn 0 old entries
  pub before : NoneReadyBefore old entries
  pub over : StopsReady entries old new ⊎ StopsAtRest entries old new

pub record RunsOthers (old new : RoundsState) (text : List ℕ) : Type 0 where
  pub moves : GoesUntil old new
  pub told : text ≡ came_text old.seats new.seats moves.entries

-- ---- a row for each

-- Nothing is done.
pub record DoesNothing (old new : RoundsState) (text : List ℕ) : Type 0 where
  pub same : new ≡ old
  pub nothing : text ≡ []

-- What is done and answered where a line asks for this, and whether the outside's turn is over then.
abbrev pub Answers : Ask → Bool → RoundsState → RoundsState → List ℕ → Type 0
Answers (ask.Call c) over old new text = AnswersCall over c old new text
Answers (ask.Messages script) over old new text = (over ≡ false) × AnswersMessages script old new text
Answers (ask.Moves times) over old new text = (over ≡ false) × MovesOthers times old new text
Answers (ask.Move actor) over old new text = (over ≡ false)
    × (MovesOne actor old new text ⊎ MovesNot actor old new text)
Answers ask.Run over old new text = (over ≡ false) × RunsOthers old new text
Answers ask.End over old new text = (over ≡ false) × DoesNothing old new text

-- A text was written behind others, and this is so of it.
pub record Writes (before after : List ℕ) (Is : List ℕ → Type 0) : Type 0 where
  pub text : List ℕ
  pub written : after ≡ before ++ text
  pub is : Is text
