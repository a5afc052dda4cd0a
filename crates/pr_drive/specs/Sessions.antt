use Rattle.std.specs.Prelude.{◌≡◌, ◌⊎◌, ◌+◌, ◌-◌, ◌^◌, ℕ, Bool, true, false, List, [], ◌∷◌, Option, Result, Ok}
use Rattle.std.specs.Prelude.{Err, length}
use Rattle.std.specs.List.{flat_map}
use Rattle.pr_asks.specs.Asks.{ask_of, name_of}
use Rattle.pr_asks.specs.declared.asks.Ask.{Ask}
use Rattle.pr_asks.specs.declared.asks.Ask.TheVariants as ask
use Rattle.pr_asks.specs.declared.asks.AskKind.{AskKind}
use Rattle.pr_io.specs.Known.{with_end}
use Rattle.pr_model.specs.Legal.{IsLegal, state_after}
use Rattle.pr_model.specs.State.{TracedState}
use Rattle.pr_output.specs.Output.{AppendsSome, refusal_text}
use Rattle.pr_tool_laws.specs.OwnCalls.{AreOwnCalls}
use Rattle.pr_world.specs.ControllerStates.{ControllerState}
use Rattle.pr_world.specs.Protocol.{controllers_at}
use Rattle.pr_drive.specs.Exchanges.{Answers}
use Rattle.pr_drive.specs.Going.{SeatsState}
use Rattle.pr_drive.specs.Inputs.{Asked, AskedInVain, FoundEnd, Input, Took}
use Rattle.pr_drive.specs.Rounds.{FinishesRound, RoundsState}
use Rattle.pr_drive.specs.declared.answers.Came.{Came}
use Rattle.pr_drive.specs.declared.answers.Came.TheVariants as came

-- Sessions: the lines of the outside, one after another, each answered before the next one is taken.

-- ---- one line

-- A line that asks for nothing is answered by its number and why, and nothing changes.
pub record RefusesLine (number : ℕ) (kind : AskKind) (old new : RoundsState) (text : List ℕ) : Type 0 where
  pub same : new ≡ old
  pub told : text ≡ refusal_text number (name_of kind)

-- whether a line asks for the end
abbrev pub is_end : Ask → Bool
is_end ask.End = true
is_end _ = false

-- What is done and answered for a line, and whether the outside's turn is over then. The end is not answered.
abbrev pub AnswersRead : ℕ → Result Ask AskKind → Bool → RoundsState → RoundsState → List ℕ → Type 0
AnswersRead number (Err kind) over old new text = (over ≡ false) × RefusesLine number kind old new text
AnswersRead number (Ok a) over old new text = (is_end a ≡ false) × Answers a over old new text

abbrev pub AnswersLine : ℕ → List ℕ → Bool → RoundsState → RoundsState → List ℕ → Type 0
AnswersLine number line over old new text = AnswersRead number (ask_of line) over old new text

abbrev pub AsksEnd : Result Ask AskKind → Type 0
AsksEnd (Ok a) = is_end a ≡ true
AsksEnd (Err kind) = ⊥

-- After the outside's turn the others have theirs: what is left of the round goes by.
abbrev pub PassesTurn : Bool → RoundsState → RoundsState → Type 0
PassesTurn true old new = FinishesRound 0 old new
PassesTurn false old new = new ≡ old

-- What a line asks for was done, and the answer was written.
pub record PutAnswer (asked : Ask) (over : Bool) (old new : RoundsState) (before after : Option (List ℕ)) : Type 0 where
  pub text : List ℕ
  pub answers : Answers asked over old new text
  pub written : after ≡ with_end before text

-- It was done, and a prefix of the answer was written.
pub record CutAnswer (asked : Ask) (old : RoundsState) (before after : Option (List ℕ)) : Type 0 where
  pub over : Bool
  pub new : RoundsState
  pub text : List ℕ
  pub answers : Answers asked over old new text
  pub written : AppendsSome before after text

-- A line was answered, and the text was written.
pub record AnsweredLine (number : ℕ) (line : List ℕ) (over : Bool) (old new : RoundsState)
    (before after : Option (List ℕ)) : Type 0 where
  pub text : List ℕ
  pub answers : AnswersLine number line over old new text
  pub written : after ≡ with_end before text

-- The line is the end, and nothing was done.
pub record IsEnd (line : List ℕ) (old new : RoundsState) (before after : Option (List ℕ)) : Type 0 where
  pub asks : AsksEnd (ask_of line)
  pub same : new ≡ old
  pub unwritten : after ≡ before

-- whether the session ends with a line
abbrev pub is_last : Came → Bool
is_last came.End = true
is_last _ = false

-- what came of a line that was answered
unfoldable pub came_of : Bool → Came
came_of true = came.Over
came_of false = came.Still

-- What came of a line.
abbrev pub CameOf : Came → ℕ → List ℕ → RoundsState → RoundsState → Option (List ℕ) → Option (List ℕ) → Type 0
CameOf came.End number line old new before after = IsEnd line old new before after
CameOf came.Over number line old new before after = AnsweredLine number line true old new before after
CameOf came.Still number line old new before after = AnsweredLine number line false old new before after

-- A line was answered, and a prefix of the text was written.
pub record CutLine (number : ℕ) (line : List ℕ) (old : RoundsState) (before after : Option (List ℕ)) : Type 0 where
  pub over : Bool
  pub new : RoundsState
  pub text : List ℕ
  pub answers : AnswersLine number line over old new text
  pub written : AppendsSome before after text

-- So it is where a session is cut off at a line, or nothing was written for it.
abbrev pub CutAt : ℕ → List ℕ → RoundsState → Option (List ℕ) → Option (List ℕ) → Type 0
CutAt number line old before after = (after ≡ before) ⊎ CutLine number line old before after

-- ---- one line after another

-- where a session stands: what is to come from outside, and the kernel with the controllers and the place in the round
pub record Stand : Type 0 where
  pub input : Input
  pub rounds : RoundsState

-- a line, and what was written for it
pub record Exchange : Type 0 where
  pub line : List ℕ
  pub reply : List ℕ

-- The next line was taken and answered, and after a call the others had their turn.
pub record Exchanged (number : ℕ) (x : Exchange) (a b : Stand) : Type 0 where
  pub took : Took x.line a.input b.input
  pub over : Bool
  pub answered : RoundsState
  pub answers : AnswersLine number x.line over a.rounds answered x.reply
  pub passes : PassesTurn over answered b.rounds

-- Lines were, that count from a number.
abbrev pub Exchanges : ℕ → List Exchange → Stand → Stand → Type 0
Exchanges number [] a b = b ≡ a
Exchanges number (x ∷ xs) a b = (m : Stand) × (Exchanged number x a m × Exchanges (number + 1) xs m b)

-- all that was written for them
abbrev pub replies_of : List Exchange → List ℕ
replies_of xs = flat_map (λ x. x.reply) xs

-- The next line was taken and answered, and this was written.
pub record AnsweredNext (number : ℕ) (a b : Stand) (before after : Option (List ℕ)) : Type 0 where
  pub exchange : Exchange
  pub exchanged : Exchanged number exchange a b
  pub written : after ≡ with_end before exchange.reply

-- The next line was the end; or there was none.
pub record TookEnd (a b : Stand) : Type 0 where
  pub line : List ℕ
  pub took : Took line a.input b.input
  pub asks : AsksEnd (ask_of line)

pub record NoLine (a b : Stand) : Type 0 where
  pub end : FoundEnd a.input b.input

-- No line was answered, and nothing was written.
pub record AnsweredNone (a b : Stand) (before after : Option (List ℕ)) : Type 0 where
  pub ends : TookEnd a b ⊎ NoLine a b
  pub same : b.rounds ≡ a.rounds
  pub unwritten : after ≡ before

abbrev pub AnsweredIf : Bool → ℕ → Stand → Stand → Option (List ℕ) → Option (List ℕ) → Type 0
AnsweredIf true number a b before after = AnsweredNext number a b before after
AnsweredIf false number a b before after = AnsweredNone a b before after

-- The next line was asked for, and nothing was written for it. So much is left of the source.
pub record CutAsking (a : Stand) (left before after : Option (List ℕ)) : Type 0 where
  pub asked : Asked a.input left
  pub unwritten : after ≡ before

-- A line was taken, nothing was read behind it, and the session was cut off at it.
pub record CutAtLine (number : ℕ) (a : Stand) (left before after : Option (List ℕ)) : Type 0 where
  pub line : List ℕ
  pub rest : Input
  pub took : Took line a.input rest
  pub left_is : left ≡ rest.left
  pub cut : CutLine number line a.rounds before after

-- So it is where a session is cut off.
abbrev pub CutNext : ℕ → Stand → Option (List ℕ) → Option (List ℕ) → Option (List ℕ) → Type 0
CutNext number a left before after = CutAsking a left before after ⊎ CutAtLine number a left before after

-- A read for the next line failed, before its end had come. Nothing was written for it.
pub record UnreadNext (a : Stand) (left before after : Option (List ℕ)) : Type 0 where
  pub asked : AskedInVain a.input left
  pub unwritten : after ≡ before

-- ---- all lines

-- The last number that a line can have.
abbrev pub last_number : ℕ
last_number = 2 ^ 32 - 1

-- No further line is answered: the next one was the end, there was none, or lines have no numbers any more.
abbrev pub NoMore : ℕ → Stand → Stand → Type 0
NoMore number a b = (TookEnd a b ⊎ NoLine a b) ⊎ ((number ≡ last_number) × (b ≡ a))

-- All lines were answered up to the end. So many stand above the first of them.
pub record AnsweredAll (above : ℕ) (a b : Stand) (before after : Option (List ℕ)) : Type 0 where
  pub exchanges : List Exchange
  pub reached : Stand
  pub answered : Exchanges (above + 1) exchanges a reached
  pub written : after ≡ with_end before (replies_of exchanges)
  pub same : b.rounds ≡ reached.rounds
  pub no_more : NoMore (above + length exchanges) reached b

-- Lines were answered, and then the session was cut off: all that was written are the replies to these lines, and
-- perhaps a prefix of that to the next one. So much is left of the source.
pub record AnsweredSome (above : ℕ) (a : Stand) (left before after : Option (List ℕ)) : Type 0 where
  pub exchanges : List Exchange
  pub reached : Stand
  pub answered : Exchanges (above + 1) exchanges a reached
  pub replies : Option (List ℕ)
  pub written : replies ≡ with_end before (replies_of exchanges)
  pub cut : CutNext (above + length exchanges + 1) reached left replies after

-- Lines were answered, and all that was written are the replies to them; and then a read failed, before the end of the
-- next line had come.
pub record AnsweredUnread (above : ℕ) (a : Stand) (left before after : Option (List ℕ)) : Type 0 where
  pub exchanges : List Exchange
  pub reached : Stand
  pub answered : Exchanges (above + 1) exchanges a reached
  pub written : after ≡ with_end before (replies_of exchanges)
  pub asked : AskedInVain reached.input left

-- ---- the history

-- The history of a session that began with this state and these controllers, and with places for so many entries. It is
-- legal with one more controller than the scenario has; each of those made its own calls, and got its replies.
pub record IsHistoryFrom (first : TracedState) (controllers : List ControllerState) (turns : ℕ) (s : SeatsState) : Type
    0 where
  pub legal : IsLegal (length controllers + 1) first s.kernel.history
  pub own : AreOwnCalls controllers s.kernel.history
  pub state : s.kernel.state ≡ state_after first s.kernel.history
  pub fed : s.controllers ≡ controllers_at controllers s.kernel.history
  pub places : s.kernel.places ≡ turns
