use Rattle.std.specs.Prelude.{◌≡◌, ◌≢◌, ◌⊎◌, ℕ, List, Option, Result, Ok, Err}
use Rattle.std.specs.Borrow.{Bor}
use Rattle.std.specs.List.{flat_map}
use Rattle.pr_io.specs.Faults.{Rose}
use Rattle.pr_io.specs.Known.{with_end}
use Rattle.pr_io.specs.Writing.{AppendsFront}
use Rattle.pr_model.specs.declared.events.Entry.{Entry}
use Rattle.pr_output.specs.Output.{AppendsSome}
use Rattle.pr_output.specs.declared.cuts.Cut.{Cut}
use Rattle.pr_output.specs.declared.cuts.Cut.TheVariants as cut
use Rattle.pr_commands.specs.Answers.{Answer}
use Rattle.pr_commands.specs.declared.outcomes.Status.{Status}
use Rattle.pr_commands.specs.declared.outcomes.Status.TheVariants.{ReadFailed, WriteFailed, OutOfMemory}

-- What becomes of an answer. The bytes that were written, and the count of faults of the sink, are known before and
-- after.

-- the text of pieces that stand one after another
abbrev pub text_of : List (Bor (List ℕ)) → List ℕ
text_of pieces = flat_map (λ piece. piece.now) pieces

-- An answer was given whole: its status and history, and its text was written.
pub record IsGiven (answer : Answer) (status : Status) (history : List Entry) (old new : Option (List ℕ)) : Type 0 where
  pub status_is : status ≡ answer.status
  pub history_is : history ≡ answer.history
  pub written : new ≡ with_end old answer.text

-- A write failed: the history is the answer's, and a prefix of its text was written that lacks some bytes.
pub record IsCutShort (answer : Answer) (history : List Entry) (old new : Option (List ℕ)) : Type 0 where
  pub history_is : history ≡ answer.history
  pub written : AppendsFront old new answer.text

-- Memory ran out while the text was written: a prefix of it stands there.
pub record RanOutLate (answer : Answer) (history : List Entry) (old new : Option (List ℕ)) : Type 0 where
  pub history_is : history ≡ answer.history
  pub written : AppendsSome old new answer.text

-- How an answer is given: whole; or a write failed, and the count of faults rose; or memory ran out, early, of which
-- the caller says what holds then, or late. Only a write that failed raises the count. The input was read before.
pub record Responds (answer : Answer) (early : Type 0) (status : Status) (history : List Entry)
    (old new : Option (List ℕ)) (before after : ℕ) : Type 0 where
  pub whole : status ≢ WriteFailed → status ≢ OutOfMemory → IsGiven answer status history old new
  pub cut : status ≡ WriteFailed → IsCutShort answer history old new
  pub rose : status ≡ WriteFailed → Rose before after
  pub memory : status ≡ OutOfMemory → early ⊎ RanOutLate answer history old new
  pub no_fault : status ≢ WriteFailed → after ≡ before
  pub read : status ≢ ReadFailed

-- ---- one of several answers

pub record RespondsWith (May : Answer → Type 0) (early : Type 0) (status : Status) (history : List Entry)
    (old new : Option (List ℕ)) (before after : ℕ) : Type 0 where
  pub answer : Answer
  pub may : May answer
  pub responds : Responds answer early status history old new before after

-- Memory ran out before there was an answer.
pub record StopsEarly (early : Type 0) (status : Status) (before after : ℕ) : Type 0 where
  pub status_is : status ≡ OutOfMemory
  pub left : early
  pub no_fault : after ≡ before

-- one of the answers that may come is given, or memory ran out before there was one
abbrev pub RespondsOne : (Answer → Type 0) → Type 0 → Status → List Entry → Option (List ℕ) → Option (List ℕ) → ℕ → ℕ
    → Type 0
RespondsOne May early status history old new before after =
    RespondsWith May early status history old new before after ⊎ StopsEarly early status before after

-- ---- statuses

-- the status where a text of this status was written, or was not
unfoldable pub status_after : Result Unit Cut → Status → Status
status_after (Ok done) status = status
status_after (Err cut.WriteFailed) status = WriteFailed
status_after (Err cut.NoMemory) status = OutOfMemory
