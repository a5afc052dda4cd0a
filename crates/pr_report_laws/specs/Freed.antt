use Rattle.std.specs.Prelude.{◌≡◌, ◌≢◌, ◌≤◌, ℕ, false, List, ◌∷◌, ◌++◌, Option, Some, None, length, map, slice_get}
use Rattle.pr_model.specs.Replies.{bytes_in, handle_in}
use Rattle.pr_model.specs.declared.calls.Call.{Call}
use Rattle.pr_model.specs.declared.calls.Call.TheVariants as call
use Rattle.pr_model.specs.declared.calls.Reply.{Reply}
use Rattle.pr_model.specs.declared.calls.Reply.TheVariants as reply
use Rattle.pr_num.specs.Control.{rlc_mode}
use Rattle.pr_num.specs.declared.errnos.Errno.{Errno}
use Rattle.pr_num.specs.declared.errnos.Errno.TheVariants.{Intr}
use Rattle.pr_num.specs.declared.messages.Message.TheVariants as message
use Rattle.pr_rec.specs.declared.lwps.LwpStatus.{LwpStatus}
use Rattle.pr_truss.specs.Messages.{message_call}
use Rattle.pr_truss.specs.NextCalls.{open_control}
use Rattle.pr_truss.specs.Records.{child_of, event_stops}
use Rattle.pr_truss.specs.Trusses.{TrussState, traced_at}
use Rattle.pr_truss.specs.declared.reports.Report.{Report}
use Rattle.pr_truss.specs.declared.reports.Report.TheVariants.{CannotTrace}
use Rattle.pr_truss.specs.declared.stages.Stage.TheVariants.{ReadingLwps}
use Rattle.pr_truss_laws.specs.Exchanges.{Exchange, errno_in}
use Rattle.pr_truss_laws.specs.Given.{reply_at}
use Rattle.pr_report_laws.specs.Follows.{ComeNext}

-- What becomes of the child of a fork that truss(1) reads while it leaves a process, by its exchanges, its reports and
-- the call that is due alone.

-- ---- the fork

-- Truss leaves its first process and reads the statuses of its lwps, and this reply tells that the first lwp on an
-- event stands on the return of a fork, which made this child. The stop is not an old one, and truss has not looked at
-- it before.
pub record ReadsLastFork (t : TrussState) (r : Reply) (child : ℕ) : Type 0 where
  pub stage : t.stage ≡ ReadingLwps
  pub new : (traced_at t 0).old ≡ 0
  pub unseen : (traced_at t 0).seen ≡ false
  pub lwp : LwpStatus
  pub first : slice_get (event_stops (bytes_in r)) 0 ≡ Some lwp
  pub made : child_of lwp ≡ Some child

-- ---- the calls

-- the files with these handles are closed
abbrev pub closing_calls : List ℕ → List Call
closing_calls handles = map call.Close handles

-- The child's control file is opened, which gives this handle; the child is to run when that file is closed, and it is
-- closed. Then the files of the parent are closed, which have these handles.
abbrev pub freeing_calls : ℕ → ℕ → List ℕ → List Call
freeing_calls child control handles =
    open_control child ∷ message_call control (message.Set rlc_mode) ∷ call.Close control ∷ closing_calls handles

-- ---- what comes after the fork

-- The open of the child's control file was granted, or is due. Nothing is reported up to the last of these calls.
pub record IsFreed (child : ℕ) (handles : List ℕ) (base reports : List Report) (due : Option Call)
    (xs : List Exchange) : Type 0 where
  pub granted : errno_in (reply_at xs 0) ≡ None
  pub calls : ComeNext due (freeing_calls child (handle_in (reply_at xs 0)) handles) xs
  pub silent : length xs ≤ length (freeing_calls child (handle_in (reply_at xs 0)) handles) → reports ≡ base

-- It was refused, which is the next report, for this reason, and the files of the parent are closed.
pub record IsRefusedFreeing (child : ℕ) (handles : List ℕ) (base reports : List Report) (due : Option Call)
    (xs : List Exchange) : Type 0 where
  pub errno : Errno
  pub later : List Exchange
  pub more : List Report
  pub is : xs ≡ record { call = open_control child; reply = reply.Fail errno } ∷ later
  pub not_interrupted : errno ≢ Intr
  pub reported : reports ≡ base ++ CannotTrace child errno ∷ more
  pub closes : ComeNext due (closing_calls handles) later

-- It was interrupted, and the files of the parent are closed. Nothing is reported up to the last of these calls.
pub record IsInterruptedFreeing (child : ℕ) (handles : List ℕ) (base reports : List Report) (due : Option Call)
    (xs : List Exchange) : Type 0 where
  pub later : List Exchange
  pub is : xs ≡ record { call = open_control child; reply = reply.Fail Intr } ∷ later
  pub closes : ComeNext due (closing_calls handles) later
  pub silent : length later ≤ length (closing_calls handles) → reports ≡ base

-- What the exchanges after the read do with the child, where the files of the parent have these handles, truss had
-- reported so much then, and at the end of the exchanges it has reported so much and this call is due.
pub data IsSetFree (child : ℕ) (handles : List ℕ) (base reports : List Report) (due : Option Call)
    (xs : List Exchange) : Type 0 where
  freed : IsFreed child handles base reports due xs → IsSetFree child handles base reports due xs
  refused : IsRefusedFreeing child handles base reports due xs → IsSetFree child handles base reports due xs
  interrupted : IsInterruptedFreeing child handles base reports due xs → IsSetFree child handles base reports due xs
