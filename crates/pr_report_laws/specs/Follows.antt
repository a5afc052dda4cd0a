use Rattle.std.specs.Prelude.{◌≡◌, ◌≢◌, ◌<◌, ◌≤◌, ℕ, true, List, [], ◌∷◌, ◌++◌, Option, Some, All, length, map, option_and_then, slice_get, take}
use Rattle.pr_model.specs.Replies.{bytes_in, handle_in}
use Rattle.pr_model.specs.declared.calls.Call.{Call}
use Rattle.pr_model.specs.declared.calls.Call.TheVariants as call
use Rattle.pr_model.specs.declared.calls.Reply.{Reply}
use Rattle.pr_model.specs.declared.calls.Reply.TheVariants as reply
use Rattle.pr_num.specs.declared.errnos.Errno.{Errno}
use Rattle.pr_num.specs.declared.errnos.Errno.TheVariants.{Intr, Noent}
use Rattle.pr_rec.specs.declared.lwps.LwpStatus.{LwpStatus}
use Rattle.pr_truss.specs.NextCalls.{run_call}
use Rattle.pr_truss.specs.Records.{child_of, is_on_event, status_lwp}
use Rattle.pr_truss.specs.Trusses.{TrussState, traced_at}
use Rattle.pr_truss.specs.declared.reports.Report.{Report}
use Rattle.pr_truss.specs.declared.reports.Report.TheVariants.{CannotTrace}
use Rattle.pr_truss.specs.declared.stages.Stage.TheVariants.{ReadingStatus}
use Rattle.pr_truss_laws.specs.Exchanges.{Exchange, IsGranted, calls_in, with_opened_by}
use Rattle.pr_truss_laws.specs.Given.{reply_at}
use Rattle.pr_report_laws.specs.Attachments.{child_calls}

-- What becomes of the child of a fork that truss(1) has read, by its exchanges, its reports and the call that is due
-- alone. Where truss has finished no call is due, so that nothing of this is only begun then.

-- ---- the fork

-- Truss reads the status of the process at a place, and this reply tells that its lwp stands on the return of a fork,
-- which made this child. The stop is not an old one.
pub record ReadsFork (t : TrussState) (r : Reply) (place child : ℕ) : Type 0 where
  pub stage : t.stage ≡ ReadingStatus place
  pub new : (traced_at t place).old ≡ 0
  pub lwp : LwpStatus
  pub read : option_and_then status_lwp (bytes_in r) ≡ Some lwp
  pub event : is_on_event lwp ≡ true
  pub made : child_of lwp ≡ Some child

-- ---- what comes after the child

-- These calls come next, in this order. Where the exchanges end before, the first of the others is due.
abbrev pub ComeNext : Option Call → List Call → List Exchange → Type 0
ComeNext due [] xs = Unit {0}
ComeNext due (c ∷ cs) [] = due ≡ Some c
ComeNext due (c ∷ cs) (x ∷ xs) = (x.call ≡ c) × ComeNext due cs xs

-- These handles are closed, in this order, and then the process with this control file runs.
abbrev pub RunsThen : Option Call → ℕ → List ℕ → List Exchange → Type 0
RunsThen due control handles xs = ComeNext due (map call.Close handles ++ run_call control ∷ []) xs

-- ---- the opening of the child

-- the calls of its opening, with the handle that the first reply gave
abbrev pub following_calls : ℕ → List Exchange → List Call
following_calls child xs = child_calls child (handle_in (reply_at xs 0))

-- None of its calls was refused before the last one, by which the child runs. The parent runs next; where the last
-- reply tells that the child has ended, the files of the child are closed before. Nothing is reported up to the first
-- of these calls, whatever the last reply: that PCRUN was refused is passed over.
pub record IsAttachedChild (child control : ℕ) (base reports : List Report) (due : Option Call)
    (xs : List Exchange) : Type 0 where
  pub opening : List Exchange
  pub last : Exchange
  pub later : List Exchange
  pub is : xs ≡ opening ++ last ∷ later
  pub calls : calls_in (opening ++ last ∷ []) ≡ following_calls child (opening ++ last ∷ [])
  pub granted : All IsGranted opening
  pub lives : last.reply ≢ reply.Fail Noent → RunsThen due control [] later
  pub ended : last.reply ≡ reply.Fail Noent → RunsThen due control (with_opened_by [] opening) later
  pub silent : length later ≤ 1 → reports ≡ base

-- The opening up to its first call that was refused, which is not the last one.
pub record IsRefusedFollowing (child : ℕ) (errno : Errno) (xs : List Exchange) : Type 0 where
  pub before : List Exchange
  pub call : Call
  pub last : xs ≡ before ++ record { call = call; reply = reply.Fail errno } ∷ []
  pub calls : calls_in xs ≡ take (length xs) (following_calls child xs)
  pub granted : All IsGranted before
  pub not_last : length xs < 6

-- It was refused, which is the next report, for this reason. What was opened of the child is closed, and the parent
-- runs.
pub record IsRefusedChild (child control : ℕ) (base reports : List Report) (due : Option Call)
    (xs : List Exchange) : Type 0 where
  pub errno : Errno
  pub opening : List Exchange
  pub later : List Exchange
  pub more : List Report
  pub is : xs ≡ opening ++ later
  pub refused : IsRefusedFollowing child errno opening
  pub reported : reports ≡ base ++ CannotTrace child errno ∷ more
  pub parent : RunsThen due control (with_opened_by [] refused.before) later

-- Truss was interrupted before the opening was done.
pub record IsLeftChild (child : ℕ) (xs : List Exchange) : Type 0 where
  pub opening : List Exchange
  pub later : List Exchange
  pub is : xs ≡ opening ++ later
  pub interrupted : IsRefusedFollowing child Intr opening

-- The exchanges end before the opening is done, and none of its calls was refused so far. The one after them is due.
pub record IsBegunChild (child : ℕ) (due : Option Call) (xs : List Exchange) : Type 0 where
  pub calls : calls_in xs ≡ take (length xs) (following_calls child xs)
  pub granted : All IsGranted xs
  pub not_done : length xs < 6
  pub goes_on : due ≡ slice_get (following_calls child xs) (length xs)

-- What the exchanges after the read do with the child, where the parent has this control file, truss had reported so
-- much then, and at the end of the exchanges it has reported so much and this call is due.
pub data IsHandledNext (child control : ℕ) (base reports : List Report) (due : Option Call)
    (xs : List Exchange) : Type 0 where
  attached : IsAttachedChild child control base reports due xs → IsHandledNext child control base reports due xs
  refused : IsRefusedChild child control base reports due xs → IsHandledNext child control base reports due xs
  left : IsLeftChild child xs → IsHandledNext child control base reports due xs
  begun : IsBegunChild child due xs → IsHandledNext child control base reports due xs
