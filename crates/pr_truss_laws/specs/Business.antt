use Rattle.std.specs.Prelude.{◌≡◌, ◌≢◌, ◌≤◌, ◌⊎◌, ◌&&◌, ◌==◌, ℕ, Bool, true, false, List, [], ◌∷◌, ◌++◌, Option, Some, None, All, length, slice_get}
use Rattle.std.specs.Option.{option_and_then}
use Rattle.pr_line.specs.declared.options.Options.{Options}
use Rattle.pr_model.specs.Replies.{bytes_in, handle_in}
use Rattle.pr_model.specs.declared.calls.Call.{Call}
use Rattle.pr_model.specs.declared.calls.Call.TheVariants as call
use Rattle.pr_model.specs.declared.calls.File.{File}
use Rattle.pr_model.specs.declared.calls.File.TheVariants.{Ctl, Status, Lstatus, Mem}
use Rattle.pr_model.specs.declared.calls.Mode.{Mode}
use Rattle.pr_model.specs.declared.calls.Mode.TheVariants.{Read, WriteExcl}
use Rattle.pr_model.specs.declared.calls.Reply.{Reply}
use Rattle.pr_model.specs.declared.calls.Reply.TheVariants as reply
use Rattle.pr_num.specs.Control.{fork_mode, rlc_mode}
use Rattle.pr_num.specs.declared.errnos.Errno.{Errno}
use Rattle.pr_num.specs.declared.errnos.Errno.TheVariants.{Intr, Noent}
use Rattle.pr_num.specs.declared.messages.Message.TheVariants as message
use Rattle.pr_rec.specs.declared.lwps.LwpStatus.{LwpStatus}
use Rattle.pr_truss.specs.Messages.{message_call}
use Rattle.pr_truss.specs.Openings.{pid_in}
use Rattle.pr_truss.specs.Records.{child_of, event_stops, status_lwp}
use Rattle.pr_truss.specs.Reports.{all_reports}
use Rattle.pr_truss.specs.Trusses.{first_truss}
use Rattle.pr_truss.specs.declared.reports.Report.{Report}
use Rattle.pr_truss.specs.declared.reports.Report.TheVariants.{CannotStart, CannotTrace}
use Rattle.pr_truss_laws.specs.Exchanges.{Closes, Exchange, errno_in, truss_after}
use Rattle.pr_truss_laws.specs.Lines.{KeepsItsLines, PrintsItsReports, PrintsWhatItReports, TellsSelected}
use Rattle.pr_truss_laws.specs.Sent.{SendsInOrder}

-- That truss(1) does its own business alone: what it calls, which processes it opens, what it tells of refusals, which
-- processes it waits for, what it does once it was interrupted or a process has ended, and what it prints.

-- ---- its calls

-- the files of a process that truss opens: the control file for itself alone, and three files for reading
abbrev pub opens_so : File → Mode → Bool
opens_so Ctl WriteExcl = true
opens_so Status Read = true
opens_so Lstatus Read = true
opens_so Mem Read = true
opens_so _ _ = false

-- Truss opens files of processes, not of single lwps. It closes, sends messages, waits for stops, reads and polls. It
-- interrupts nobody, sends no signal, waits for no time and lists nothing; and here it makes no process.
abbrev pub is_own_call : Call → Bool
is_own_call (call.Open pid id file mode) = (id == 0) && opens_so file mode
is_own_call (call.Close handle) = true
is_own_call (call.Ctl handle bytes) = true
is_own_call (call.CtlWait handle until bytes) = true
is_own_call (call.Read handle from len) = true
is_own_call (call.Poll handles) = true
is_own_call _ = false

pub record IsOwnCall (x : Exchange) : Type 0 where
  pub own : is_own_call x.call ≡ true

-- Where truss has a program, its first call makes the process of that, directed to stop before it runs. All its other
-- calls are such ones.
abbrev pub AreItsCalls : Option (List ℕ) → List Exchange → Type 0
AreItsCalls None xs = All IsOwnCall xs
AreItsCalls (Some program) [] = Unit {0}
AreItsCalls (Some program) (x ∷ xs) = (x.call ≡ call.Spawn program true) × All IsOwnCall xs

-- ---- the processes that it opens

-- The process was made by a call among these.
pub record WasMade (pid : ℕ) (xs : List Exchange) : Type 0 where
  pub before : List Exchange
  pub program : List ℕ
  pub held : Bool
  pub reply : Reply
  pub after : List Exchange
  pub is : xs ≡ before ++ record { call = call.Spawn program held; reply = reply } ∷ after
  pub granted : errno_in reply ≡ None
  pub gives : pid_in reply ≡ pid

-- The bytes of a reply tell of this lwp: it is the one that the status of a process shows, or in the statuses of its
-- lwps the first that stands on an event.
pub data TellsOf (r : Reply) (l : LwpStatus) : Type 0 where
  in_status : option_and_then status_lwp (bytes_in r) ≡ Some l → TellsOf r l
  in_lstatus : slice_get (event_stops (bytes_in r)) 0 ≡ Some l → TellsOf r l

-- A read among these told of this lwp.
pub record WasRead (l : LwpStatus) (xs : List Exchange) : Type 0 where
  pub before : List Exchange
  pub handle : ℕ
  pub from : ℕ
  pub len : ℕ
  pub reply : Reply
  pub after : List Exchange
  pub is : xs ≡ before ++ record { call = call.Read handle from len; reply = reply } ∷ after
  pub tells : TellsOf reply l

-- A read among these told of an lwp that stands at the exit of a fork or vfork, which made this child.
pub record WasTold (child : ℕ) (xs : List Exchange) : Type 0 where
  pub lwp : LwpStatus
  pub read : WasRead lwp xs
  pub made : child_of lwp ≡ Some child

-- How truss knows of a process after these exchanges: the options name it; it was made; or, where truss follows
-- children, it was told of as a child.
pub data IsKnown (o : Options) (pid : ℕ) (xs : List Exchange) : Type 0 where
  named : (place : ℕ) → slice_get o.pids place ≡ Some pid → IsKnown o pid xs
  made : WasMade pid xs → IsKnown o pid xs
  told : o.follow ≡ true → WasTold pid xs → IsKnown o pid xs

-- Each process of which truss opens a file is one that it knows of by the exchanges before.
pub record OpensWhatItKnows (o : Options) (xs : List Exchange) : Type 0 where
  pub each : (before after : List Exchange) (reply : Reply) (pid id : ℕ) (file : File) (mode : Mode)
      → xs ≡ before ++ record { call = call.Open pid id file mode; reply = reply } ∷ after → IsKnown o pid before

-- A read among these told of a child, and at most one call came since: that which reads the memory for a line.
pub record WasJustTold (child : ℕ) (xs : List Exchange) : Type 0 where
  pub lwp : LwpStatus
  pub read : WasRead lwp xs
  pub forked : child_of lwp ≡ Some child
  pub soon : length read.after ≤ 1

-- When truss opens the control file of a process: where the options name it; where it was made; or, where truss follows
-- children, right after it was told of it.
pub data MayOpen (o : Options) (pid : ℕ) (xs : List Exchange) : Type 0 where
  by_name : (place : ℕ) → slice_get o.pids place ≡ Some pid → MayOpen o pid xs
  as_made : WasMade pid xs → MayOpen o pid xs
  just_told : o.follow ≡ true → WasJustTold pid xs → MayOpen o pid xs

pub record OpensInTime (o : Options) (xs : List Exchange) : Type 0 where
  pub each : (before after : List Exchange) (reply : Reply) (pid : ℕ)
      → xs ≡ before ++ record { call = call.Open pid 0 Ctl WriteExcl; reply = reply } ∷ after → MayOpen o pid before

-- Each process of which truss opens a file in these exchanges is the child of a fork of which a read among them told
-- before, and truss follows children.
pub record OpensChildrenAlone (o : Options) (xs : List Exchange) : Type 0 where
  pub each : (before after : List Exchange) (reply : Reply) (pid id : ℕ) (file : File) (mode : Mode)
      → xs ≡ before ++ record { call = call.Open pid id file mode; reply = reply } ∷ after
      → (o.follow ≡ true) × WasTold pid before

-- ---- what it tells of refusals

-- An open among these gave a handle of a file of a process.
pub record WasGiven (pid : ℕ) (file : File) (handle : ℕ) (xs : List Exchange) : Type 0 where
  pub before : List Exchange
  pub id : ℕ
  pub mode : Mode
  pub reply : Reply
  pub after : List Exchange
  pub is : xs ≡ before ++ record { call = call.Open pid id file mode; reply = reply } ∷ after
  pub granted : errno_in reply ≡ None
  pub gives : handle_in reply ≡ handle

-- A call has to do with a process: it opens a file of it, or goes to a handle of it that an open among these gave.
pub data IsCallOf (pid : ℕ) (xs : List Exchange) : Call → Type 0 where
  opens : {id : ℕ} {file : File} {mode : Mode} → IsCallOf pid xs (call.Open pid id file mode)
  sends : {handle : ℕ} {bytes : List ℕ} → WasGiven pid Ctl handle xs → IsCallOf pid xs (call.Ctl handle bytes)
  waits : {handle until : ℕ} {bytes : List ℕ} → WasGiven pid Ctl handle xs
      → IsCallOf pid xs (call.CtlWait handle until bytes)
  reads : {handle from len : ℕ} → WasGiven pid Lstatus handle xs → IsCallOf pid xs (call.Read handle from len)

-- With which refusals a report has to do: that truss cannot start tells of the call that makes the process, and that it
-- cannot trace of a call of that process. The events tell of none.
abbrev pub TellsOfCall : Report → Errno → List Exchange → Call → Type 0
TellsOfCall (CannotStart program errno) e xs c = (e ≡ errno) × (c ≡ call.Spawn program true)
TellsOfCall (CannotTrace pid errno) e xs c = (e ≡ errno) × IsCallOf pid xs c
TellsOfCall _ e xs c = ⊥

-- whether a report tells of a refusal
abbrev pub is_refusal : Report → Bool
is_refusal (CannotStart program errno) = true
is_refusal (CannotTrace pid errno) = true
is_refusal _ = false

-- A report is the answer to a refusal, which is no interrupt: truss had reported these before that reply, and has
-- reported this one more after it.
pub record IsAnswerOf (o : Options) (earlier : List Report) (report : Report) (xs : List Exchange) : Type 0 where
  pub before : List Exchange
  pub call : Call
  pub errno : Errno
  pub after : List Exchange
  pub is : xs ≡ before ++ record { call = call; reply = reply.Fail errno } ∷ after
  pub not_interrupted : errno ≢ Intr
  pub tells : TellsOfCall report errno before call
  pub had : (truss_after (first_truss o) before).reports ≡ earlier
  pub has : (truss_after (first_truss o) (before ++ record { call = call; reply = reply.Fail errno } ∷ [])).reports
      ≡ earlier ++ report ∷ []

-- Each report of a refusal is the answer to a refusal of its own.
pub record TellsItsRefusals (o : Options) (xs : List Exchange) : Type 0 where
  pub each : (earlier later : List Report) (report : Report)
      → (truss_after (first_truss o) xs).reports ≡ earlier ++ report ∷ later → is_refusal report ≡ true
      → IsAnswerOf o earlier report xs

-- ---- the processes that it waits for

-- it stands among these numbers
pub record IsAmong (n : ℕ) (ns : List ℕ) : Type 0 where
  pub place : ℕ
  pub is : slice_get ns place ≡ Some n

-- A control file that truss has open after these exchanges: its open gave this handle, and no call closed that since.
pub record IsHeld (pid handle : ℕ) (xs : List Exchange) : Type 0 where
  pub before : List Exchange
  pub reply : Reply
  pub after : List Exchange
  pub is : xs ≡ before ++ record { call = call.Open pid 0 Ctl WriteExcl; reply = reply } ∷ after
  pub granted : errno_in reply ≡ None
  pub gives : handle_in reply ≡ handle
  pub unclosed : Closes handle after → ⊥

-- Each poll names every process whose control file truss has open, nothing but control files that it opened, and at
-- least one: a poll of none would never end.
pub record PollsItsOwn (xs : List Exchange) : Type 0 where
  pub all : (before after : List Exchange) (reply : Reply) (handles : List ℕ) (pid handle : ℕ)
      → xs ≡ before ++ record { call = call.Poll handles; reply = reply } ∷ after → IsHeld pid handle before
      → IsAmong handle handles
  pub only : (before after : List Exchange) (reply : Reply) (handles : List ℕ) (handle : ℕ)
      → xs ≡ before ++ record { call = call.Poll handles; reply = reply } ∷ after → IsAmong handle handles
      → (pid : ℕ) × WasGiven pid Ctl handle before
  pub some : (before after : List Exchange) (reply : Reply)
      → xs ≡ before ++ record { call = call.Poll []; reply = reply } ∷ after → ⊥

-- ---- once it was interrupted

-- the calls by which it waits; in a legal history no other call of it is interrupted
abbrev pub is_wait : Call → Bool
is_wait (call.CtlWait handle until bytes) = true
is_wait (call.Poll handles) = true
is_wait _ = false

-- How truss leaves its processes after these exchanges: it closes files and reads, no longer has the children of a
-- process traced, and sets a child free of which it was told, which is to run when its control file is closed.
pub data Leaves (xs : List Exchange) : Call → Type 0 where
  closes : {handle : ℕ} → Leaves xs (call.Close handle)
  looks : {handle from len : ℕ} → Leaves xs (call.Read handle from len)
  unfollows : {control : ℕ} → Leaves xs (message_call control (message.Unset fork_mode))
  frees : {child : ℕ} → WasTold child xs → Leaves xs (call.Open child 0 Ctl WriteExcl)
  releases : {control : ℕ} → Leaves xs (message_call control (message.Set rlc_mode))

-- After a wait that was interrupted truss does nothing but leave its processes.
pub record LeavesOnInterrupt (xs : List Exchange) : Type 0 where
  pub each : (before between after : List Exchange) (c : Call) (x : Exchange)
      → xs ≡ before ++ record { call = c; reply = reply.Fail Intr } ∷ (between ++ x ∷ after) → is_wait c ≡ true
      → Leaves (before ++ record { call = c; reply = reply.Fail Intr } ∷ between) x.call

-- ---- what has ended

-- the handle to which a call goes, but for its close
abbrev pub goes_to : Call → Option ℕ
goes_to (call.Ctl handle bytes) = Some handle
goes_to (call.CtlWait handle until bytes) = Some handle
goes_to (call.Read handle from len) = Some handle
goes_to _ = None

-- These calls close files until they have closed this handle.
abbrev pub CloseUntil : ℕ → List Exchange → Type 0
CloseUntil handle [] = Unit {0}
CloseUntil handle (x ∷ xs) =
    (x.call ≡ call.Close handle) ⊎ (((other : ℕ) × (x.call ≡ call.Close other)) × CloseUntil handle xs)

-- After a reply that says that the process has ended truss does nothing but close files, until it has closed the one to
-- which that call went.
pub record ClosesWhatEnded (xs : List Exchange) : Type 0 where
  pub each : (before after : List Exchange) (c : Call) (handle : ℕ)
      → xs ≡ before ++ record { call = c; reply = reply.Fail Noent } ∷ after → goes_to c ≡ Some handle
      → CloseUntil handle after

-- ---- all of it

-- Truss makes its own calls alone, sends each message in its place, opens no process but those that it was given,
-- made or was told of, and these right then, reports a refusal as such only where a call of that process was refused,
-- waits for all that it holds, closes what has ended before it does anything else, and once it was interrupted
-- does nothing but leave its processes. It prints no event that is not selected, one line for each report, and its
-- lines stay where they stand.
pub record DoesItsBusiness (o : Options) (xs : List Exchange) : Type 0 where
  pub calls : AreItsCalls o.program xs
  pub sends : SendsInOrder o xs
  pub opens : OpensWhatItKnows o xs
  pub in_time : OpensInTime o xs
  pub refusals : TellsItsRefusals o xs
  pub polls : PollsItsOwn xs
  pub leaves : LeavesOnInterrupt xs
  pub ended : ClosesWhatEnded xs
  pub events : All (TellsSelected o) (all_reports (truss_after (first_truss o) xs))
  pub prints : PrintsItsReports o xs
  pub reports : PrintsWhatItReports o xs
  pub lines : KeepsItsLines o xs
