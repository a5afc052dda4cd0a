use Rattle.std.specs.Prelude.{◌≡◌, ◌≢◌, ◌⊎◌, ◌+◌, ℕ, true, List, [], ◌∷◌, ◌++◌, Option, Some, None, All, length, map, option_map, slice_get, take, unwrap_or, if◌then◌else◌}
use Rattle.pr_line.specs.declared.options.Options.{Options}
use Rattle.pr_model.specs.Replies.{handle_in, until_in}
use Rattle.pr_model.specs.declared.calls.Call.{Call}
use Rattle.pr_model.specs.declared.calls.Call.TheVariants as call
use Rattle.pr_model.specs.declared.calls.File.TheVariants as file
use Rattle.pr_model.specs.declared.calls.Mode.TheVariants.{Read, WriteExcl}
use Rattle.pr_model.specs.declared.calls.Reply.{Reply}
use Rattle.pr_model.specs.declared.calls.Reply.TheVariants as reply
use Rattle.pr_num.specs.Control.{fork_mode, rlc_mode}
use Rattle.pr_num.specs.Limits.{read_limit}
use Rattle.pr_num.specs.Messages.{spelling}
use Rattle.pr_num.specs.declared.errnos.Errno.{Errno}
use Rattle.pr_num.specs.declared.errnos.Errno.TheVariants.{Intr}
use Rattle.pr_num.specs.declared.messages.Message.TheVariants as message
use Rattle.pr_truss.specs.Messages.{message_call, all_modes, traced_entries, traced_exits, traced_faults, traced_signals}
use Rattle.pr_truss.specs.declared.reports.Report.{Report}
use Rattle.pr_truss.specs.declared.reports.Report.TheVariants.{CannotStart, CannotTrace}
use Rattle.pr_truss.specs.Openings.{pid_in}
use Rattle.pr_truss_laws.specs.Business.{OpensChildrenAlone}
use Rattle.pr_truss_laws.specs.Exchanges.{Exchange, IsGranted, calls_in, errno_in, with_opened_by}

-- What became of each process that truss(1) was given, by its exchanges and its reports alone.

-- ---- the opening of a process

-- the reply to the call at a place; a call that was not made has one that gives nothing
abbrev pub reply_at : List Exchange → ℕ → Reply
reply_at xs i = unwrap_or (option_map (λ (x : Exchange). x.reply) (slice_get xs i)) reply.Done

-- the last calls: where children are followed they are to be traced, and the process runs
abbrev pub last_calls : Options → ℕ → List Call
last_calls o control =
    if o.follow then message_call control (message.Set fork_mode) ∷ message_call control (message.Run 0) ∷ []
    else message_call control (message.Run 0) ∷ []

-- The calls of a whole opening: the four files; no mode but run-on-last-close; a stop, and the wait for it; a look at
-- the lwps; the four traced sets; and the process runs. Its control file and that of its lwps have these handles, and
-- its wait ends at this clock in any case.
abbrev pub calls_with : Options → ℕ → ℕ → ℕ → ℕ → List Call
calls_with o pid control lstatus until =
    call.Open pid 0 file.Ctl WriteExcl ∷ call.Open pid 0 file.Status Read ∷ call.Open pid 0 file.Lstatus Read
    ∷ call.Open pid 0 file.Mem Read ∷ message_call control (message.Unset all_modes)
    ∷ message_call control (message.Set rlc_mode) ∷ message_call control message.Stop
    ∷ call.CtlWait control until (spelling message.Stop []) ∷ call.Read lstatus 0 read_limit
    ∷ message_call control (message.Strace (traced_signals o))
    ∷ message_call control (message.Sfault (traced_faults o))
    ∷ message_call control (message.Sentry (traced_entries o)) ∷ message_call control (message.Sexit (traced_exits o))
    ∷ last_calls o control

-- the same, with the handles that the first and the third reply gave, and the clock that the seventh gave
unfoldable pub opening_calls : Options → ℕ → List Exchange → List Call
opening_calls o pid xs =
    calls_with o pid (handle_in (reply_at xs 0)) (handle_in (reply_at xs 2)) (until_in (reply_at xs 6))

-- A whole opening, of which no call was refused.
pub record IsWholeOpening (o : Options) (pid : ℕ) (xs : List Exchange) : Type 0 where
  pub calls : calls_in xs ≡ opening_calls o pid xs
  pub granted : All IsGranted xs

-- An opening as far as it has come: no call of it was refused, and this is its next call.
pub record IsBegunOpening (o : Options) (pid : ℕ) (next : Call) (xs : List Exchange) : Type 0 where
  pub calls : calls_in xs ++ next ∷ [] ≡ take (length xs + 1) (opening_calls o pid xs)
  pub granted : All IsGranted xs

-- An opening up to its first call that was refused.
pub record IsRefusedOpening (o : Options) (pid : ℕ) (errno : Errno) (xs : List Exchange) : Type 0 where
  pub before : List Exchange
  pub call : Call
  pub last : xs ≡ before ++ record { call = call; reply = reply.Fail errno } ∷ []
  pub calls : calls_in xs ≡ take (length xs) (opening_calls o pid xs)
  pub granted : All IsGranted before

-- ---- each process in order

-- What is said of the reports and the exchanges that come later.
abbrev pub Later : Type 1
Later = List Report → List Exchange → Type 0

-- The process was opened, and the next one comes then.
pub record Attached (o : Options) (pid : ℕ) (Next : Later) (reports : List Report) (xs : List Exchange) : Type 0 where
  pub opening : List Exchange
  pub later : List Exchange
  pub is : xs ≡ opening ++ later
  pub whole : IsWholeOpening o pid opening
  pub next : Next reports later

-- The closes of what these exchanges opened, the file that was opened last first.
abbrev pub closing_calls_of : List Exchange → List Call
closing_calls_of xs = map call.Close (with_opened_by [] xs)

-- Its opening was refused, which is the next report, for this reason, and it was no interrupt. Right then all that was
-- opened is closed, and the next process comes then.
pub record Refused (o : Options) (pid : ℕ) (Next : Later) (reports : List Report) (xs : List Exchange) : Type 0 where
  pub errno : Errno
  pub opening : List Exchange
  pub closings : List Exchange
  pub later : List Exchange
  pub more : List Report
  pub is : xs ≡ opening ++ (closings ++ later)
  pub refused : IsRefusedOpening o pid errno opening
  pub not_interrupted : errno ≢ Intr
  pub closes : calls_in closings ≡ closing_calls_of refused.before
  pub reported : reports ≡ CannotTrace pid errno ∷ more
  pub next : Next more later

-- Truss was interrupted before the opening was done. It opens no other process but the children that it sets free.
pub record Left (o : Options) (pid : ℕ) (xs : List Exchange) : Type 0 where
  pub opening : List Exchange
  pub later : List Exchange
  pub is : xs ≡ opening ++ later
  pub interrupted : IsRefusedOpening o pid Intr opening
  pub alone : OpensChildrenAlone o later

-- Truss is opening it still: the call that is due goes on with that. No process behind it was begun.
pub record Begun (o : Options) (pid : ℕ) (due : Option Call) (reports : List Report) (xs : List Exchange) : Type 0 where
  pub next : Call
  pub is : due ≡ Some next
  pub begun : IsBegunOpening o pid next xs
  pub nothing : reports ≡ []

-- Its opening was refused, which is the last report, and was no interrupt, and truss is closing all that it opened: the
-- call that is due goes on with that. No process behind it was begun.
pub record BrokenOff (o : Options) (pid : ℕ) (due : Option Call) (reports : List Report) (xs : List Exchange)
    : Type 0 where
  pub errno : Errno
  pub opening : List Exchange
  pub closings : List Exchange
  pub handle : ℕ
  pub next : due ≡ Some (call.Close handle)
  pub is : xs ≡ opening ++ closings
  pub refused : IsRefusedOpening o pid errno opening
  pub not_interrupted : errno ≢ Intr
  pub closes : calls_in closings ++ call.Close handle ∷ []
      ≡ take (length closings + 1) (closing_calls_of refused.before)
  pub reported : reports ≡ CannotTrace pid errno ∷ []

-- Each of these processes, in this order, was attached or its refusal reported, unless an interrupt came before; or
-- truss is at work on one of them still, and this call of it is due. Where it has finished no call is due, so it is at
-- work on none. After the last of them it opens children alone.
abbrev pub AreHandled : Options → Option Call → List ℕ → Later
AreHandled o due [] reports xs = OpensChildrenAlone o xs
AreHandled o due (pid ∷ pids) reports xs =
    Attached o pid (AreHandled o due pids) reports xs
    ⊎ (Refused o pid (AreHandled o due pids) reports xs
    ⊎ (Left o pid xs ⊎ (Begun o pid due reports xs ⊎ BrokenOff o pid due reports xs)))

-- ---- the process of a program

-- Truss has made no call, and makes the process next.
pub record IsStarting (program : List ℕ) (due : Option Call) (reports : List Report) (xs : List Exchange) : Type 0 where
  pub next : due ≡ Some (call.Spawn program true)
  pub is : xs ≡ []
  pub nothing : reports ≡ []

-- Truss made a process of its program, which comes before any others.
pub record Started (o : Options) (program : List ℕ) (due : Option Call) (reports : List Report) (xs : List Exchange)
    : Type 0 where
  pub reply : Reply
  pub later : List Exchange
  pub is : xs ≡ record { call = call.Spawn program true; reply = reply } ∷ later
  pub granted : errno_in reply ≡ None
  pub handled : AreHandled o due (pid_in reply ∷ o.pids) reports later

-- The process was refused, which is all that truss reports.
pub record NotStarted (program : List ℕ) (reports : List Report) (xs : List Exchange) : Type 0 where
  pub errno : Errno
  pub is : xs ≡ record { call = call.Spawn program true; reply = reply.Fail errno } ∷ []
  pub reported : reports ≡ CannotStart program errno ∷ []

-- Truss was interrupted before it had made the process.
pub record LeftAtStart (program : List ℕ) (reports : List Report) (xs : List Exchange) : Type 0 where
  pub is : xs ≡ record { call = call.Spawn program true; reply = reply.Fail Intr } ∷ []
  pub nothing : reports ≡ []

-- ---- all that truss was given

-- What has become so far of what the options name: the processes, or the program. This call of truss is due.
abbrev pub IsHandledSoFar : Options → Option Call → Option (List ℕ) → Later
IsHandledSoFar o due None reports xs = AreHandled o due o.pids reports xs
IsHandledSoFar o due (Some program) reports xs =
    Started o program due reports xs
    ⊎ (NotStarted program reports xs ⊎ (LeftAtStart program reports xs ⊎ IsStarting program due reports xs))

-- What became of it in the end: no call is due then.
abbrev pub IsHandled : Options → Option (List ℕ) → Later
IsHandled o program reports xs = IsHandledSoFar o None program reports xs
