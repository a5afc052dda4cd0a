-- The stop of an lwp at a breakpoint, as truss reads it.
use Rattle.std.specs.Prelude.{◌≡◌, ◌≢◌, ◌<◌, ◌++◌, ◌⊎◌, ℕ, true, false, All, List, [], ◌∷◌, None, Some, length, option_and_then}
use Rattle.pr_line.specs.declared.events.Event.{Event}
use Rattle.pr_model.specs.Handles.{handle_of}
use Rattle.pr_model.specs.Lawful.{IsLawful}
use Rattle.pr_model.specs.Legal.{IsLegal, after, state_after}
use Rattle.pr_model.specs.Replies.{bytes_in}
use Rattle.pr_model.specs.State.{TracedLwp, TracedProcess, TracedState, live_process, lwp_of}
use Rattle.pr_model.specs.Statuses.{status_of}
use Rattle.pr_model.specs.declared.calls.File.TheVariants.{Ctl, Status}
use Rattle.pr_model.specs.declared.calls.Mode.TheVariants.{Read, WriteExcl}
use Rattle.pr_model.specs.declared.calls.Reply.TheVariants.{Fail}
use Rattle.pr_model.specs.declared.events.Entry.{Entry}
use Rattle.pr_model.specs.declared.handles.Held.{Held}
use Rattle.pr_num.specs.Agents.{agent_id}
use Rattle.pr_num.specs.Control.{clear_fault, single_step}
use Rattle.pr_num.specs.Sets.{union_word}
use Rattle.pr_num.specs.declared.errnos.Errno.TheVariants.{Intr}
use Rattle.pr_num.specs.declared.faults.Flt.{Flt}
use Rattle.pr_num.specs.declared.messages.Message.TheVariants as message
use Rattle.pr_rec.specs.InRange.{IsStatus}
use Rattle.pr_rec.specs.declared.lwps.LwpStatus.{LwpStatus}
use Rattle.pr_reached.specs.Fits.{IsFitSystem}
use Rattle.pr_truss.specs.Asides.{marks_at}
use Rattle.pr_truss.specs.FunctionEvents.{fresh_event, function_event}
use Rattle.pr_truss.specs.Records.{status_lwp}
use Rattle.pr_truss.specs.Replies.{answer_of}
use Rattle.pr_truss.specs.Trusses.{TrussState, traced_at}
use Rattle.pr_truss.specs.declared.asides.Aside.TheVariants.{Nothing}
use Rattle.pr_truss.specs.declared.function_events.FunctionEvent.TheVariants.{AtBreakpoint}
use Rattle.pr_truss.specs.declared.replies.Answer.TheVariants.{Accepted}
use Rattle.pr_truss.specs.declared.stages.Stage.TheVariants.{ReadingStatus}
use Rattle.pr_truss.specs.Marks.{has_functions}
use Rattle.pr_truss.specs.Messages.{message_call}
use Rattle.pr_truss.specs.NextCalls.{read_record}
use Rattle.pr_truss_laws.specs.Exchanges.{Exchange, exchange_of, exchanges}
use Rattle.pr_truss_laws.specs.Handles.{handles_of}
use Rattle.pr_function_laws.specs.Runs.{MakesFunctionCalls}
use Rattle.pr_function_laws.specs.Steps.{RunsNoCall, StopsAtAll}

-- Truss, which does not leave its processes, reads the status of the process at a place, and is told that an lwp of it
-- stands at one of its breakpoints there.
pub record MeetsBreakpoint (t : TrussState) (x : Exchange) (place : ℕ) : Type 0 where
  pub reads : t.stage ≡ ReadingStatus place
  pub idle : t.aside ≡ Nothing
  pub stays : t.leaving ≡ false
  pub within : place < length t.traced
  pub accepted : answer_of x.reply ≡ Accepted
  pub l : LwpStatus
  pub told : option_and_then status_lwp (bytes_in x.reply) ≡ Some l
  pub event : Event
  pub fresh : fresh_event (traced_at t place) l ≡ Some event
  pub function : ℕ
  pub at_breakpoint : function_event t.options (marks_at t place) l.id event ≡ AtBreakpoint function

-- The lwp of this id, of which a record tells, is at a fault, has no signal to act on first, and is not the agent.
pub record TellsOfFault (l : LwpStatus) (id : ℕ) : Type 0 where
  pub its : l.id ≡ id
  pub no_agent : id ≢ agent_id
  pub fault : Flt
  pub at_fault : l.fault ≡ Some fault
  pub no_signal : l.signal ≡ None

-- ---- the files of truss

-- a handle is not of this process
abbrev pub GoesElsewhere : ℕ → ℕ → TracedState → ℕ → Type 0
GoesElsewhere k pid s number = (held : Held) → handle_of s.opens k number ≡ Some held → held.pid ≢ pid

-- the control file of a process is open with a handle, for this controller alone
abbrev pub HasControl : ℕ → ℕ → ℕ → TracedState → Type 0
HasControl k pid number s =
    handle_of s.opens k number
    ≡ Some (record { controller = k; pid = pid; lwp = 0; file = Ctl; mode = WriteExcl })

-- its status file is open with a handle, for reading
abbrev pub HasStatus : ℕ → ℕ → ℕ → TracedState → Type 0
HasStatus k pid number s =
    handle_of s.opens k number ≡ Some (record { controller = k; pid = pid; lwp = 0; file = Status; mode = Read })

-- Truss has at this place the control file of the process and the status file with this handle; and each of its other
-- handles is of another process.
pub record HoldsFiles (k pid : ℕ) (t : TrussState) (place status : ℕ) (s : TracedState) : Type 0 where
  pub control : HasControl k pid (traced_at t place).control s
  pub own_status : (traced_at t place).status ≡ Some status
  pub reads : HasStatus k pid status s
  pub others : (q : ℕ) → q < length t.traced → q ≢ place
      → All (GoesElsewhere k pid s) (handles_of (traced_at t q))

-- ---- until it reads the process again

-- a call that is not interrupted, and does not read the status with this handle
pub record IsNoRead (status : ℕ) (x : Exchange) : Type 0 where
  pub no_read : x.call ≢ read_record (Some status)
  pub no_interrupt : x.reply ≢ Fail Intr

-- Of these calls only the last one may read the status with this handle, and none before it is interrupted.
abbrev pub ReadsOnlyLast : ℕ → List Exchange → Type 0
ReadsOnlyLast status [] = Unit {0}
ReadsOnlyLast status (x ∷ xs) =
    (IsNoRead status x × ReadsOnlyLast status xs) ⊎ ((x.call ≡ read_record (Some status)) × (xs ≡ []))

-- Wherever truss steps the lwp by PCRUN with PRCFAULT and PRSTEP, the next instruction of that is no system call.
pub record StepsNoCall (k pid id control : ℕ) (s : TracedState) (h : List Entry) : Type 0 where
  pub each : (before later : List Entry) (e : Entry) (x : Exchange) (p : TracedProcess) (l : TracedLwp)
      → h ≡ before ++ e ∷ later → exchange_of k e ≡ Some x
      → x.call ≡ message_call control (message.Run (union_word clear_fault single_step))
      → live_process (state_after s before).system pid ≡ Some p → lwp_of p id ≡ Some l → RunsNoCall p l

-- ---- the stop

-- In the first of these entries truss, which shows calls of functions and makes its calls in all of them, reads that
-- the lwp of this id of a process stands at a breakpoint. SIGKILL pends for nobody then, as in each state that the
-- machine reaches. The process stops at all other signals and at all faults, has lent its memory to nobody, and has a
-- status whose fields are in their ranges. Truss has its files of the process, is not interrupted, and makes no call
-- any more in these entries once it has read the status of the process again.
pub record IsAtStopAtBreakpoint (n k : ℕ) (t : TrussState) (place status pid id : ℕ) (s : TracedState) (e : Entry)
    (between : List Entry) : Type 0 where
  pub has : has_functions t.options ≡ true
  pub follows_none : t.options.follow ≡ false
  pub lawful : IsLawful s
  pub fit : IsFitSystem s.system
  pub legal : IsLegal n s (e ∷ between)
  pub makes : MakesFunctionCalls t (exchanges k (e ∷ between))
  pub x : Exchange
  pub own : exchange_of k e ≡ Some x
  pub meets : MeetsBreakpoint t x place
  pub files : HoldsFiles k pid t place status s
  pub process : TracedProcess
  pub live : live_process s.system pid ≡ Some process
  pub ranged : IsStatus (status_of s.system pid process)
  pub told : TellsOfFault meets.l id
  pub not_lent : process.borrower ≡ None
  pub stops : StopsAtAll process.control
  pub reads_last : ReadsOnlyLast status (exchanges k between)
  pub no_call : StepsNoCall k pid id (traced_at t place).control (after s e) between
