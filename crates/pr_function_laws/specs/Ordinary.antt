-- What a truss that shows calls of functions does beside that: without its business on breakpoints it is a truss.
use Rattle.std.specs.List.{flat_map}
use Rattle.std.specs.Prelude.{◌≡◌, ◌≢◌, ◌<◌, ◌==◌, ◌||◌, ◌++◌, ℕ, Bool, true, false, not, Option, Some, None, List, [], ◌∷◌, filter, length, map, option_and_then, slice_get}
use Rattle.pr_hidden.specs.Tidiness.{is_step_flags}
use Rattle.pr_line.specs.declared.events.Event.{Event}
use Rattle.pr_line.specs.declared.events.Event.TheVariants.{Incurred}
use Rattle.pr_line.specs.declared.options.Options.{Options}
use Rattle.pr_model.specs.Replies.{bytes_in}
use Rattle.pr_model.specs.declared.calls.Call.{Call}
use Rattle.pr_model.specs.declared.calls.Call.TheVariants as call
use Rattle.pr_model.specs.declared.calls.Reply.{Reply}
use Rattle.pr_model.specs.declared.calls.Reply.TheVariants as reply
use Rattle.pr_num.specs.Control.{fork_mode, rlc_mode}
use Rattle.pr_num.specs.Limits.{all_faults, all_signals}
use Rattle.pr_num.specs.declared.errnos.Errno.{Errno}
use Rattle.pr_num.specs.declared.errnos.Errno.TheVariants.{Noent}
use Rattle.pr_num.specs.declared.faults.Flt.TheVariants.{Bpt, Trace}
use Rattle.pr_num.specs.declared.messages.Message.{Message}
use Rattle.pr_num.specs.declared.messages.Message.TheVariants as message
use Rattle.pr_rec.specs.declared.lwps.LwpStatus.{LwpStatus}
use Rattle.pr_report_laws.specs.RunsNamed.{RunsWhatWasNamed}
use Rattle.pr_truss.specs.Asides.{marks_at}
use Rattle.pr_truss.specs.FunctionCalls.{lift_call, plant_call, read_code_call, wait_call, with_copying}
use Rattle.pr_truss.specs.FunctionEvents.{fresh_event, function_at}
use Rattle.pr_truss.specs.FunctionFeeding.{fed_functions}
use Rattle.pr_truss.specs.Marks.{no_marks}
use Rattle.pr_truss.specs.Messages.{all_modes, message_call, traced_entries, traced_exits, traced_faults, traced_signals}
use Rattle.pr_truss.specs.NextCalls.{next_call_of}
use Rattle.pr_truss.specs.Printing.{printed}
use Rattle.pr_truss.specs.Records.{event_stops, status_lwp}
use Rattle.pr_truss.specs.Reports.{all_reports}
use Rattle.pr_truss.specs.Trusses.{TrussState, first_truss, traced_at}
use Rattle.pr_truss.specs.declared.asides.Aside.TheVariants.{Nothing}
use Rattle.pr_truss.specs.declared.marks.Marks.{Marks}
use Rattle.pr_truss.specs.declared.processes.Traced.{Traced}
use Rattle.pr_truss.specs.declared.reports.Report.{Report}
use Rattle.pr_truss.specs.declared.stages.OpeningStep.TheVariants.{Start}
use Rattle.pr_truss.specs.declared.stages.Stage.{Stage}
use Rattle.pr_truss.specs.declared.stages.Stage.TheVariants.{Opening, ReadingStatus, ReadingText, Running, Closing, ReadingLwps}
use Rattle.pr_truss_laws.specs.Business.{DoesItsBusiness}
use Rattle.pr_truss_laws.specs.Exchanges.{Exchange, Makes, errno_in, truss_after}
use Rattle.pr_truss_laws.specs.Lines.{ReportsNoOther, line_of}
use Rattle.pr_truss_laws.specs.Sent.{sends}
use Rattle.pr_truss_laws.specs.Soon.{PollsSoon}
use Rattle.pr_function_laws.specs.Calls.{is_call}
use Rattle.pr_function_laws.specs.Runs.{functions_after}

-- ---- truss without its breakpoints

-- a process without what truss keeps of its breakpoints in it
abbrev pub unmarked : Traced → Traced
unmarked t = record t { marks = no_marks }

-- a report that is none of a call of a function
abbrev pub is_ordinary : Report → Bool
is_ordinary report = not (is_call report)

-- the reports but for the calls of functions, in their order
unfoldable pub ordinary_among : List Report → List Report
ordinary_among reports = filter is_ordinary reports

-- Truss without what it keeps of breakpoints and does about them, and without the calls that it has reported.
abbrev pub ordinary : TrussState → TrussState
ordinary s = record s { traced = map unmarked s.traced; aside = Nothing; reports = ordinary_among s.reports }

-- ---- its faults

-- An event is a fault of truss's own: FLTBPT at the address of a function whose breakpoint is planted there, or lifted
-- for the step over it; or FLTTRACE.
pub data IsOwnFault (o : Options) (m : Marks) : Event → Type 0 where
  at_breakpoint : {pc function : ℕ} → function_at o m pc ≡ Some function → IsOwnFault o m (Incurred Bpt pc)
  at_trap : {pc : ℕ} → IsOwnFault o m (Incurred Trace pc)

-- An lwp of the process at a place stands at such a fault, which truss has not looked at before.
pub record IsAtOwnFault (s : TrussState) (place : ℕ) (l : LwpStatus) : Type 0 where
  pub event : Event
  pub fresh : fresh_event (traced_at s place) l ≡ Some event
  pub own : IsOwnFault s.options (marks_at s place) event

-- of the lwp that was read, if one was
abbrev pub IsOwnStop : TrussState → ℕ → Option LwpStatus → Type 0
IsOwnStop s place None = ⊥
IsOwnStop s place (Some l) = IsAtOwnFault s place l

-- Truss reads the status of a process, or of a process that it leaves the statuses of its lwps; and the reply tells of
-- an lwp at a fault of truss's own, in the second the first one that stands on an event.
abbrev pub OwnFaultRead : TrussState → Reply → Stage → Type 0
OwnFaultRead s r (ReadingStatus place) = IsOwnStop s place (option_and_then status_lwp (bytes_in r))
OwnFaultRead s r ReadingLwps = IsOwnStop s 0 (slice_get (event_stops (bytes_in r)) 0)
OwnFaultRead s r stage = ⊥

abbrev pub TellsOfOwnFault : TrussState → Reply → Type 0
TellsOfOwnFault s r = OwnFaultRead s r s.stage

-- ---- its messages in place of those of truss

-- what both send: PCUNSET of all modes, PCSET of PR_RLC or PR_FORK, PCSTOP, and PCRUN with no run flag
abbrev pub is_common : Message → Bool
is_common (message.Unset modes) = modes == all_modes
is_common (message.Set modes) = (modes == rlc_mode) || (modes == fork_mode)
is_common message.Stop = true
is_common (message.Run flags) = flags == 0
is_common _ = false

-- Which message stands where truss sends another one, to the same file. The traced signals and faults are all; the
-- traced calls are also fork, vfork and exec, at their entry and at their exit; PCRUN may have PRCFAULT, PRSTEP or
-- both; and a process is left by PCSTOP, where truss unsets PR_FORK. All other messages, and the wait for the first
-- stop, are the same.
pub data StandsFor (o : Options) : Call → Call → Type 0 where
  common : {control : ℕ} (m : Message) → is_common m ≡ true
      → StandsFor o (message_call control m) (message_call control m)
  waits : {control until : ℕ}
      → StandsFor o (wait_call control until message.Stop) (wait_call control until message.Stop)
  signals : {control : ℕ} → StandsFor o (message_call control (message.Strace all_signals))
      (message_call control (message.Strace (traced_signals o)))
  faults : {control : ℕ} → StandsFor o (message_call control (message.Sfault all_faults))
      (message_call control (message.Sfault (traced_faults o)))
  entries : {control : ℕ} → StandsFor o (message_call control (message.Sentry (with_copying (traced_entries o))))
      (message_call control (message.Sentry (traced_entries o)))
  exits : {control : ℕ} → StandsFor o (message_call control (message.Sexit (with_copying (traced_exits o))))
      (message_call control (message.Sexit (traced_exits o)))
  runs : {control : ℕ} (flags : ℕ) → is_step_flags flags ≡ true
      → StandsFor o (message_call control (message.Run flags)) (message_call control (message.Run 0))
  leaves : {control : ℕ}
      → StandsFor o (message_call control message.Stop) (message_call control (message.Unset fork_mode))

-- ---- its messages besides

-- Before a process that it opens is run at first: PCREAD of the first instruction of a function, and PCWRITE of a
-- breakpoint over it.
pub data PlantsAtFirst (o : Options) (control : ℕ) : Call → Type 0 where
  reads_code : {function : ℕ} → function < length o.functions
      → PlantsAtFirst o control (read_code_call o control function)
  plants_at_first : {function : ℕ} → function < length o.functions
      → PlantsAtFirst o control (plant_call o control function)

-- Before a process is run later, or its memory is read: PCWRITE of a breakpoint, or of the first instruction of a
-- function.
pub data PlantsLater (o : Options) (control : ℕ) : Call → Type 0 where
  plants_again : {function : ℕ} → function < length o.functions
      → PlantsLater o control (plant_call o control function)
  lifts_again : {function : ℕ} → function < length o.functions → PlantsLater o control (lift_call o control function)

-- Before the files of a process are closed: PCWRITE of the first instruction of a function, and PCCFAULT.
pub data LiftsAtLast (o : Options) (control : ℕ) : Call → Type 0 where
  lifts_at_last : {function : ℕ} → function < length o.functions
      → LiftsAtLast o control (lift_call o control function)
  clears_fault : LiftsAtLast o control (message_call control message.Cfault)

-- Before the lwps of a process that it leaves are looked at: the wait for the stop, and PCWSTOP with its wait.
pub data AwaitsStop (control : ℕ) : Call → Type 0 where
  awaits : {until : ℕ} → AwaitsStop control (wait_call control until message.Stop)
  asks_again : AwaitsStop control (message_call control message.Wstop)
  awaits_again : {until : ℕ} → AwaitsStop control (wait_call control until message.Wstop)

-- Which messages and waits come besides, before the call of each stage. They go to the process of the stage.
abbrev pub SeesTo : TrussState → Stage → Call → Type 0
SeesTo s (Opening place Start) c = PlantsAtFirst s.options (traced_at s place).control c
SeesTo s (Running place) c = PlantsLater s.options (traced_at s place).control c
SeesTo s (ReadingText place l from len) c = PlantsLater s.options (traced_at s place).control c
SeesTo s (Closing place next) c = LiftsAtLast s.options (traced_at s place).control c
SeesTo s ReadingLwps c = AwaitsStop (traced_at s 0).control c
SeesTo s stage c = ⊥

-- Which replies to them change nothing else: in an opening, that it was granted; where files are closed, any; else any
-- but that the process has ended.
abbrev pub PassesOver : Stage → Reply → Type 0
PassesOver (Opening place now) r = errno_in r ≡ None
PassesOver (Closing place next) r = Unit {0}
PassesOver stage r = r ≢ reply.Fail Noent

-- Which refusals of them count as refusals of the call of the stage, which is then not made: in an opening, any; before
-- a run or a read, that the process has ended.
abbrev pub IsTakenUp : Stage → Errno → Type 0
IsTakenUp (Opening place Start) errno = Unit {0}
IsTakenUp (Running place) errno = errno ≡ Noent
IsTakenUp (ReadingText place l from len) errno = errno ≡ Noent
IsTakenUp ReadingLwps errno = errno ≡ Noent
IsTakenUp stage errno = ⊥

-- ---- its exchanges without those on breakpoints

-- How an exchange stands to one of a truss without calls of functions. It is the same, where it sends no message and
-- tells of no fault of truss's own. It sends the message that stands for another one, and was replied the same. It is a
-- message or wait besides, whose refusal counts as that of the call which truss makes there. Or it is a read that told
-- of a fault of truss's own, which counts as one that gave no bytes.
pub data IsLike (s : TrussState) : Exchange → Exchange → Type 0 where
  same : {x : Exchange} → sends x.call ≡ false → (TellsOfOwnFault s x.reply → ⊥) → IsLike s x x
  in_place : {c d : Call} {r : Reply} → StandsFor s.options c d
      → IsLike s (record { call = c; reply = r }) (record { call = d; reply = r })
  refused : {c d : Call} {errno : Errno} → SeesTo s s.stage c → IsTakenUp s.stage errno → next_call_of s ≡ Some d
      → IsLike s (record { call = c; reply = reply.Fail errno }) (record { call = d; reply = reply.Fail errno })
  own_fault : {handle from len : ℕ} {r : Reply} → TellsOfOwnFault s r
      → IsLike s (record { call = call.Read handle from len; reply = r })
      (record { call = call.Read handle from len; reply = reply.Bytes [] })

-- The later exchanges are those of the first list, which truss made from this state on, in their order, each like this;
-- but that messages and waits besides are left out which change nothing else.
pub data AreLike : TrussState → List Exchange → List Exchange → Type 0 where
  none : {s : TrussState} → AreLike s [] []
  one : {s : TrussState} {x y : Exchange} {xs ys : List Exchange} → IsLike s x y
      → AreLike (fed_functions s x.reply) xs ys → AreLike s (x ∷ xs) (y ∷ ys)
  left_out : {s : TrussState} {x : Exchange} {xs ys : List Exchange} → SeesTo s s.stage x.call
      → PassesOver s.stage x.reply → AreLike (fed_functions s x.reply) xs ys → AreLike s (x ∷ xs) ys

-- ---- its lines

-- What truss has reported after some of its exchanges it has reported after all, first, and in the same order. What it
-- prints after some of them is what it has reported then, the calls of functions too, and behind that at most one event
-- of which the memory is still to be read: the call of its stage reads just that, before which it sees to its
-- breakpoints at most. Without -c it prints a line for each report, and nothing else.
pub record PrintsInOrder (o : Options) (xs : List Exchange) : Type 0 where
  pub reports : (before after : List Exchange) → xs ≡ before ++ after
      → (more : List Report) × ((functions_after (first_truss o) xs).reports
      ≡ (functions_after (first_truss o) before).reports ++ more)
  pub no_other : (before after : List Exchange) → xs ≡ before ++ after
      → ReportsNoOther o (functions_after (first_truss o) before)
  pub lines : o.count ≡ false → printed (functions_after (first_truss o) xs)
      ≡ flat_map (line_of o) (all_reports (functions_after (first_truss o) xs))

-- There are exchanges of a truss without calls of functions, like those of this one, by which that truss does its own
-- business, polls soon, and runs just what a poll has named last, once for each poll, but where it ends an opening; it
-- has reported what this one has reported, but for the calls. All reports of this one, of calls too, are printed, and
-- stand in the order in which it learnt them.
pub record IsTrussBeside (o : Options) (xs : List Exchange) : Type 0 where
  pub others : List Exchange
  pub like : AreLike (first_truss o) xs others
  pub makes : Makes (first_truss o) others
  pub is : truss_after (first_truss o) others ≡ ordinary (functions_after (first_truss o) xs)
  pub business : DoesItsBusiness o others
  pub polls_soon : PollsSoon o others
  pub runs : RunsWhatWasNamed o others
  pub prints : PrintsInOrder o xs
