-- How truss with calls of functions leaves its processes, once a wait of it was interrupted.
use Rattle.std.specs.Prelude.{◌≡◌, ◌&&◌, ◌++◌, ℕ, Bool, true, false, All, List, [], ◌∷◌, Option, None, Some, slice_get}
use Rattle.pr_line.specs.declared.events.Event.{Event}
use Rattle.pr_line.specs.declared.options.Options.{Options}
use Rattle.pr_model.specs.Replies.{bytes_in, until_in}
use Rattle.pr_model.specs.declared.calls.Call.{Call}
use Rattle.pr_model.specs.declared.calls.Reply.{Reply}
use Rattle.pr_model.specs.declared.calls.Reply.TheVariants as reply
use Rattle.pr_model.specs.declared.events.Entry.{Entry}
use Rattle.pr_num.specs.declared.errnos.Errno.TheVariants.{Intr}
use Rattle.pr_num.specs.declared.messages.Message.TheVariants as message
use Rattle.pr_rec.specs.declared.lwps.LwpStatus.{LwpStatus}
use Rattle.pr_truss.specs.Asides.{has_fault_to_clear}
use Rattle.pr_truss.specs.FunctionCalls.{wait_call}
use Rattle.pr_truss.specs.FunctionEvents.{fresh_event, function_event}
use Rattle.pr_truss.specs.Messages.{message_call}
use Rattle.pr_truss.specs.NextCalls.{read_record}
use Rattle.pr_truss.specs.Records.{event_stops, is_on_event}
use Rattle.pr_truss.specs.Replies.{answer_of}
use Rattle.pr_truss.specs.declared.function_events.FunctionEvent.{FunctionEvent}
use Rattle.pr_truss.specs.declared.function_events.FunctionEvent.TheVariants.{AtBreakpoint, Completed, Other, TraceTrap, BeforeCopy, AfterCopy, Replaced}
use Rattle.pr_truss.specs.declared.processes.Traced.{Traced}
use Rattle.pr_truss.specs.declared.replies.Answer.{Answer}
use Rattle.pr_truss.specs.declared.replies.Answer.TheVariants.{Accepted, Interrupted, Gone, Refused}
use Rattle.pr_truss_laws.specs.Exchanges.{Exchange, exchange_of, exchanges}
use Rattle.pr_function_laws.specs.Coming.{Come, ComeWhileItLives, Later, close_calls, lift_calls}
use Rattle.pr_function_laws.specs.Opened.{WasNotInterrupted, functions_at}
use Rattle.pr_function_laws.specs.Treated.{text_calls}

-- ---- the stop

-- Truss directs the process to stop, waits for that, asks for the stop again, and waits again; or it has done so, and
-- looks at the lwps; or the process has ended.
pub data HaltStep : Type 0 where
  Directs : HaltStep
  Waits : (until : ℕ) → HaltStep
  AsksAgain : HaltStep
  WaitsAgain : (until : ℕ) → HaltStep

pub data HaltNext : Type 0 where
  Goes : HaltStep → HaltNext
  Looks : HaltNext
  Ends : HaltNext

abbrev pub halt_call : Traced → HaltStep → Call
halt_call t Directs = message_call t.control message.Stop
halt_call t (Waits until) = wait_call t.control until message.Stop
halt_call t AsksAgain = message_call t.control message.Wstop
halt_call t (WaitsAgain until) = wait_call t.control until message.Wstop

-- What comes after each reply. An interrupt makes truss ask again, as often as one comes; another refusal is passed
-- over, but not that the process has ended.
abbrev pub halt_next : HaltStep → Reply → Answer → HaltNext
halt_next step r Gone = Ends
halt_next step r Interrupted = Goes AsksAgain
halt_next step r (Refused errno) = Looks
halt_next Directs r Accepted = Goes (Waits (until_in r))
halt_next (Waits until) r Accepted = Looks
halt_next AsksAgain r Accepted = Goes (WaitsAgain (until_in r))
halt_next (WaitsAgain until) r Accepted = Looks

-- ---- the last look

-- a fault is cleared, if one is to be
abbrev pub clear_calls : Traced → Bool → List Call
clear_calls t true = message_call t.control message.Cfault ∷ []
clear_calls t false = []

-- What comes of an event that truss has not looked at, a row a kind: all that stand are lifted, and the fault is
-- cleared where it is one of truss's own.
abbrev pub last_event_calls : Options → Traced → Event → FunctionEvent → List Call
last_event_calls o t e (AtBreakpoint function) = lift_calls o t.control t.marks.planted ++ clear_calls t true
last_event_calls o t e (Completed step) = lift_calls o t.control t.marks.planted ++ clear_calls t true
last_event_calls o t e TraceTrap = lift_calls o t.control t.marks.planted ++ clear_calls t true
last_event_calls o t e Replaced = text_calls o t e
last_event_calls o t e BeforeCopy = text_calls o t e ++ lift_calls o t.control t.marks.planted
last_event_calls o t e AfterCopy = text_calls o t e ++ lift_calls o t.control t.marks.planted
last_event_calls o t e Other = text_calls o t e ++ lift_calls o t.control t.marks.planted

-- A stop that is no such event: all that stand are lifted, and the fault is cleared where the lwp stands on an event
-- still and truss has a fault of its own left there.
abbrev pub last_stop_calls : Options → Traced → LwpStatus → Option Event → List Call
last_stop_calls o t l None =
    lift_calls o t.control t.marks.planted ++ clear_calls t (is_on_event l && has_fault_to_clear t.marks)
last_stop_calls o t l (Some e) = last_event_calls o t e (function_event o t.marks l.id e)

-- What comes of the lwp that was read, if one stands on an event.
abbrev pub last_calls : Options → Traced → Option LwpStatus → List Call
last_calls o t None = lift_calls o t.control t.marks.planted
last_calls o t (Some l) = last_stop_calls o t l (fresh_event t l)

-- The calls that the last look brings about, by its reply; a refused one tells of no lwp.
abbrev pub look_calls : Options → Traced → Reply → Answer → List Call
look_calls o t r Accepted = last_calls o t (slice_get (event_stops (bytes_in r)) 0)
look_calls o t r Gone = []
look_calls o t r Interrupted = lift_calls o t.control t.marks.planted
look_calls o t r (Refused errno) = lift_calls o t.control t.marks.planted

-- ---- one process, and all of them

-- Truss looks at the lwps of a process, does that, and closes its files; once it is told that the process has ended it
-- closes them at once.
abbrev pub LooksLast : Options → Traced → Later → Later
LooksLast o t Then [] = Unit {0}
LooksLast o t Then (x ∷ xs) =
    (x.call ≡ read_record t.lstatus)
    × ComeWhileItLives (look_calls o t x.reply (answer_of x.reply)) (Come (close_calls t) Then)
    (Come (close_calls t) Then) xs

-- the steps of the stop, and then the last look
abbrev pub Halts : Options → Traced → Later → HaltNext → Later
Halts o t Then (Goes step) [] = Unit {0}
Halts o t Then (Goes step) (x ∷ xs) =
    (x.call ≡ halt_call t step) × Halts o t Then (halt_next step x.reply (answer_of x.reply)) xs
Halts o t Then Looks xs = LooksLast o t Then xs
Halts o t Then Ends xs = Come (close_calls t) Then xs

-- A process that was attached is directed to stop first. One whose opening had not come to its stop is only closed.
abbrev pub LeavesOne : Options → Traced → Later → Bool → Later
LeavesOne o t Then true xs = Halts o t Then (Goes Directs) xs
LeavesOne o t Then false xs = Come (close_calls t) Then xs

-- Truss leaves these processes, one after another, and then it has finished.
abbrev pub LeavesAll : Options → List Traced → Later
LeavesAll o [] xs = xs ≡ []
LeavesAll o (t ∷ ts) xs = LeavesOne o t (LeavesAll o ts) t.attached xs

-- From the first interrupt on truss leaves the processes that it traces then, and does nothing else.
pub record LeavesItsProcesses (k : ℕ) (o : Options) (h : List Entry) : Type 0 where
  pub each : (before later : List Entry) (e : Entry) (x : Exchange) → h ≡ before ++ e ∷ later
      → exchange_of k e ≡ Some x → All WasNotInterrupted (exchanges k before) → x.reply ≡ reply.Fail Intr
      → LeavesAll o (functions_at k o (before ++ e ∷ [])).traced (exchanges k later)
