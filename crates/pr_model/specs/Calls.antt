use Rattle.std.specs.Prelude.{◌==◌, ◌||◌, ◌+◌, ◌-◌, ◌^◌, ℕ, Bool, true, false, not, List, Option, Some, None, find, is_none, is_some, length, option_map, position, nat_lt, nat_le, if◌then◌else◌}
use Rattle.std.specs.Int.{bit_at}
use Rattle.std.specs.List.{list_all}
use Rattle.pr_num.specs.Infos.{killed_by}
use Rattle.pr_num.specs.Limits.{controller_limit, handle_limit}
use Rattle.pr_num.specs.Programs.{Program}
use Rattle.pr_num.specs.Sets.{with_number}
use Rattle.pr_num.specs.declared.errnos.Errno.{Errno}
use Rattle.pr_num.specs.declared.errnos.Errno.TheVariants.{Inval, Noent, Badf, Mfile, Intr}
use Rattle.pr_rec.specs.RecordBytes.{list_bytes}
use Rattle.pr_model.specs.ControlMessages.{control_answer, wait_reply, target_of, target_stopped}
use Rattle.pr_model.specs.Handles.{is_control, handle_of, open_refusal, with_opened, with_closed}
use Rattle.pr_model.specs.Lives.{with_spawned}
use Rattle.pr_model.specs.Machines.{traced}
use Rattle.pr_model.specs.Messages.{Controlled}
use Rattle.pr_model.specs.ProcessCalls.{program_named}
use Rattle.pr_model.specs.Readers.{life_of}
use Rattle.pr_model.specs.Reads.{read_reply}
use Rattle.pr_model.specs.Records.{list_of}
use Rattle.pr_model.specs.SignalCalls.{Sending, refuses, sends_nothing, sends, sending, with_sent}
use Rattle.pr_model.specs.Spawning.{spawn_refusal}
use Rattle.pr_model.specs.State.{TracedState, TracedSystem, TracedProcess, Places, live_process, with_system}
use Rattle.pr_model.specs.declared.calls.Call.{Call}
use Rattle.pr_model.specs.declared.calls.Call.TheVariants.{Open, Close, Ctl, CtlWait, Read, Poll, Interrupt, Spawn, Kill, Until, List as ListProcesses}
use Rattle.pr_model.specs.declared.calls.File.{File}
use Rattle.pr_model.specs.declared.calls.Mode.{Mode}
use Rattle.pr_model.specs.declared.calls.Reply.{Reply}
use Rattle.pr_model.specs.declared.calls.Reply.TheVariants.{Handle, Done, Bytes, Pid, Ready, Fail}
use Rattle.pr_model.specs.declared.handles.Held.{Held}

-- The calls that controllers make of the kernel: what each answers, and the state after it.

-- a state, and the reply to the call that led to it
pub record Answer : Type 0 where
  pub state : TracedState
  pub reply : Reply

-- a call refused: nothing changes
abbrev pub refused : TracedState → Errno → Answer
refused s e = record { state = s; reply = Fail e }

-- ---- opening and closing

-- An open answers the least number that is free, and is refused last of all where none is.
abbrev pub opened : TracedState → Held → Option ℕ → Answer
opened s h None = refused s Mfile
opened s h (Some place) = record { state = with_opened h place s; reply = Handle place }

abbrev pub open_unless : TracedState → Held → Option Errno → Answer
open_unless s h (Some e) = refused s e
open_unless s h None = opened s h (position is_none s.opens)

unfoldable pub open_answer : TracedState → ℕ → ℕ → ℕ → File → Mode → Answer
open_answer s by pid id file mode =
    open_unless s (record { controller = by; pid = pid; lwp = id; file = file; mode = mode })
    (open_refusal s pid id file mode)

abbrev pub close_held : TracedState → ℕ → Option Held → Answer
close_held s handle None = refused s Badf
close_held s handle (Some h) = record { state = with_closed h handle s; reply = Done }

unfoldable pub close_answer : TracedState → ℕ → ℕ → Answer
close_answer s by handle = close_held s handle (handle_of s.opens by handle)

-- ---- replies that leave the state, and interrupts

abbrev pub answered : TracedState → Reply → Answer
answered s reply = record { state = s; reply = reply }

-- whether a controller was interrupted and has not seen it yet
abbrev pub is_interrupted : TracedState → ℕ → Bool
is_interrupted s by = bit_at s.interrupted by == 1

abbrev pub with_interrupt_seen : ℕ → TracedState → TracedState
with_interrupt_seen by s = record s { interrupted = s.interrupted - 2 ^ by }

-- EINTR is how a controller sees that it was interrupted
abbrev pub interrupted_answer : TracedState → ℕ → Answer
interrupted_answer s by = refused (with_interrupt_seen by s) Intr

-- ---- control messages

-- control messages change the system alone
abbrev pub controlled : TracedState → Controlled → Answer
controlled s c = record { state = record s { system = c.system }; reply = c.reply }

-- a wait changes nothing, but that EINTR is how a controller sees that it was interrupted
abbrev pub waited : TracedState → ℕ → Reply → Answer
waited s by (Fail Intr) = interrupted_answer s by
waited s by reply = answered s reply

-- ---- waiting for several handles (poll(2))

-- whether what a control handle stands for, if it has not ended, is stopped on an event of interest
abbrev pub control_ready : Held → Option TracedProcess → Bool
control_ready h None = true
control_ready h (Some p) = target_stopped h p

-- A handle of a control file is ready where what it stands for has ended or is stopped on an event of interest, and any
-- other where its process has ended.
unfoldable pub is_handle_ready : TracedSystem → Held → Bool
is_handle_ready s h = if is_control h.file then control_ready h (target_of s h) else is_none (live_process s h.pid)

-- whether a number is an open handle of a controller; and one that is ready
abbrev pub is_open_by : Places → ℕ → ℕ → Bool
is_open_by opens by handle = is_some (handle_of opens by handle)

abbrev pub is_held_ready : TracedSystem → Option Held → Bool
is_held_ready s None = false
is_held_ready s (Some h) = is_handle_ready s h

unfoldable pub is_polled_ready : TracedState → ℕ → ℕ → Bool
is_polled_ready s by handle = is_held_ready s.system (handle_of s.opens by handle)

-- the first ready handle of a list
abbrev pub ready_answer : TracedState → Option ℕ → Option Answer
ready_answer s None = None
ready_answer s (Some handle) = Some (answered s (Ready handle))

-- EBADF: a handle is not open; EINVAL: no handle, or more than can be open; EINTR
unfoldable pub poll_answer : TracedState → ℕ → List ℕ → Option Answer
poll_answer s by handles =
    if not (list_all (is_open_by s.opens by) handles) then Some (refused s Badf)
    else (if (length handles == 0) || nat_lt handle_limit (length handles) then Some (refused s Inval)
    else (if is_interrupted s by then Some (interrupted_answer s by)
    else ready_answer s (find (is_polled_ready s by) handles)))

-- ---- waiting for the clock, and interrupting a wait

-- EINTR
unfoldable pub until_answer : TracedState → ℕ → ℕ → Option Answer
until_answer s by moment =
    if is_interrupted s by then Some (interrupted_answer s by)
    else (if nat_le moment s.system.clock then Some (answered s Done) else None)

-- EINVAL: no controller has this number. One that does not exist or has finished stays interrupted.
unfoldable pub interrupt_answer : TracedState → ℕ → Answer
interrupt_answer s controller =
    if nat_lt controller controller_limit
    then record { state = record s { interrupted = with_number s.interrupted (controller + 1) }; reply = Done }
    else refused s Inval

-- ---- what comes from outside: processes and signals

-- ENOENT: no such program; EAGAIN, ENOMEM
abbrev pub spawn_unless : TracedState → Program → Bool → Option Errno → Answer
spawn_unless s program held (Some e) = refused s e
spawn_unless s program held None =
    record { state = with_system (with_spawned traced program held) s; reply = Pid s.system.made }

abbrev pub spawn_found : TracedState → Bool → Option Program → Answer
spawn_found s held None = refused s Noent
spawn_found s held (Some program) = spawn_unless s program held (spawn_refusal s.system program)

unfoldable pub spawn_answer : TracedState → List ℕ → Bool → Answer
spawn_answer s name held = spawn_found s held (program_named s.system.programs name)

-- EINVAL, EPERM, ESRCH, EAGAIN
abbrev pub sent_reply : Sending → Reply
sent_reply (refuses e) = Fail e
sent_reply sends_nothing = Done
sent_reply (sends g) = Done

unfoldable pub kill_answer : TracedState → ℕ → ℕ → Answer
kill_answer s pid number = record {
  state = with_system (with_sent traced pid (killed_by 0) (sending pid number (life_of s.system pid))) s;
  reply = sent_reply (sending pid number (life_of s.system pid));
}

-- ---- the calls

-- What the machine answers to a call of a controller, a row a call. None: the call is not ready, which CtlWait, Poll
-- and Until alone can be.
unfoldable pub answer_to : TracedState → ℕ → Call → Option Answer
answer_to s by (Open pid id file mode) = Some (open_answer s by pid id file mode)
answer_to s by (Close handle) = Some (close_answer s by handle)
answer_to s by (Ctl handle bytes) = Some (controlled s (control_answer s.system s.opens by handle bytes))
answer_to s by (CtlWait handle until bytes) =
    option_map (waited s by) (wait_reply s.system s.opens by handle until (is_interrupted s by) bytes)
answer_to s by (Read handle from len) = Some (answered s (read_reply s by handle from len))
answer_to s by (Poll handles) = poll_answer s by handles
answer_to s by (Interrupt controller) = Some (interrupt_answer s controller)
answer_to s by (Spawn program held) = Some (spawn_answer s program held)
answer_to s by (Kill pid sig) = Some (kill_answer s pid sig)
answer_to s by (Until moment) = until_answer s by moment
answer_to s by ListProcesses = Some (answered s (Bytes (list_bytes (list_of s.system))))
