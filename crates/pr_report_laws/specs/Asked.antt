use Rattle.std.specs.Prelude.{◌≡◌, ◌≢◌, ◌==◌, ◌||◌, ◌&&◌, ◌+◌, ◌^◌, ◌≤◌, ℕ, Bool, true, false, Option, List, [], filter, is_none, is_some, not, length, take, nat_lt, option_and_then, unwrap_or, Some, None, Ok, Err, if◌then◌else◌}
use Rattle.std.specs.List.{All}
use Rattle.pr_line.specs.Events.{event_of}
use Rattle.pr_line.specs.Selections.{is_chosen, is_selected, never_returns}
use Rattle.pr_line.specs.TextRanges.{text_range}
use Rattle.pr_line.specs.declared.events.Event.{Event}
use Rattle.pr_line.specs.declared.events.Event.TheVariants.{Entered, Left, Received, Incurred}
use Rattle.pr_line.specs.declared.options.Options.{Options}
use Rattle.pr_model.specs.declared.calls.Call.TheVariants.{Ctl}
use Rattle.pr_model.specs.declared.calls.Reply.TheVariants as reply
use Rattle.pr_num.specs.Control.{async_mode, fork_mode, klc_mode, rlc_mode}
use Rattle.pr_num.specs.Faults.{fault_number}
use Rattle.pr_num.specs.Limits.{asked_limit, lwp_limit}
use Rattle.pr_num.specs.Messages.{spelling}
use Rattle.pr_num.specs.Sets.{common_word, has_number, minus_word, with_number}
use Rattle.pr_num.specs.Signals.{signal_number}
use Rattle.pr_num.specs.Syscalls.{is_fork_call, syscall_number}
use Rattle.pr_num.specs.declared.errnos.Errno.{Errno}
use Rattle.pr_num.specs.declared.faults.Flt.{Flt}
use Rattle.pr_num.specs.declared.infos.Info.{Info}
use Rattle.pr_num.specs.declared.messages.Message.{Message}
use Rattle.pr_num.specs.declared.signals.Sig.{Sig}
use Rattle.pr_num.specs.declared.stop_reasons.StopReason.{StopReason}
use Rattle.pr_num.specs.declared.stop_reasons.StopReason.TheVariants.{SysExit}
use Rattle.pr_num.specs.declared.syscalls.Sysno.{Sysno}
use Rattle.pr_num.specs.declared.syscalls.Sysno.TheVariants.{Exit, Fork, LwpExit, Vfork}
use Rattle.pr_rec.specs.InRange.{IsLwpStatus, IsStatus}
use Rattle.pr_rec.specs.RecordBytes.{lstatus_bytes, status_bytes}
use Rattle.pr_rec.specs.declared.lwps.Disposition.{Disposition}
use Rattle.pr_rec.specs.declared.lwps.LwpStatus.{LwpStatus}
use Rattle.pr_rec.specs.declared.statuses.Status.{Status}
use Rattle.pr_truss.specs.Messages.{all_modes, message_call, traced_entries, traced_exits, traced_faults, traced_signals}
use Rattle.pr_truss.specs.Openings.{pid_in}
use Rattle.pr_truss.specs.Records.{child_of, event_stops, is_on_event, lstatus_lwps, status_lwp}
use Rattle.pr_truss.specs.Stops.{asked_range, text_of}
use Rattle.pr_report_laws.specs.Reads.{traces}

-- What the other laws name by words of truss's own, said in those of the options, of messages and of memory.

-- ---- what is traced

-- Whether the options ask for an event to be traced. They choose its signal, its fault or its call, which is traced as
-- it ends, or as it is entered where it never returns; and with -f each fork and vfork is traced as it ends.
abbrev pub is_asked : Options → Event → Bool
is_asked o (Entered call arguments) = is_chosen o (Entered call arguments) && never_returns call
is_asked o (Left call arguments result) =
    (is_chosen o (Left call arguments result) && not (never_returns call)) || (o.follow && is_fork_call call)
is_asked o (Received signal disposition info) = is_chosen o (Received signal disposition info)
is_asked o (Incurred fault pc) = is_chosen o (Incurred fault pc)

-- The calls that never return. This set and the next one are written out, and not taken from truss, which has them as
-- `ending_calls` and `with_forks`: so what is traced is read here without a word of its own.
abbrev pub calls_without_return : ℕ
calls_without_return = with_number (with_number 0 (syscall_number Exit)) (syscall_number LwpExit)

-- some calls, and fork and vfork
abbrev pub and_forks : ℕ → ℕ
and_forks calls = with_number (with_number calls (syscall_number Fork)) (syscall_number Vfork)

-- The sets that truss has traced have just what is asked for, and nothing beside: they are the words of the options,
-- but for the calls. Of these the ones that never return are traced at their entry, the others at their exit, and with
-- -f fork and vfork at their exit too.
pub record TracesWhatIsAsked (o : Options) : Type 0 where
  pub each : (e : Event) → traces o e ≡ is_asked o e
  pub signals : traced_signals o ≡ o.signals
  pub faults : traced_faults o ≡ o.faults
  pub entries : traced_entries o ≡ common_word o.calls calls_without_return
  pub exits : o.follow ≡ false → traced_exits o ≡ minus_word o.calls calls_without_return
  pub exits_and_forks : o.follow ≡ true → traced_exits o ≡ and_forks (minus_word o.calls calls_without_return)

-- ---- what is shown

-- Which events truss shows, or counts with -c: the signals of -s and the faults of -m; and of the calls of -t exit and
-- lwp_exit as they are entered, since these never return (exit(2), _lwp_exit(2)), and each other one as it ends, with
-- an errno or with a value. The value 0 of fork and vfork is not shown: that is the child's stop at its birth, since
-- the parent gets the id of the child (fork(2), vfork(2)).
pub record SelectsWhatIsNamed (o : Options) : Type 0 where
  pub signals : (signal : Sig) (disposition : Disposition) (info : Info)
      → is_selected o (Received signal disposition info) ≡ has_number o.signals (signal_number signal)
  pub faults : (fault : Flt) (pc : ℕ) → is_selected o (Incurred fault pc) ≡ has_number o.faults (fault_number fault)
  pub entries : (call : Sysno) (arguments : List ℕ) → is_selected o (Entered call arguments)
      ≡ has_number (common_word o.calls calls_without_return) (syscall_number call)
  pub refused : (call : Sysno) (arguments : List ℕ) (errno : Errno) → is_selected o (Left call arguments (Err errno))
      ≡ has_number (minus_word o.calls calls_without_return) (syscall_number call)
  pub returned : (call : Sysno) (arguments : List ℕ) (value : ℕ) → value ≢ 0
      → is_selected o (Left call arguments (Ok value))
      ≡ has_number (minus_word o.calls calls_without_return) (syscall_number call)
  pub returned_zero : (call : Sysno) (arguments : List ℕ) → is_selected o (Left call arguments (Ok 0))
      ≡ has_number (minus_word o.calls (and_forks calls_without_return)) (syscall_number call)

-- ---- what is written

-- Each write of truss to a control file is one message, encoded as proc(4) says, and nothing more. The modes that it
-- clears when it opens a process are all that there are.
pub record WritesOneMessage : Type 0 where
  pub each : (control : ℕ) (message : Message) → message_call control message ≡ Ctl control (spelling message [])
  pub modes : all_modes ≡ fork_mode + rlc_mode + klc_mode + async_mode

-- ---- what is read for a line

-- The memory that truss asks for is that of the line of the event; with -c, where there are no lines, it asks for none.
-- The text of the line is what came of it, at most as much as a line asks for; it is cut short where less came than was
-- asked for, and there is none where nothing came.
pub record AsksForItsLines (o : Options) : Type 0 where
  pub range : (e : Event) → asked_range o e ≡ (if o.count then None else text_range e)
  pub came : (len : ℕ) (bytes : List ℕ)
      → text_of len (Some bytes) ≡ Some (take asked_limit bytes, nat_lt (length bytes) len)
  pub nothing : (len : ℕ) → text_of len None ≡ None

-- ---- what it makes of replies

abbrev pub is_at_exit : Option StopReason → Bool
is_at_exit (Some SysExit) = true
is_at_exit _ = false

abbrev pub makes_child : Option Sysno → Bool
makes_child (Some call) = is_fork_call call
makes_child None = false

-- The child that an lwp has just made: it stands at the exit of fork or vfork, which gave the id of a process; in the
-- child itself it gives 0.
abbrev pub child_made : LwpStatus → Option ℕ
child_made l =
    if (is_at_exit l.why && makes_child l.call && is_none l.errno) && not (l.result == 0) && nat_lt l.result (2 ^ 32)
    then Some l.result else None

-- The process that truss made is the one of the reply. A child is what an lwp at the exit of a fork or vfork has made.
-- An lwp stands on an event where its status tells one, and the stops of a process are its lwps that do. Of each status
-- of a process, whatever its flags, it reads the representative lwp as it stands there, and of each record of lwps all
-- of them.
pub record ReadsItsReplies : Type 0 where
  pub pid : (n : ℕ) → pid_in (reply.Pid n) ≡ n
  pub child : (l : LwpStatus) → child_of l ≡ child_made l
  pub on_event : (l : LwpStatus) → is_on_event l ≡ is_some (event_of l)
  pub stops : (bytes : Option (List ℕ)) → event_stops bytes
      ≡ filter (λ l. is_some (event_of l)) (unwrap_or (option_and_then lstatus_lwps bytes) [])
  pub status : (s : Status) → IsStatus s → status_lwp (status_bytes s) ≡ Some s.lwp
  pub lstatus : (lwps : List LwpStatus) → length lwps ≤ lwp_limit → All IsLwpStatus lwps
      → lstatus_lwps (lstatus_bytes lwps) ≡ Some lwps
