-- The line of an event (truss(1)).
use Rattle.std.specs.Prelude.{ℕ, Bool, true, false, Option, Some, None, List, [], ◌++◌, codes, decimal, Result, Ok, Err, if◌then◌else◌}
use Rattle.std.specs.Result.{result_ok}
use Rattle.pr_line.specs.ArgumentTexts.{Came, arguments_text}
use Rattle.pr_line.specs.Events.{event_of}
use Rattle.pr_line.specs.Selections.{has_line}
use Rattle.pr_model.specs.ShownBytes.{buffer_size}
use Rattle.pr_line.specs.declared.events.Event.{Event}
use Rattle.pr_line.specs.declared.events.Event.TheVariants.{Entered, Left, Received, Incurred}
use Rattle.pr_line.specs.declared.options.Options.{Options}
use Rattle.pr_num.specs.Errnos.{errno_number, errno_name}
use Rattle.pr_num.specs.Faults.{fault_number, fault_name}
use Rattle.pr_num.specs.Signals.{signal_number, signal_name}
use Rattle.pr_num.specs.Syscalls.{syscall_name, syscall_args}
use Rattle.pr_num.specs.declared.errnos.Errno.{Errno}
use Rattle.pr_num.specs.declared.faults.Flt.{Flt}
use Rattle.pr_num.specs.declared.infos.Info.{Info}
use Rattle.pr_num.specs.declared.signals.Sig.{Sig}
use Rattle.pr_num.specs.declared.syscalls.Sysno.{Sysno}
use Rattle.pr_rec.specs.declared.lwps.Disposition.{Disposition}
use Rattle.pr_rec.specs.declared.lwps.Disposition.TheVariants.{Default, Ignored, Caught}
use Rattle.pr_rec.specs.declared.lwps.LwpStatus.{LwpStatus}
use Rattle.pr_text.specs.Numerals.{hex_text}

-- What stands before an event: the process with -f, the lwp with -l.
unfoldable pub prefix : Bool → Bool → ℕ → ℕ → List ℕ
prefix false false pid id = []
prefix true false pid id = decimal pid ++ codes ": "
prefix false true pid id = codes "/" ++ decimal id ++ codes ": "
prefix true true pid id = decimal pid ++ codes "/" ++ decimal id ++ codes ": "

-- a call with its arguments, of which a buffer shows so many bytes
unfoldable pub call_text : Sysno → List ℕ → Option ℕ → Came → List ℕ
call_text call arguments size text =
    syscall_name call ++ codes "(" ++ arguments_text size text arguments (syscall_args call) 0 ++ codes ")"

-- the number and the name of an entry of a table, with a text before each
abbrev pub entry_text : List ℕ → ℕ → List ℕ → List ℕ → List ℕ
entry_text label number separator name = label ++ decimal number ++ separator ++ name

-- what a call gave
unfoldable pub result_text : Result ℕ Errno → List ℕ
result_text (Ok value) = codes " = " ++ decimal value
result_text (Err errno) = entry_text (codes " Err#") (errno_number errno) (codes " ") (errno_name errno)

unfoldable pub disposition_text : Disposition → List ℕ
disposition_text Default = codes "default"
disposition_text Ignored = codes "ignored"
disposition_text Caught = codes "caught"

-- where a signal came from (siginfo.h(3HEAD))
unfoldable pub info_text : Info → List ℕ
info_text info =
    codes " code " ++ decimal info.code ++ codes " pid " ++ decimal info.pid ++ codes " value " ++ decimal info.value

-- a signal that was taken
unfoldable pub signal_text : Sig → Disposition → List ℕ
signal_text signal disposition =
    entry_text (codes "Received signal #") (signal_number signal) (codes ", ") (signal_name signal)
    ++ codes " [" ++ disposition_text disposition ++ codes "]"

-- a fault that was incurred
unfoldable pub fault_text : Flt → ℕ → List ℕ
fault_text fault pc =
    entry_text (codes "Incurred fault #") (fault_number fault) (codes ", ") (fault_name fault) ++ codes ", pc = "
    ++ hex_text pc

-- What happened, a row an event. Memory is read only for a call that has ended: one that is entered has numbers alone.
unfoldable pub happening_text : Event → Came → List ℕ
happening_text (Entered call arguments) text = call_text call arguments None None
happening_text (Left call arguments result) text =
    call_text call arguments (buffer_size call arguments (result_ok result)) text ++ result_text result
happening_text (Received signal disposition info) text = signal_text signal disposition ++ info_text info
happening_text (Incurred fault pc) text = fault_text fault pc

-- an event of an lwp with what stands before it
unfoldable pub told_text : Options → ℕ → ℕ → Event → Came → List ℕ
told_text o pid id event text = prefix o.follow o.lwps pid id ++ happening_text event text

-- the same, where there is an event that has a line
abbrev pub line_of : Options → ℕ → ℕ → Option Event → Came → List ℕ
line_of o pid id None text = []
line_of o pid id (Some event) text = if has_line event then told_text o pid id event text else []

-- The line of the event that an lwp stands on, of a process; the read of memory for it gave a text. Nothing where
-- there is no line.
unfoldable pub event_text : Options → ℕ → LwpStatus → Came → List ℕ
event_text o pid status text = line_of o pid status.id (event_of status) text
