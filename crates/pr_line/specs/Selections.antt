-- Which events truss(1) shows and counts.
use Rattle.std.specs.Prelude.{◌==◌, ◌&&◌, ℕ, Bool, true, false, not, Result, Ok, Err}
use Rattle.pr_line.specs.declared.events.Event.{Event}
use Rattle.pr_line.specs.declared.events.Event.TheVariants.{Entered, Left, Received, Incurred}
use Rattle.pr_line.specs.declared.options.Options.{Options}
use Rattle.pr_num.specs.Faults.{fault_number}
use Rattle.pr_num.specs.Sets.{has_number}
use Rattle.pr_num.specs.Signals.{signal_number}
use Rattle.pr_num.specs.Syscalls.{is_fork_call, syscall_number}
use Rattle.pr_num.specs.declared.errnos.Errno.{Errno}
use Rattle.pr_num.specs.declared.syscalls.Sysno.{Sysno}
use Rattle.pr_num.specs.declared.syscalls.Sysno.TheVariants.{Exit, LwpExit}

-- whether a call ends its lwp where it succeeds, as it always does, so that only its entry can be shown
unfoldable pub never_returns : Sysno → Bool
never_returns Exit = true
never_returns LwpExit = true
never_returns _ = false

-- Whether the exit of a call is the stop of a child at its birth: a call that makes a child gives 0 to the child alone
-- (fork(2), vfork(2)). It is no event of the child's.
unfoldable pub is_birth : Sysno → Result ℕ Errno → Bool
is_birth call (Ok value) = is_fork_call call && (value == 0)
is_birth call (Err errno) = false

-- Whether an event has a line: a call as it ends, or as it is entered where it never returns; each signal and each
-- fault.
unfoldable pub has_line : Event → Bool
has_line (Entered call arguments) = never_returns call
has_line (Left call arguments result) = not (never_returns call) && not (is_birth call result)
has_line (Received signal disposition info) = true
has_line (Incurred fault pc) = true

-- whether the options choose the call, the signal or the fault of an event (-t, -s, -m)
unfoldable pub is_chosen : Options → Event → Bool
is_chosen o (Entered call arguments) = has_number o.calls (syscall_number call)
is_chosen o (Left call arguments result) = has_number o.calls (syscall_number call)
is_chosen o (Received signal disposition info) = has_number o.signals (signal_number signal)
is_chosen o (Incurred fault pc) = has_number o.faults (fault_number fault)

-- whether an event is shown, or counted with -c
unfoldable pub is_selected : Options → Event → Bool
is_selected o e = has_line e && is_chosen o e
