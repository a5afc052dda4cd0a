-- The control messages that truss(1) sends (proc(4), "CONTROL MESSAGES"), and what it traces.
use Rattle.std.specs.Prelude.{◌+◌, ℕ, [], if◌then◌else◌}
use Rattle.pr_line.specs.declared.options.Options.{Options}
use Rattle.pr_model.specs.declared.calls.Call.{Call}
use Rattle.pr_model.specs.declared.calls.Call.TheVariants as call
use Rattle.pr_num.specs.Control.{fork_mode, rlc_mode, klc_mode, async_mode}
use Rattle.pr_num.specs.Messages.{spelling}
use Rattle.pr_num.specs.Sets.{common_word, minus_word, with_number}
use Rattle.pr_num.specs.Syscalls.{syscall_number}
use Rattle.pr_num.specs.declared.messages.Message.{Message}
use Rattle.pr_num.specs.declared.syscalls.Sysno.TheVariants.{Exit, Fork, LwpExit, Vfork}

-- each message is a write of its own
abbrev pub message_call : ℕ → Message → Call
message_call control message = call.Ctl control (spelling message [])

abbrev pub all_modes : ℕ
all_modes = fork_mode + rlc_mode + klc_mode + async_mode

-- the signals that are traced: the selected ones
unfoldable pub traced_signals : Options → ℕ
traced_signals o = o.signals

-- the faults that are traced: the selected ones
unfoldable pub traced_faults : Options → ℕ
traced_faults o = o.faults

-- The calls that end their lwp have no exit: they are traced at their entry.
unfoldable pub ending_calls : ℕ
ending_calls = with_number (with_number 0 (syscall_number Exit)) (syscall_number LwpExit)

-- the calls that are traced at their entry: the selected ones of those that end their lwp
unfoldable pub traced_entries : Options → ℕ
traced_entries o = common_word o.calls ending_calls

-- a set of calls with those that make a child
unfoldable pub with_forks : ℕ → ℕ
with_forks calls = with_number (with_number calls (syscall_number Fork)) (syscall_number Vfork)

-- The calls that are traced at their exit: the other selected ones, and where children are followed those too that make
-- them.
unfoldable pub traced_exits : Options → ℕ
traced_exits o =
    if o.follow then with_forks (minus_word o.calls ending_calls) else minus_word o.calls ending_calls
