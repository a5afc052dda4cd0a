use Rattle.std.specs.Prelude.{ℕ, []}
use Rattle.pr_model.specs.declared.calls.Call.{Call}
use Rattle.pr_model.specs.declared.calls.Call.TheVariants as call
use Rattle.pr_num.specs.Control.{abort_call, klc_mode, rlc_mode}
use Rattle.pr_num.specs.Messages.{spelling}
use Rattle.pr_num.specs.Sets.{with_number}
use Rattle.pr_num.specs.Syscalls.{syscall_number}
use Rattle.pr_num.specs.declared.messages.Message.{Message}
use Rattle.pr_num.specs.declared.messages.Message.TheVariants as message
use Rattle.pr_num.specs.declared.syscalls.Sysno.TheVariants.{Write}
use Rattle.own_tracer.specs.declared.orders.Order.{Order}
use Rattle.own_tracer.specs.declared.orders.Order.TheVariants.{TraceWrites, Run, Abort, Spare, Release}

-- The messages that the injector writes (proc(4), "CONTROL MESSAGES").

unfoldable pub message_of : Order → Message
message_of TraceWrites = message.Sentry (with_number 0 (syscall_number Write))
message_of Run = message.Run 0
message_of Abort = message.Run abort_call
message_of Spare = message.Unset klc_mode
message_of Release = message.Set rlc_mode

-- each is a write of its own
abbrev pub order_call : ℕ → Order → Call
order_call control order = call.Ctl control (spelling (message_of order) [])
