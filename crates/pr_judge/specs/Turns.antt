use Rattle.std.specs.Prelude.{◌==◌, ◌&&◌, Bool, true, false, not, if◌then◌else◌}
use Rattle.pr_num.specs.Errnos.{errno_number}
use Rattle.pr_num.specs.Faults.{fault_number}
use Rattle.pr_num.specs.Signals.{signal_number}
use Rattle.pr_num.specs.Syscalls.{syscall_number}
use Rattle.pr_model.specs.declared.events.Did.{Did}
use Rattle.pr_model.specs.declared.events.Did.TheVariants.{Stopped, Ran, Entered, Made, Slept, Woke, Returned, Faulted, Posted, Took, Acted}
use Rattle.pr_model.specs.declared.events.How.{How}
use Rattle.pr_model.specs.declared.events.How.TheVariants.{Caught, Ignored, JobStop, Died}
use Rattle.pr_model.specs.declared.events.Res.{Res}
use Rattle.pr_model.specs.declared.events.Res.TheVariants.{Value, Error, Ended}
use Rattle.pr_model.specs.declared.events.Turned.{Turned}

-- whether two results of calls are one, and two ways to act on a signal
unfoldable pub same_result : Res → Res → Bool
same_result (Value a) (Value b) = a == b
same_result (Error a) (Error b) = errno_number a == errno_number b
same_result Ended Ended = true
same_result _ _ = false

unfoldable pub same_how : How → How → Bool
same_how Caught Caught = true
same_how Ignored Ignored = true
same_how JobStop JobStop = true
same_how Died Died = true
same_how _ _ = false

-- whether two lwps did the same
unfoldable pub same_did : Did → Did → Bool
same_did Stopped Stopped = true
same_did Ran Ran = true
same_did (Entered a) (Entered b) = syscall_number a == syscall_number b
same_did (Made a r) (Made b q) = (syscall_number a == syscall_number b) && same_result r q
same_did (Slept a) (Slept b) = syscall_number a == syscall_number b
same_did (Woke a r) (Woke b q) = (syscall_number a == syscall_number b) && same_result r q
same_did (Returned a) (Returned b) = syscall_number a == syscall_number b
same_did (Faulted a) (Faulted b) = fault_number a == fault_number b
same_did (Posted a) (Posted b) = fault_number a == fault_number b
same_did (Took a) (Took b) = signal_number a == signal_number b
same_did (Acted a how) (Acted b other) = (signal_number a == signal_number b) && same_how how other
same_did _ _ = false

-- whether two turns are one: they did the same, and met a point that stopped the lwp, or both did not
unfoldable pub same_turn : Turned → Turned → Bool
same_turn one other = (if one.stop then other.stop else not other.stop) && same_did one.did other.did
