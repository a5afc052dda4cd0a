-- Turns of lwps in words: what the lwp does, to what, and what came of it.
use Rattle.std.specs.Prelude.{ℕ, Bool, List, [], ◌++◌, codes, if◌then◌else◌}
use Rattle.pr_num.specs.Errnos.{errno_name}
use Rattle.pr_num.specs.Faults.{fault_name}
use Rattle.pr_num.specs.Signals.{signal_name}
use Rattle.pr_num.specs.Syscalls.{syscall_name}
use Rattle.pr_model.specs.declared.events.Did.{Did}
use Rattle.pr_model.specs.declared.events.Did.TheVariants.{Stopped, Ran, Entered, Made, Slept, Woke, Returned, Faulted, Posted, Took, Acted}
use Rattle.pr_model.specs.declared.events.How.{How}
use Rattle.pr_model.specs.declared.events.How.TheVariants.{Caught, Ignored, JobStop, Died}
use Rattle.pr_model.specs.declared.events.Res.{Res}
use Rattle.pr_model.specs.declared.events.Res.TheVariants.{Value, Error, Ended}
use Rattle.pr_model.specs.declared.events.Turned.{Turned}
use Rattle.pr_hist.specs.Phrases.{phrase}
use Rattle.pr_hist.specs.declared.phrases.Phrase.TheVariants.{AndStops}
use Rattle.pr_hist.specs.Texts.{number_text}

-- how an lwp acts on a signal
unfoldable pub acting : How → List ℕ
acting Caught = codes "runs its handler of "
acting Ignored = codes "ignores "
acting JobStop = codes "is stopped by "
acting Died = codes "is killed by "

-- what an lwp does in a turn, a row a kind
unfoldable pub doing : Did → List ℕ
doing Stopped = codes "stops: PR_REQUESTED"
doing Ran = codes "runs an instruction"
doing (Entered c) = codes "enters "
doing (Made c r) = codes "makes "
doing (Slept c) = codes "falls asleep in "
doing (Woke c r) = codes "wakes in "
doing (Returned c) = codes "returns from "
doing (Faulted f) = codes "incurs "
doing (Posted f) = codes "is sent the signal of "
doing (Took s) = codes "takes "
doing (Acted s how) = acting how

-- to what: a system call, a fault or a signal by name
unfoldable pub object : Did → List ℕ
object Stopped = []
object Ran = []
object (Entered c) = syscall_name c
object (Made c r) = syscall_name c
object (Slept c) = syscall_name c
object (Woke c r) = syscall_name c
object (Returned c) = syscall_name c
object (Faulted f) = fault_name f
object (Posted f) = fault_name f
object (Took s) = signal_name s
object (Acted s how) = signal_name s

-- what a system call gave, or that it ended its lwp or its process
unfoldable pub result_text : Res → List ℕ
result_text (Value n) = codes " = " ++ number_text n
result_text (Error e) = codes ": " ++ errno_name e
result_text Ended = codes ", and ends"

-- what came of a turn
unfoldable pub outcome_text : Did → List ℕ
outcome_text (Made c r) = result_text r
outcome_text (Woke c r) = result_text r
outcome_text _ = []

-- why an lwp stops that met something traced in such a turn, and which set of its process had it
unfoldable pub reason : Did → List ℕ
reason (Entered c) = codes "PR_SYSENTRY, by its entry set"
reason (Made c r) = codes "PR_SYSEXIT, by its exit set"
reason (Woke c r) = codes "PR_SYSEXIT, by its exit set"
reason (Faulted f) = codes "PR_FAULTED, by its fault set"
reason (Took s) = codes "PR_SIGNALLED, by its signal set"
reason _ = codes "an event"

unfoldable pub stop_text : Did → Bool → List ℕ
stop_text did stop = if stop then phrase AndStops ++ reason did else []

unfoldable pub turn_text : Turned → List ℕ
turn_text t = doing t.did ++ (object t.did ++ (outcome_text t.did ++ stop_text t.did t.stop))
