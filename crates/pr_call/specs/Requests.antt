use Rattle.std.specs.Prelude.{ℕ, Option, Some, None}
use Rattle.pr_model.specs.Registers.{arguments}
use Rattle.pr_model.specs.State.{TracedSystem, TracedProcess, TracedLwp, live_process, lwp_of}
use Rattle.pr_model.specs.declared.lwps.Phase.{Phase}
use Rattle.pr_model.specs.declared.lwps.Phase.TheVariants.{Entered, Asleep}
use Rattle.pr_call.specs.declared.requests.Request.{Request}

-- The system call that an lwp makes (Intro(2)): the one at whose entry it is, which begins now with what the registers
-- hold, or the one in which it sleeps, with what it was given when it began.

-- the call of an lwp in this phase; none in another one
abbrev pub request_in : ℕ → ℕ → ℕ → TracedLwp → Phase → Option Request
request_in clock pid id l (Entered call) =
    Some (record { pid = pid; lwp = id; since = clock; call = call; args = arguments l.regs })
request_in clock pid id l (Asleep call args since) =
    Some (record { pid = pid; lwp = id; since = since; call = call; args = args })
request_in clock pid id l _ = None

-- of the lwp of an id in the live process of an id
abbrev pub request_by : ℕ → ℕ → ℕ → Option TracedLwp → Option Request
request_by clock pid id None = None
request_by clock pid id (Some l) = request_in clock pid id l l.phase

abbrev pub request_at : ℕ → ℕ → ℕ → Option TracedProcess → Option Request
request_at clock pid id None = None
request_at clock pid id (Some p) = request_by clock pid id (lwp_of p id)

unfoldable pub request_of : TracedSystem → ℕ → ℕ → Option Request
request_of s pid id = request_at s.clock pid id (live_process s pid)
