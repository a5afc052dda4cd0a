use Rattle.std.specs.Prelude.{◌≡◌, ◌||◌, not, Option, Some, None, Result, Ok, Err, length, nat_le, if◌then◌else◌}
use Rattle.std.specs.List.{list_all}
use Rattle.pr_num.specs.Limits.{lwp_limit}
use Rattle.pr_num.specs.declared.errnos.Errno.{Errno}
use Rattle.pr_num.specs.declared.errnos.Errno.TheVariants as errno
use Rattle.pr_model.specs.Messages.{lets_agent}
use Rattle.pr_model.specs.Readers.{has_lent}
use Rattle.pr_model.specs.State.{TracedProcess, has_agent}
use Rattle.pr_ctl.specs.declared.agents.AgentNo.{AgentNo}
use Rattle.pr_ctl.specs.declared.agents.AgentNo.TheVariants.{Busy, Full, NoMemory}

-- What refuses an agent: the process has lent its memory, one is there or an lwp is not stopped, and as many lwps stand
-- as there can be.
unfoldable pub agent_refusal : TracedProcess → Option Errno
agent_refusal p =
    if has_lent p then Some errno.Busy
    else (if has_agent p || not (list_all (lets_agent p.job_stop) p.lwps) then Some errno.Busy
    else (if nat_le lwp_limit (length p.lwps) then Some errno.Nomem else None))

-- A result says whether, and by which errno, an agent is refused; memory runs out where none is.
abbrev pub SaysOf : AgentNo → Option Errno → Type 0
SaysOf Busy refusal = refusal ≡ Some errno.Busy
SaysOf Full refusal = refusal ≡ Some errno.Nomem
SaysOf NoMemory refusal = refusal ≡ None

abbrev pub Says : {X : Type 0} → Result X AgentNo → Option Errno → Type 0
Says (Ok x) refusal = refusal ≡ None
Says (Err reason) refusal = SaysOf reason refusal
