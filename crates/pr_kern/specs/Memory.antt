use Rattle.std.specs.Prelude.{Bool, true, false}
use Rattle.pr_num.specs.declared.errnos.Errno.TheVariants.{Nomem}
use Rattle.pr_model.specs.declared.calls.Call.{Call}
use Rattle.pr_model.specs.declared.calls.Call.TheVariants.{Spawn}
use Rattle.pr_model.specs.declared.calls.Reply.{Reply}
use Rattle.pr_model.specs.declared.calls.Reply.TheVariants.{Pid, Fail}

-- Where memory may run out in a call, by the reply that the definitions give it.

-- a process is made, or refused because too much would be mapped (ENOMEM)
abbrev pub may_lack_for_process : Reply → Bool
may_lack_for_process (Pid pid) = true
may_lack_for_process (Fail Nomem) = true
may_lack_for_process _ = false

-- whether memory may run out in a call with this reply, where the call can also be refused before memory is asked for
abbrev pub may_lack_memory : Call → Reply → Bool
may_lack_memory (Spawn program held) reply = may_lack_for_process reply
may_lack_memory _ reply = true
