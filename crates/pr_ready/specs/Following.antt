use Rattle.std.specs.Prelude.{ℕ, Option, Some, None}
use Rattle.pr_model.specs.State.{TracedLwp, TracedProcess, TracedState, TracedSystem, live_process, lwp_of}
use Rattle.pr_model.specs.declared.calls.Call.{Call}
use Rattle.pr_model.specs.declared.calls.Call.TheVariants.{Spawn}
use Rattle.pr_ready.specs.Around.{around_of}
use Rattle.pr_ready.specs.declared.around.Around.{Around}
use Rattle.pr_ready_laws.specs.Touched.{target_in, target_of}

-- What is noted before a step.

-- whom an lwp sends a signal to, if it is at a call that does
abbrev pub target_of_lwp : Option TracedLwp → Option ℕ
target_of_lwp None = None
target_of_lwp (Some l) = target_in l.phase l.regs

abbrev pub target_in_process : Option TracedProcess → ℕ → Option ℕ
target_in_process None id = None
target_in_process (Some p) id = target_of_lwp (lwp_of p id)

-- before a turn of an lwp: what is around its process, and around whom it may send a signal to, and the next process
-- that may be made
unfoldable pub around_lwp : TracedSystem → ℕ → ℕ → Around
around_lwp s pid id =
    around_of s (Some s.made) (live_process s pid) (target_in_process (live_process s pid) id)

-- before a call of a controller: what is around the process that it acts on, and a process that it makes
abbrev pub made_by : TracedSystem → Call → Option ℕ
made_by s (Spawn name held) = Some s.made
made_by s _ = None

unfoldable pub around_call : TracedState → ℕ → Call → Around
around_call s by c = around_of s.system (made_by s.system c) None (target_of s by c)
