use Rattle.std.proofs.Common.{◌≡◌, ◌<◌, ℕ, true}
use Rattle.pr_num.specs.Limits.{process_limit}
use Rattle.pr_pids.specs.Members.{has_pid}
use Rattle.pr_ready.proofs.ready.below.Given as goal

-- each id so far is in the set
abbrev pub invariant-loop-pid : goal.invariant-loop-pid
invariant-loop-pid l = (other : ℕ) → other < l.pid → other < process_limit → has_pid l.set other ≡ true
