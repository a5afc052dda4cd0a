use Rattle.std.proofs.Common.{◌-◌}
use Rattle.pr_num.specs.Limits.{process_limit}
use Rattle.pr_ready.proofs.SleeperLemmas.{NoneBelow}
use Rattle.pr_ready.proofs.sleepers.some_sleeper.Given as goal

-- none sleeps so far
abbrev pub invariant-loop-pid : goal.invariant-loop-pid
invariant-loop-pid l = NoneBelow l.sys.clock l.sys.processes l.from

-- no id is above the last one
abbrev pub decreases-loop-pid : goal.decreases-loop-pid
decreases-loop-pid l = process_limit - l.from
