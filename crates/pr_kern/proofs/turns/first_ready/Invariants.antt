use Rattle.pr_kern.proofs.turns.first_ready.Given as goal
use Rattle.pr_ready.specs.Queues.{AreReady}

-- the sets have every process that they have to have, however many were looked at
abbrev pub invariant-loop-pid : goal.invariant-loop-pid
invariant-loop-pid l = AreReady l.sys l.ready
