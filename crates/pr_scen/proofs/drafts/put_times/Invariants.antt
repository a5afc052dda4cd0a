use Rattle.std.proofs.Common.{◌≡◌, ◌++◌, replicate}
use Rattle.pr_scen.proofs.drafts.put_times.Given as goal

abbrev pub invariant-loop-turn : goal.invariant-loop-turn
invariant-loop-turn l =
    l.schedule ≡ l.initial.schedule ++ replicate l._turn l.actor
