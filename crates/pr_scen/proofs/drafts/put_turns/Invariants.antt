use Rattle.std.proofs.Common.{◌≡◌, ◌++◌, take}
use Rattle.pr_scen.specs.Schedules.{actors_of}
use Rattle.pr_scen.proofs.drafts.put_turns.Given as goal

abbrev pub invariant-loop-t : goal.invariant-loop-t
invariant-loop-t l =
    l.schedule ≡ l.initial.schedule ++ actors_of (take l.t-index l.turns)
