use Rattle.std.proofs.Common.{◌≡◌, ◌+◌, take}
use Rattle.pr_scen.specs.Schedules.{turn_count}
use Rattle.pr_scen.proofs.drafts.are_within.Given as goal

abbrev pub invariant-loop-t : goal.invariant-loop-t
invariant-loop-t l =
    l.left + turn_count (take l.t-index l.turns) ≡ l.most
