use Rattle.std.proofs.Common.{◌-◌}
use Rattle.pr_mem.proofs.PlaceLemmas.{IsUnderWay}
use Rattle.pr_mem.proofs.TextLemmas.{IsOpen}
use Rattle.pr_mem.proofs.texts.length_at.Given as goal

abbrev pub invariant-loop-done : goal.invariant-loop-done
invariant-loop-done l =
    record { text : IsOpen l.mappings l.at l.most l.done; next : IsUnderWay l.mappings l.at l.most l.done l.place }

abbrev pub decreases-loop-done : goal.decreases-loop-done
decreases-loop-done l = l.most - l.done
