use Rattle.pr_mem.proofs.PlaceLemmas.{IsUnderWay}
use Rattle.pr_mem.proofs.RunLemmas.{IsChecked}
use Rattle.std.proofs.Common.{◌-◌}
use Rattle.pr_mem.proofs.accesses.check.Given as goal

abbrev pub invariant-loop-done : goal.invariant-loop-done
invariant-loop-done l =
    record {
      bytes : IsChecked l.need l.mappings l.at l.len l.done;
      next : IsUnderWay l.mappings l.at l.len l.done l.place;
    }

abbrev pub decreases-loop-done : goal.decreases-loop-done
decreases-loop-done l = l.len - l.done
