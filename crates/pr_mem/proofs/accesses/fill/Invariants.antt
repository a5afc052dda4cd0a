use Rattle.pr_mem.proofs.PlaceLemmas.{IsUnderWay}
use Rattle.pr_mem.proofs.RunLemmas.{IsFilled}
use Rattle.std.proofs.Common.{◌-◌, length}
use Rattle.pr_mem.proofs.accesses.fill.Given as goal

abbrev pub invariant-loop-done : goal.invariant-loop-done
invariant-loop-done l =
    record {
      bytes : IsFilled l.need l.mappings l.at l.out l.done;
      next : IsUnderWay l.mappings l.at (length l.fn.out) l.done l.place;
    }

abbrev pub decreases-loop-done : goal.decreases-loop-done
decreases-loop-done l = length l.out - l.done
