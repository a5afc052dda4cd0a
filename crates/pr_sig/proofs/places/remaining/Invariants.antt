use Rattle.std.proofs.Common.{◌≡◌, ◌≤◌, length, not, take}
use Rattle.std.specs.List.{filter}
use Rattle.pr_num.specs.Sets.{has_number}
use Rattle.pr_num.specs.Signals.{signal_number}
use Rattle.pr_sig.proofs.places.remaining.Given as goal

abbrev pub invariant-loop-pair : goal.invariant-loop-pair
invariant-loop-pair l =
    (l.left.items ≡ filter (λ q. not (has_number l.signals (signal_number q.signal))) (take l.pair-index l.queued))
    × (length l.left.items ≤ l.pair-index)
