use Rattle.std.proofs.Common.{◌≡◌, replicate, None}
use Rattle.pr_slots.proofs.slots.no_keys.Given as goal

abbrev pub invariant-loop : goal.invariant-loop
invariant-loop l = l.keys.items ≡ replicate l.counter None
