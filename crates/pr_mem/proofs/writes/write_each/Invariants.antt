use Rattle.std.proofs.Common.{◌≡◌, ◌++◌, ◌-◌, length, map, take, drop}
use Rattle.pr_parts.specs.AddressSpaces.{with_written}
use Rattle.pr_mem.proofs.writes.write_each.Given as goal

abbrev pub invariant-loop-place : goal.invariant-loop-place
invariant-loop-place l =
    l.mappings ≡ map (with_written l.at l.bytes) (take l.place l.fn.mappings) ++ drop l.place l.fn.mappings

abbrev pub decreases-loop-place : goal.decreases-loop-place
decreases-loop-place l = length l.mappings - l.place
