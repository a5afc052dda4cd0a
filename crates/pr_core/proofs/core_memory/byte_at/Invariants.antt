use Rattle.std.proofs.Common.{◌≡◌, length}
use Rattle.pr_core.specs.CoreMemory.{byte_in}
use Rattle.pr_core.specs.CoreTools.{space_with}
use Rattle.pr_core.proofs.core_memory.byte_at.Given as goal

abbrev pub invariant-loop-mapping : goal.invariant-loop-mapping
invariant-loop-mapping l =
    byte_in (space_with l.maps l.memory) l.address ≡ byte_in (space_with l.initial.maps l.initial.memory) l.address

abbrev pub decreases-loop-mapping : goal.decreases-loop-mapping
decreases-loop-mapping l = length l.maps
