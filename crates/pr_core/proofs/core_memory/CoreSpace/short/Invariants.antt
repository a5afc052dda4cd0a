use Rattle.std.proofs.Common.{◌≡◌, ◌++◌}
use Rattle.pr_model.specs.Reads.{mapped_from}
use Rattle.pr_tools.specs.Calls.{short_read}
use Rattle.pr_core.specs.CoreMemory.{space_in}
use Rattle.pr_core.proofs.core_memory.CoreSpace.short.Given as goal

-- what was read so far, and what is left, is what is to be read
abbrev pub invariant-loop-left : goal.invariant-loop-left
invariant-loop-left l =
    l.bytes.items ++ mapped_from (space_in l.self) l.address l.left ≡ mapped_from (space_in l.self) l.at short_read

abbrev pub decreases-loop-left : goal.decreases-loop-left
decreases-loop-left l = l.left
