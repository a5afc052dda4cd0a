use Rattle.std.proofs.Common.{◌≡◌, ◌++◌, take}
use Rattle.std.specs.List.{flat_map}
use Rattle.pr_core.specs.CoreBytes.{section, memory_kind}
use Rattle.pr_core.proofs.encoding.push_memory.Given as goal

abbrev pub invariant-loop-piece : goal.invariant-loop-piece
invariant-loop-piece l = l.out.items ≡ l.fn.out.items ++ flat_map (section memory_kind) (take l.piece-index l.memory)
