use Rattle.std.proofs.Common.{◌≡◌, take}
use Rattle.pr_mem.proofs.mapping_lists.copies.Given as goal

abbrev pub invariant-loop-mapping : goal.invariant-loop-mapping
invariant-loop-mapping l = l.copies.items ≡ take l.mapping-index l.mappings
