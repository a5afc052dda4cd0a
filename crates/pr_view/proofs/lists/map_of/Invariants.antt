use Rattle.std.proofs.Common.{◌≡◌, map, take}
use Rattle.pr_model.specs.Readers.{space_seen}
use Rattle.pr_model.specs.Records.{map_entry_of}
use Rattle.pr_view.proofs.lists.map_of.Given as goal

-- the mappings so far
abbrev pub invariant-loop-mapping : goal.invariant-loop-mapping
invariant-loop-mapping l =
    l.entries.items ≡ map (map_entry_of l.process.program) (take l.mapping-index (space_seen l.sys l.process))
