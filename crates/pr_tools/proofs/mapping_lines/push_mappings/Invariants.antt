use Rattle.std.proofs.Common.{◌≡◌, ◌≤◌, ◌*◌, ◌++◌, map, take}
use Rattle.std.specs.List.{flat_map, sum_by}
use Rattle.pr_rec.specs.RecordWords.{map_entry_words_of}
use Rattle.pr_tools.specs.Pmap.{mapping_line, units}
use Rattle.pr_tools.proofs.mapping_lines.push_mappings.Given as goal

abbrev pub invariant-loop-mapping : goal.invariant-loop-mapping
invariant-loop-mapping l =
    (l.text ≡ l.fn.text ++ flat_map mapping_line (map map_entry_words_of (take l.mapping-index l.mappings)))
    × (l.total ≡ sum_by units (map map_entry_words_of (take l.mapping-index l.mappings)))
    × (l.total ≤ l.mapping-index * 18014398509481984)
