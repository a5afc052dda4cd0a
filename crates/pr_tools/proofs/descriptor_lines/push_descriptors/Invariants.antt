use Rattle.std.proofs.Common.{◌≡◌, ◌++◌, map, take}
use Rattle.std.specs.List.{flat_map}
use Rattle.pr_rec.specs.RecordWords.{fd_entry_words_of}
use Rattle.pr_tools.specs.Pfiles.{descriptor_line}
use Rattle.pr_tools.proofs.descriptor_lines.push_descriptors.Given as goal

abbrev pub invariant-loop-descriptor : goal.invariant-loop-descriptor
invariant-loop-descriptor l =
    l.text ≡ l.fn.text ++ flat_map descriptor_line (map fd_entry_words_of (take l.descriptor-index l.descriptors))
