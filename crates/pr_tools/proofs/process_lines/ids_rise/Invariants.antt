use Rattle.std.proofs.Common.{◌≡◌, map, drop}
use Rattle.pr_rec.specs.RecordWords.{list_entry_words_of}
use Rattle.pr_tools.specs.Ptree.{ids_rise}
use Rattle.pr_tools.proofs.process_lines.ids_rise.Given as goal

abbrev pub invariant-loop-process : goal.invariant-loop-process
invariant-loop-process l =
    ids_rise l.fn.least (map list_entry_words_of l.processes)
    ≡ ids_rise l.last (map list_entry_words_of (drop l.process-index l.processes))
