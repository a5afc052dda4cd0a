use Rattle.std.proofs.Common.{◌≡◌, ◌++◌, ◌-◌, map, take}
use Rattle.std.specs.List.{flat_map}
use Rattle.pr_rec.specs.RecordWords.{list_entry_words_of}
use Rattle.pr_tools.specs.Ptree.{branch_lines, deeper, lines_below}
use Rattle.pr_tools.proofs.process_lines.+push_below.Given as goal

abbrev pub decreases-push_below : goal.decreases-push_below
decreases-push_below l = l.levels

abbrev pub invariant-loop-process : goal.invariant-loop-process
invariant-loop-process l =
    l.text ≡ l.fn.text
    ++ flat_map
    (branch_lines l.depth l.parent
    (lines_below (l.levels - 1) (deeper l.depth) (map list_entry_words_of l.processes)))
    (map list_entry_words_of (take l.process-index l.processes))
