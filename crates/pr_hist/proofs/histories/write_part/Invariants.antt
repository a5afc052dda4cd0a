use Rattle.std.proofs.Common.{◌≡◌, ◌++◌, drop}
use Rattle.pr_hist.specs.Selections.{selected_blocks, selected_text}
use Rattle.pr_hist.proofs.histories.write_part.Given as goal

-- what was told so far, and the blocks of the entries that are left, are what is to be told
abbrev pub invariant-loop-at : goal.invariant-loop-at
invariant-loop-at l =
    l.text ++ selected_blocks l.selection l.at l.names (drop l.at l.history.entries)
    ≡ l.fn.text ++ selected_text l.selection l.fn.names l.history.entries
