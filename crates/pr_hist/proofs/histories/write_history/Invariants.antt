use Rattle.std.proofs.Common.{◌≡◌, ◌++◌, drop}
use Rattle.pr_hist.specs.Entries.{blocks, text_of}
use Rattle.pr_hist.proofs.histories.write_history.Given as goal

-- what was told so far, and the blocks of the entries that are left, are what is to be told
abbrev pub invariant-loop-at : goal.invariant-loop-at
invariant-loop-at l =
    l.text ++ blocks l.at l.names (drop l.at l.history.entries) ≡ l.fn.text ++ text_of l.fn.names l.history.entries
