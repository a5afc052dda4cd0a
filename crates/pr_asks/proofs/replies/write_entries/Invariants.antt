use Rattle.std.proofs.Common.{◌≡◌, ◌++◌, drop}
use Rattle.pr_plain.specs.HistoryText.{entries_text}
use Rattle.pr_asks.proofs.replies.write_entries.Given as goal

-- what is written, and what is left to write, make all of it
abbrev pub invariant-loop-at : goal.invariant-loop-at
invariant-loop-at l =
    l.out.items ++ entries_text l.at (drop l.at l.history.entries)
    ≡ l.initial.out.items ++ entries_text l.from (drop l.from l.history.entries)
