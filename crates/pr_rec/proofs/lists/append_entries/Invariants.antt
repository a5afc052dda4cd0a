use Rattle.std.proofs.Common.{◌≡◌, ◌++◌, map, take, All}
use Rattle.pr_num.specs.Records.{entries_words}
use Rattle.pr_num.specs.Words.{words_bytes}
use Rattle.pr_rec.proofs.lists.append_entries.Given as goal

abbrev pub invariant-loop-entry : goal.invariant-loop-entry
invariant-loop-entry g l =
    (l.out.items ≡ l.fn.out.items ++ words_bytes (entries_words (map g.E.Entry.words (take l.entry-index l.entries))))
    × All g.E.Entry.is_ranged (take l.entry-index l.entries)
