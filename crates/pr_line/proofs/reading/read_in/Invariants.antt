use Rattle.std.proofs.Common.{◌≡◌, false, drop}
use Rattle.pr_line.specs.Options.{start, follows_or_counts}
use Rattle.pr_line.specs.Reading.{words_taken}
use Rattle.pr_line.proofs.reading.read_in.Given as goal

abbrev pub invariant-loop-i : goal.invariant-loop-i
invariant-loop-i l =
    words_taken l.lenient l.i l.draft (drop l.i l.words)
    ≡ words_taken l.lenient 0 (start (follows_or_counts false l.words)) l.words
