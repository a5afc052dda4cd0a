use Rattle.std.proofs.Common.{◌≡◌, false, drop}
use Rattle.pr_line.specs.Options.{follows_or_counts}
use Rattle.pr_line.proofs.reading.follows_or_counts.Given as goal

abbrev pub invariant-loop-word : goal.invariant-loop-word
invariant-loop-word l =
    follows_or_counts l.is_list (drop l.word-index l.words) ≡ follows_or_counts false l.words
