use Rattle.std.proofs.Common.{◌≡◌, drop}
use Rattle.pr_text.specs.Words.{words_from}
use Rattle.pr_text.proofs.scanning.word_start.Given as goal

abbrev pub invariant-loop-i : goal.invariant-loop-i
invariant-loop-i l = words_from l.at (drop l.at l.line) ≡ words_from l.i (drop l.i l.line)
