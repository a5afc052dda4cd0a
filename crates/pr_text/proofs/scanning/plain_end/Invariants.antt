use Rattle.std.proofs.Common.{◌≡◌, ◌+◌, drop}
use Rattle.pr_text.specs.Words.{plain_word}
use Rattle.pr_text.proofs.scanning.plain_end.Given as goal

abbrev pub invariant-loop-i : goal.invariant-loop-i
invariant-loop-i l =
    plain_word l.start (l.start + 1) (drop (l.start + 1) l.line) ≡ plain_word l.start l.i (drop l.i l.line)
