use Rattle.std.proofs.Common.{◌≡◌, ◌+◌, drop, slice_index}
use Rattle.pr_text.specs.Words.{quoted_word}
use Rattle.pr_text.proofs.scanning.quoted_end.Given as goal

abbrev pub invariant-loop-i : goal.invariant-loop-i
invariant-loop-i l =
    quoted_word l.start (l.start + 1) (slice_index l.line l.start) (drop (l.start + 1) l.line)
    ≡ quoted_word l.start l.i l.before (drop l.i l.line)
