use Rattle.std.proofs.Common.{◌≡◌}
use Rattle.pr_drive.proofs.InputLemmas.{input}
use Rattle.pr_drive.proofs.ReadLemmas.{TookSoFar}
use Rattle.pr_drive.proofs.readings.read_above.Given as goal

-- so many lines stand above so far, none of which is the mark
abbrev pub invariant-loop-number : goal.invariant-loop-number
invariant-loop-number g l = record {
  far : TookSoFar l.text.items l.number (input l.fn.lines.held (g.S.Source.left l.fn.source))
      (input l.lines.held (g.S.Source.left l.source));
  faults : g.S.Source.faults l.source ≡ g.S.Source.faults l.fn.source;
}
