use Rattle.std.proofs.Common.{◌≡◌, false, []}
use Rattle.std.specs.List.{list_any}
use Rattle.pr_io.specs.Known.{with_front}
use Rattle.pr_lines.proofs.LineLemmas.{HasCome}
use Rattle.pr_lines.specs.Lines.{ReadNoNewline, TakenSoFar}
use Rattle.pr_text.specs.TextLines.{is_newline}
use Rattle.pr_lines.proofs.lines.Lines.next.Given as goal

-- all that was held is taken, and no newline has come
abbrev pub invariant-loop : goal.invariant-loop
invariant-loop g l = record {
  far : TakenSoFar l.line.items (with_front l.fn.self.held (g.S.Source.left l.fn.source)) (g.S.Source.left l.source);
  taken : l.self.held ≡ [];
  unheld : list_any is_newline l.fn.self.held ≡ false;
  come : HasCome l.counter (with_front l.fn.self.held (g.S.Source.left l.fn.source)) (g.S.Source.left l.source);
  read : ReadNoNewline l.fn.self.held (g.S.Source.left l.fn.source) (g.S.Source.left l.source);
  faults : g.S.Source.faults l.source ≡ g.S.Source.faults l.fn.source;
}
