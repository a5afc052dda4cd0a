use Rattle.std.proofs.Common.{◌≡◌}
use Rattle.pr_drive.proofs.EndLemmas.{AnsweredSoFar, stand}
use Rattle.pr_drive.proofs.InputLemmas.{input}
use Rattle.pr_drive.proofs.answers.answer_lines.Given as goal

-- the lines so far were answered, and nothing failed
abbrev pub invariant-loop-number : goal.invariant-loop-number
invariant-loop-number g l = record {
  far :
      AnsweredSoFar l.above l.number (stand (input l.fn.lines.held (g.S.Source.left l.fn.source)) l.fn.session)
      (stand (input l.lines.held (g.S.Source.left l.source)) l.session) (g.K.Sink.written l.fn.sink)
      (g.K.Sink.written l.sink);
  read : g.S.Source.faults l.source ≡ g.S.Source.faults l.fn.source;
  write : g.K.Sink.faults l.sink ≡ g.K.Sink.faults l.fn.sink;
}
