use Rattle.std.proofs.Common.{◌∙◌, arith, refl}
use Rattle.pr_drive.proofs.EndLemmas.{on-err, so-far-cut, so-far-end, so-far-last, so-far-more, so-far-none}
use Rattle.pr_drive.proofs.EndLemmas.{stand}
use Rattle.pr_drive.proofs.InputLemmas.{input}
use Rattle.pr_drive.proofs.answers.answer_lines.Goals as goal

pub loop-number-init : goal.loop-number-init
loop-number-init g c = record { far = so-far-none _ _ _; read = refl; write = refl }

pub returns-in_err-answered-clause-cut : goal.returns-in_err-answered-clause-cut
returns-in_err-answered-clause-cut g c =
    on-err _ _
    (so-far-cut c.args.above c.loop-number.number _ _ _ _ _ _ c.loop-number.invariant.far
    c.in_err-answered.ensures.cut)

pub returns-then-not-answered-clause-answered : goal.returns-then-not-answered-clause-answered
returns-then-not-answered-clause-answered g c =
    so-far-end c.args.above c.loop-number.number
    (stand (input c.args.lines.now.held (g.S.Source.left c.args.source.now)) c.args.session.now)
    (stand (input c.loop-number.lines.held (g.S.Source.left c.loop-number.source)) c.loop-number.session)
    (stand (input c.answer_next.new.lines.held (g.S.Source.left c.answer_next.new.source)) c.answer_next.new.session)
    (g.K.Sink.written c.args.sink.now) (g.K.Sink.written c.loop-number.sink) (g.K.Sink.written c.answer_next.new.sink)
    c.in_ok-answered.answered c.if-not-answered.true c.loop-number.invariant.far c.in_ok-answered.ensures.answered

pub loop-number-preserved : goal.loop-number-preserved
loop-number-preserved g c = record {
  far =
      so-far-more c.args.above c.loop-number.number
      (stand (input c.args.lines.now.held (g.S.Source.left c.args.source.now)) c.args.session.now)
      (stand (input c.loop-number.lines.held (g.S.Source.left c.loop-number.source)) c.loop-number.session)
      (stand (input c.answer_next.new.lines.held (g.S.Source.left c.answer_next.new.source)) c.answer_next.new.session)
      (g.K.Sink.written c.args.sink.now) (g.K.Sink.written c.loop-number.sink) (g.K.Sink.written c.answer_next.new.sink)
      c.in_ok-answered.answered c.if-not-answered.false c.loop-number.invariant.far c.in_ok-answered.ensures.answered;
  read = c.in_ok-answered.ensures.faults.no_read_fault (λ e. cc) ∙ c.loop-number.invariant.read;
  write = c.in_ok-answered.ensures.faults.no_write_fault (λ e. cc) ∙ c.loop-number.invariant.write;
}

pub returns-clause-answered : goal.returns-clause-answered
returns-clause-answered g c =
    so-far-last c.args.above c.loop-number.number _ _ _ _
    (omega (arith, c.loop-number-test.false, c.loop-number.auto.number-end, c.ranges.above.fits))
    c.loop-number.invariant.far
