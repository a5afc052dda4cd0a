use Rattle.std.proofs.Common.{inl, inr, refl}
use Rattle.std.proofs.lemmas.Result.{IfOk-weaker, on_err_weaker}
use Rattle.pr_drive.proofs.EndLemmas.{on-err, stand}
use Rattle.pr_drive.proofs.InputLemmas.{input}
use Rattle.pr_drive.proofs.serving.go_on.Goals as goal

pub returns-in_err-answer_lines-clause-cut : goal.returns-in_err-answer_lines-clause-cut
returns-in_err-answer_lines-clause-cut g c = on-err _ _ (inl c.in_err-answer_lines.ensures.cut)

pub returns-clause-told : goal.returns-clause-told
returns-clause-told g c =
    IfOk-weaker c.tell_end.result _ _
    (λ status told. record {
      end = stand (input c.answer_lines.new.lines.held (g.S.Source.left c.answer_lines.new.source))
          c.answer_lines.new.session;
      left_is = refl;
      replies = g.K.Sink.written c.answer_lines.new.sink;
      answered = c.in_ok-answer_lines.ensures.answered;
      told = told;
    })
    c.tell_end.ensures.told

pub returns-clause-cut : goal.returns-clause-cut
returns-clause-cut g c =
    on_err_weaker c.tell_end.result
    (λ cuts. inr (record {
      end = stand (input c.answer_lines.new.lines.held (g.S.Source.left c.answer_lines.new.source))
          c.answer_lines.new.session;
      left_is = refl;
      replies = g.K.Sink.written c.answer_lines.new.sink;
      answered = c.in_ok-answer_lines.ensures.answered;
      cut = cuts;
    }))
    c.tell_end.ensures.cut
