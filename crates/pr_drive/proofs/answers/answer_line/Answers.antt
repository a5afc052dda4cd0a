use Rattle.std.proofs.Common.{◌≡◌, ◌∙◌, Err, subst, sym}
use Rattle.pr_asks.specs.Asks.{Fails, ask_of}
use Rattle.pr_asks.specs.declared.asks.Unasked.{Unasked}
use Rattle.pr_drive.specs.Sessions.{CameOf}
use Rattle.pr_drive.specs.declared.answers.Came.{Came}
use Rattle.pr_drive.proofs.EndLemmas.{line-came, on-err, refusal-cut}
use Rattle.pr_drive.proofs.answers.answer_line.Goals as goal

pub returns-in_err-put_refusal-in-Err-Refused-clause-cut :
    goal.returns-in_err-put_refusal-in-Err-Refused-clause-cut
returns-in_err-put_refusal-in-Err-Refused-clause-cut g c =
    let is : ask_of c.args.line.now ≡ Err c.in-Err-Refused.kind =
    subst (λ (u : Unasked). Fails u (ask_of c.args.line.now)) c.in-Err-Refused.field-0-is c.in-Err-Refused.ensures in
    on-err _ _
    (refusal-cut c.args.number c.args.line.now c.in-Err-Refused.kind c.args.session.now _ _ is
    c.in_err-put_refusal-in-Err-Refused.ensures.cut)

pub returns-in_ok-over-in-Ok-clause-came : goal.returns-in_ok-over-in-Ok-clause-came
returns-in_ok-over-in-Ok-clause-came g c =
    let came = line-came c.in_ok-over-in-Ok.over c.args.number c.args.line.now c.in-Ok.ask c.args.session.now
    c.put_answer.new.session _ _
    c.in-Ok.ensures (sym c.is_end.ensures ∙ c.if-is_end.false) c.in_ok-over-in-Ok.ensures.put in
    subst (λ (x : Came). CameOf x c.args.number c.args.line.now c.args.session.now c.put_answer.new.session
    (g.K.Sink.written c.args.sink.now) (g.K.Sink.written c.put_answer.new.sink)) (sym c.came_of.ensures) came
