use Rattle.pr_drive.proofs.SessionLemmas.{made-true, made-written}
use Rattle.pr_drive.proofs.sessions.Session.answer_call.Goals as goal

pub returns : goal.returns
returns c =
    made-written c.args.call c.args.self.now c.make_call.new.self _ _
    (made-true c.in_ok-made.made c.args.call _ _ c.if-not-made.false c.in_ok-made.ensures)
    c.in_ok-write_last.ensures
