use Rattle.std.proofs.Common.{◌∙◌, sym}
use Rattle.pr_drive.proofs.SessionLemmas.{next-made}
use Rattle.pr_drive.proofs.sessions.Session.answer_message.Goals as goal

pub returns : goal.returns
returns c =
    next-made c.in_ok-made.made c.args.script.now c.feed_last.new.script c.args.self.now c.answer_call.new.self
    c.in-Some.call _ _ c.if-not-made.false
    (sym (sym c.in-Some.is ∙ c.in_ok-next.ensures)) c.in_ok-made.ensures c.feed_last.ensures
