use Rattle.std.proofs.Common.{◌≡◌, Some, ap, sym, ◌∙◌}
use Rattle.std.specs.Option.{option_copied}
use Rattle.pr_num.specs.ById.{under}
use Rattle.pr_proc.proofs.SendingLemmas.{is-sent, sent-again}
use Rattle.pr_proc.proofs.sending.sending_of.Goals as goal

pub returns-in-Some-from_number-clause-sent : goal.returns-in-Some-from_number-clause-sent
returns-in-Some-from_number-clause-sent c id g same =
    let found : under c.in-Some.id c.args.sys.now.processes ≡ Some c.unwrap-process.result.now =
    sym c.get.ensures ∙ ap option_copied c.unwrap-process.ensures in
    sent-again _ _ _ _ _ _ same
    (is-sent c.args.sys.now c.args.target c.in-Some.id c.in-Some-from_number.signal c.unwrap-process.result.now
    c.in-Some.ensures.id found (sym c.is_some.ensures ∙ c.if-is_some.false) (sym c.room.ensures ∙ c.if-room.true))
