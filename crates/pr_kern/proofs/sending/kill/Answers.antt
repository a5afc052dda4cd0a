use Rattle.std.proofs.Common.{refl}
use Rattle.pr_kern.proofs.SendingLemmas.{kill-sent}
use Rattle.pr_kern.proofs.sending.kill.Goals as goal

pub generate-requires-clause-live : goal.generate-requires-clause-live
generate-requires-clause-live c = (c.in-Sent.ensures.sent _ _ refl).lives

pub generate-requires-clause-room : goal.generate-requires-clause-room
generate-requires-clause-room c = (c.in-Sent.ensures.sent _ _ refl).room

pub returns-in-Sent : goal.returns-in-Sent
returns-in-Sent c =
    kill-sent c.args.state.now c.args.pid c.in-Sent.id c.args.number c.in-Sent.signal c.killed_by.result
    c.generate.new.sys c.killed_by.ensures c.generate.ensures c.in-Sent.ensures.value
    (c.in-Sent.ensures.sent _ _ refl).named
