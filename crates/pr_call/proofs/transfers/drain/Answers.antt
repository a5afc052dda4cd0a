use Rattle.std.proofs.Common.{ap, sym, ◌∙◌}
use Rattle.pr_call.proofs.TransferLemmas.{write-made, write-unread}
use Rattle.pr_call.specs.Effects.{is_granted}
use Rattle.pr_call.proofs.transfers.drain.Goals as goal

pub returns-in-Ok-clause-effect : goal.returns-in-Ok-clause-effect
returns-in-Ok-clause-effect c some =
    c.put.ensures.effect some
    ∙ sym (write-made c.args.files.now c.args.fds.now c.args.space.now c.args.fd c.args.at _ c.read.new.out
    c.requires.writable c.requires.within c.in-Ok.ensures.ok)

pub returns-in-Err-clause-effect : goal.returns-in-Err-clause-effect
returns-in-Err-clause-effect c some =
    write-unread c.args.files.now c.args.fds.now c.args.space.now c.args.fd c.args.at _ _ c.requires.writable
    c.requires.within c.in-Err.ensures.answer

pub returns-in-Ok-clause-memory : goal.returns-in-Ok-clause-memory
returns-in-Ok-clause-memory c lacks =
    ap is_granted
    (write-made c.args.files.now c.args.fds.now c.args.space.now c.args.fd c.args.at _ c.read.new.out
    c.requires.writable c.requires.within c.in-Ok.ensures.ok)
    ∙ c.put.ensures.memory lacks
