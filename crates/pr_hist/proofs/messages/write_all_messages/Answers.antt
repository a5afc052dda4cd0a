use Rattle.std.proofs.Common.{arith}
use Rattle.std.specs.Option.{option_copied}
use Rattle.pr_hist.proofs.MessageLemmas.{messages_in-next, messages_in-done, messages_in-spent}
use Rattle.pr_hist.proofs.messages.write_all_messages.Goals as goal

pub returns-then-rest-eq0 : goal.returns-then-rest-eq0
returns-then-rest-eq0 c =
    messages_in-done (option_copied c.args.source)
    c.messages.most c.messages.rest.now c.messages.text _ (omega arith) c.messages.invariant

pub messages-preserved : goal.messages-preserved
messages-preserved c =
    messages_in-next (option_copied c.args.source)
    c.messages.most c.messages.rest.now c.in_ok-rest.rest.now c.messages.text c.write_first.new.text _
    (omega arith) (omega arith) c.in_ok-rest.ensures.rest c.messages.invariant c.in_ok-rest.ensures.told

pub returns : goal.returns
returns c =
    messages_in-spent (option_copied c.args.source)
    c.messages.most c.messages.rest.now c.messages.text _ (omega arith) c.messages.invariant
