use Rattle.pr_ctl.proofs.MessageLemmas.{columns, tail_fits}
use Rattle.pr_ctl.proofs.messages.first_message.Goals as goal

pub returns-clause-columns : goal.returns-clause-columns
returns-clause-columns c = columns c.args.bytes.now c.decode_one.result c.decode_one.ensures.spelt

pub returns-clause-tail : goal.returns-clause-tail
returns-clause-tail c = tail_fits c.args.bytes.now c.decode_one.result c.decode_one.ensures.value
