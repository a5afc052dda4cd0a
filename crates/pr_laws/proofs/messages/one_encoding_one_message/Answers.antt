use Rattle.pr_codec.proofs.MessageLemmas.{one_message, one_spelling}
use Rattle.pr_laws.proofs.messages.one_encoding_one_message.Goals as goal

pub returns-clause-message : goal.returns-clause-message
returns-clause-message c = one_message

pub returns-clause-encoding : goal.returns-clause-encoding
returns-clause-encoding c = one_spelling
