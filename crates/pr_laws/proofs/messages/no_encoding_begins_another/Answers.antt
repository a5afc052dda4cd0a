use Rattle.pr_codec.proofs.MessageLemmas.{begins_another}
use Rattle.pr_laws.proofs.messages.no_encoding_begins_another.Goals as goal

pub returns : goal.returns
returns c = begins_another
