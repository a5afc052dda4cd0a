use Rattle.pr_codec.proofs.SpellingLemmas.{read_is_spelt}
use Rattle.pr_laws.proofs.messages.read_message_is_encoded.Goals as goal

pub returns : goal.returns
returns c = read_is_spelt
