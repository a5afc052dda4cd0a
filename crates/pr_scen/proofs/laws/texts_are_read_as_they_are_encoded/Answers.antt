use Rattle.pr_scen.proofs.TextLemmas.{text_read}
use Rattle.pr_scen.proofs.laws.texts_are_read_as_they_are_encoded.Goals as goal

pub returns : goal.returns
returns c = text_read
