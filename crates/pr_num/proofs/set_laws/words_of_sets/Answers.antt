use Rattle.pr_num.proofs.SetLemmas.{accepted-set_of_word, same-set_of_word}
use Rattle.pr_num.proofs.set_laws.words_of_sets.Goals as goal

pub returns : goal.returns
returns c = record { accepted = accepted-set_of_word; back = same-set_of_word }
