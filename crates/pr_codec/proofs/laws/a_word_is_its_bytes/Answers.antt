use Rattle.pr_num.specs.Words.{word_bytes, word_of}
use Rattle.pr_codec.proofs.WordLemmas.{word_bytes-word_of}
use Rattle.pr_codec.proofs.laws.a_word_is_its_bytes.Goals as goal

pub returns-clause-bytes_back : goal.returns-clause-bytes_back
unfolding word_bytes word_of
returns-clause-bytes_back c = word_bytes-word_of
