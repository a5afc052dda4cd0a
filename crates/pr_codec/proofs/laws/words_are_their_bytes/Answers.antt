use Rattle.pr_codec.proofs.WordLemmas.{length-words_bytes, AreBytes-words_bytes, word_at-words_bytes, same_words}
use Rattle.pr_codec.proofs.laws.words_are_their_bytes.Goals as goal

pub returns-clause-length : goal.returns-clause-length
returns-clause-length c = length-words_bytes

pub returns-clause-bytes : goal.returns-clause-bytes
returns-clause-bytes c = AreBytes-words_bytes

pub returns-clause-each : goal.returns-clause-each
returns-clause-each c = word_at-words_bytes

pub returns-clause-one_spelling : goal.returns-clause-one_spelling
returns-clause-one_spelling c = same_words
