use Rattle.pr_num.specs.Words.{word_bytes}
use Rattle.pr_codec.proofs.words.put_words.Goals as goal

pub returns : goal.returns
unfolding word_bytes
returns c = c.write_u64_into.ensures
