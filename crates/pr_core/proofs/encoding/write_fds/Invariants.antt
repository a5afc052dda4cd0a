use Rattle.std.proofs.Common.{◌≡◌, take}
use Rattle.pr_num.specs.Records.{entries_words}
use Rattle.pr_num.specs.Words.{words_bytes}
use Rattle.pr_core.proofs.encoding.write_fds.Given as goal

abbrev pub invariant-loop-words : goal.invariant-loop-words
invariant-loop-words l = l.out.items ≡ words_bytes (entries_words (take l.words-index l.fds))
