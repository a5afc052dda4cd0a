use Rattle.std.proofs.Common.{◌≡◌, length}
use Rattle.pr_text.specs.QuotedWords.{bytes_between, in_front}
use Rattle.pr_text.proofs.quoted_words.bytes_between.Given as goal

abbrev pub invariant-loop-rest : goal.invariant-loop-rest
invariant-loop-rest l = in_front l.bytes.items (bytes_between l.rest) ≡ bytes_between l.text

abbrev pub decreases-loop-rest : goal.decreases-loop-rest
decreases-loop-rest l = length l.rest
