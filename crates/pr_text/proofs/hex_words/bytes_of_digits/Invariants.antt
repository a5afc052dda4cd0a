use Rattle.std.proofs.Common.{◌≡◌, length}
use Rattle.pr_text.specs.HexWords.{bytes_of_digits}
use Rattle.pr_text.specs.QuotedWords.{in_front}
use Rattle.pr_text.proofs.hex_words.bytes_of_digits.Given as goal

abbrev pub invariant-loop-rest : goal.invariant-loop-rest
invariant-loop-rest l = in_front l.bytes.items (bytes_of_digits l.rest) ≡ bytes_of_digits l.digits

abbrev pub decreases-loop-rest : goal.decreases-loop-rest
decreases-loop-rest l = length l.rest
