use Rattle.std.proofs.Common.{◌≡◌, ◌*◌, take}
use Rattle.pr_text.specs.HexWords.{digits_of_bytes}
use Rattle.pr_text.proofs.hex_words.put_digits.Given as goal

abbrev pub invariant-loop-i : goal.invariant-loop-i
invariant-loop-i l = take (2 * l.i) l.piece ≡ digits_of_bytes (take l.i l.bytes)
