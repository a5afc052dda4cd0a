use Rattle.pr_text.proofs.DigitLemmas.{HexSoFar}
use Rattle.pr_text.proofs.digits.hex_digits.Given as goal

abbrev pub invariant-loop-at : goal.invariant-loop-at
invariant-loop-at l = HexSoFar l.n l.rest l.at l.digits
