use Rattle.std.proofs.Common.{arith}
use Rattle.pr_text.proofs.PieceLemmas.{next-digits}
use Rattle.pr_text.proofs.hex_words.put_digits.Goals as goal

pub loop-i-preserved : goal.loop-i-preserved
loop-i-preserved c =
    next-digits c.loop-i.piece c.args.bytes.now c.loop-i.i c.hex_digit.result c.hex_digit-in-loop-i.result
    (omega (arith, c.requires, c.loop-i.auto.piece)) c.loop-i-test.true c.hex_digit.ensures
    c.hex_digit-in-loop-i.ensures c.loop-i.invariant
