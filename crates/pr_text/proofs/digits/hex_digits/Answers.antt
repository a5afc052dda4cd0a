use Rattle.std.proofs.Common.{arith, ◌-◌}
use Rattle.pr_text.proofs.DigitLemmas.{hex_start, hex_more, hex_first, hex_ends}
use Rattle.pr_text.proofs.digits.hex_digits.Goals as goal

pub loop-at-init : goal.loop-at-init
loop-at-init c = hex_start c.args.n (omega arith)

pub loop-at-preserved : goal.loop-at-preserved
loop-at-preserved c =
    hex_more c.args.n c.loop-at.rest c.loop-at.at (c.loop-at.at - 1) c.hex_digit.result c.loop-at.digits (omega arith)
    (omega arith) c.loop-at.invariant c.hex_digit.ensures c.if-rest-eq0.false

pub returns-then-rest-eq0-clause-zeros : goal.returns-then-rest-eq0-clause-zeros
returns-then-rest-eq0-clause-zeros c =
    (hex_first c.args.n c.loop-at.rest c.loop-at.at (c.loop-at.at - 1) c.hex_digit.result c.loop-at.digits (omega arith)
    (omega arith) c.loop-at.invariant c.hex_digit.ensures c.if-rest-eq0.true).0

pub returns-then-rest-eq0-clause-digits : goal.returns-then-rest-eq0-clause-digits
returns-then-rest-eq0-clause-digits c =
    (hex_first c.args.n c.loop-at.rest c.loop-at.at (c.loop-at.at - 1) c.hex_digit.result c.loop-at.digits (omega arith)
    (omega arith) c.loop-at.invariant c.hex_digit.ensures c.if-rest-eq0.true).1

pub unreachable-requires : goal.unreachable-requires
unreachable-requires c =
    hex_ends c.args.n c.loop-at.rest c.loop-at.at c.loop-at.digits c.loop-at-test.false c.loop-at.invariant
