use Rattle.pr_pids.proofs.BitLemmas.{first-behind, none-behind}
use Rattle.pr_pids.proofs.bits.first_bit.Goals as goal

pub returns-then-rest-eq0-clause-none : goal.returns-then-rest-eq0-clause-none
returns-then-rest-eq0-clause-none c = λ i behind within. none-behind c.args.word c.args.low c.if-rest-eq0.true i behind

pub returns-clause-member : goal.returns-clause-member
returns-clause-member c = (first-behind c.args.word c.args.low c.ranges.word.fits c.if-rest-eq0.false).member

pub returns-clause-within : goal.returns-clause-within
returns-clause-within c = (first-behind c.args.word c.args.low c.ranges.word.fits c.if-rest-eq0.false).within

pub returns-clause-least : goal.returns-clause-least
returns-clause-least c = (first-behind c.args.word c.args.low c.ranges.word.fits c.if-rest-eq0.false).least
