use Rattle.std.proofs.Common.{arith, sym}
use Rattle.pr_rec.proofs.ReadLemmas.{out-here, out-on}
use Rattle.pr_rec.proofs.columns.first_out_of_range.Goals as goal

pub returns-then-not-fits-clause-value : goal.returns-then-not-fits-clause-value
returns-then-not-fits-clause-value c =
    out-here c.args.columns.now c.args.words.now c.loop-place.place _ c.loop-place.invariant (omega arith) (omega arith)
    (sym c.if-not-fits.ensures)

pub loop-place-preserved : goal.loop-place-preserved
loop-place-preserved c =
    out-on c.args.columns.now c.args.words.now c.loop-place.place _ c.loop-place.invariant (omega arith) (omega arith)
    (sym c.if-not-fits.ensures)
