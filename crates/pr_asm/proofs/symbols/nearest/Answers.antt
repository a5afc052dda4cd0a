use Rattle.std.proofs.Common.{arith}
use Rattle.pr_asm.proofs.SymbolLemmas.{label_at, nearest-step, nearest-end}
use Rattle.pr_asm.proofs.symbols.nearest.Goals as goal

pub nearer-best-requires-clause-place : goal.nearer-best-requires-clause-place
nearer-best-requires-clause-place c =
    label_at c.args.labels.now c.loop-label.label-index c.label-item.result _ c.label-item.is (omega arith) c.requires

pub loop-label-preserved : goal.loop-label-preserved
loop-label-preserved c = (
  nearest-step c.args.pc c.loop-label.label-index c.args.labels.now _ _ _ c.label-item.result _ c.label-item.is
      (omega arith) c.nearer-best.ensures.value c.loop-label.invariant.0,
  c.nearer-best.ensures.below,
)

pub returns-clause-value : goal.returns-clause-value
returns-clause-value c =
    nearest-end c.args.pc c.loop-label.label-index c.args.labels.now _ _ (omega arith) c.loop-label.invariant.0
