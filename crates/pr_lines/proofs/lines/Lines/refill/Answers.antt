use Rattle.pr_lines.proofs.LineLemmas.{none-came}
use Rattle.pr_lines.proofs.lines.Lines.refill.Goals as goal

pub returns-in_err-count-clause-lost : goal.returns-in_err-count-clause-lost
returns-in_err-count-clause-lost g c = none-came c.from_residual.result _ _ c.in_err-count.ensures.kept
