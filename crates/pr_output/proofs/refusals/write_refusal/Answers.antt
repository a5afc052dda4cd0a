use Rattle.std.proofs.Common.{rules}
use Rattle.pr_output.proofs.Joined.{Puts-nothing}
use Rattle.pr_output.proofs.refusals.write_refusal.Goals as goal

pub returns-in_err-text : goal.returns-in_err-text
returns-in_err-text g c = Puts-nothing _ _ _ _ (search rules)
