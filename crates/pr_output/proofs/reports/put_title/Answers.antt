use Rattle.std.proofs.Common.{rules}
use Rattle.pr_output.proofs.Joined.{Puts-nothing}
use Rattle.pr_output.proofs.reports.put_title.Goals as goal

pub returns-in_err-write_titled : goal.returns-in_err-write_titled
returns-in_err-write_titled g c = Puts-nothing _ _ _ _ (search rules)
