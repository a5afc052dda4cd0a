use Rattle.std.proofs.Common.{rules}
use Rattle.pr_output.proofs.Joined.{Puts-nothing}
use Rattle.pr_output.proofs.lines.put_status.Goals as goal

pub returns-in_err-write_status : goal.returns-in_err-write_status
returns-in_err-write_status g c = Puts-nothing _ _ _ _ (search rules)
