use Rattle.std.proofs.Common.{rules}
use Rattle.pr_output.proofs.Joined.{Puts-nothing}
use Rattle.pr_output.proofs.plains.write_plain.Goals as goal

pub returns-in_err-write_text-clause-puts : goal.returns-in_err-write_text-clause-puts
returns-in_err-write_text-clause-puts g c = Puts-nothing _ _ _ _ (search rules)
