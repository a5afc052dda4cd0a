use Rattle.std.proofs.Common.{rules}
use Rattle.pr_output.proofs.Joined.{Puts-nothing}
use Rattle.pr_commands.proofs.showings.write_stripped.Goals as goal

pub returns-in_err-steps : goal.returns-in_err-steps
returns-in_err-steps g c = Puts-nothing _ _ _ _ (search rules)

pub returns-in_err-trace : goal.returns-in_err-trace
returns-in_err-trace g c = Puts-nothing _ _ _ _ (search rules)
