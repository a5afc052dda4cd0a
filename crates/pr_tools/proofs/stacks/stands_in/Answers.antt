use Rattle.std.proofs.Common.{sym, ap, ◌∙◌}
use Rattle.pr_tools.specs.Stacks.{stands_in}
use Rattle.pr_tools.proofs.stacks.stands_in.Goals as goal

pub returns-in-Ok : goal.returns-in-Ok
unfolding stands_in
returns-in-Ok c = c.stands.ensures ∙ sym (ap stands_in c.in-Ok.ensures.ok)
