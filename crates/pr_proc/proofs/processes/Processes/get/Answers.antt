use Rattle.std.proofs.Common.{ap, ◌∙◌}
use Rattle.pr_num.specs.ById.{under}
use Rattle.pr_proc.proofs.processes.Processes.get.Goals as goal

pub returns : goal.returns
returns c = c.get.ensures ∙ ap (under c.args.id) c.self.view_is
