use Rattle.std.proofs.Common.{is_some, ap, ◌∙◌}
use Rattle.pr_num.specs.ById.{under}
use Rattle.pr_proc.proofs.processes.Processes.contains.Goals as goal

pub returns : goal.returns
returns c = c.contains.ensures ∙ ap (λ es. is_some (under c.args.id es)) c.self.view_is
