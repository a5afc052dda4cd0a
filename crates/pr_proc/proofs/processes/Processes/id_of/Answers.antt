use Rattle.std.proofs.Common.{is_some, ap, ◌∙◌}
use Rattle.pr_num.specs.ById.{under}
use Rattle.pr_proc.proofs.processes.Processes.id_of.Goals as goal

pub returns-clause-some : goal.returns-clause-some
returns-clause-some c = c.id_of.ensures.some ∙ ap (λ es. is_some (under c.args.number es)) c.self.view_is
