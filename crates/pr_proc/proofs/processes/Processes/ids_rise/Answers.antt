use Rattle.std.proofs.Common.{subst}
use Rattle.pr_num.specs.ById.{IsRising}
use Rattle.pr_proc.proofs.processes.Processes.ids_rise.Goals as goal

pub returns : goal.returns
returns c = subst IsRising c.self.view_is c.ids_rise.ensures
