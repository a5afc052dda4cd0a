use Rattle.std.proofs.Common.{◌≡◌, take}
use Rattle.pr_actors.specs.Reports.{reports_from}
use Rattle.pr_commands.proofs.reports.reports_of.Given as goal

-- what the controllers so far print
abbrev pub invariant-loop-number : goal.invariant-loop-number
invariant-loop-number l =
    l.reports.items ≡ reports_from l.world.kernel.state.system.programs 0 (take l.number l.world.controllers)
