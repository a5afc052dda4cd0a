-- What the controllers of a run print.
use Rattle.std.specs.Prelude.{List, [], Option, Some, None}
use Rattle.pr_actors.specs.Reports.{reports_from}
use Rattle.pr_model.specs.State.{TracedState}
use Rattle.pr_num.specs.Programs.{Program}
use Rattle.pr_output.specs.declared.reports.Report.{Report}
use Rattle.pr_world.specs.Worlds.{WorldState}

-- the programs of a machine
abbrev pub programs_of : Option TracedState → List Program
programs_of None = []
programs_of (Some s) = s.system.programs

-- what the controllers of a world print
unfoldable pub reports_of : WorldState → List Report
reports_of w = reports_from (programs_of w.kernel.machine) 0 w.controllers
