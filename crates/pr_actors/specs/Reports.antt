use Rattle.std.specs.Prelude.{ℕ, ◌+◌, List, [], ◌∷◌, ◌++◌, Option, Some, None}
use Rattle.pr_num.specs.Programs.{Program}
use Rattle.pr_output.specs.declared.reports.Printer.{Printer}
use Rattle.pr_output.specs.declared.reports.Printer.TheVariants as printer
use Rattle.pr_output.specs.declared.reports.Report.{Report}
use Rattle.pr_world.specs.Controllers.{printed}
use Rattle.pr_world.specs.ControllerStates.{ControllerState, Script, Truss, FnTruss, Tool, Gcore, Probe}

-- What controllers print.

-- who prints, if it is no script
unfoldable pub printer_of : ControllerState → Option Printer
printer_of (Script s) = None
printer_of (Truss t) = Some printer.Truss
printer_of (FnTruss t) = Some printer.Truss
printer_of (Tool t) = Some (printer.Tool t.kind)
printer_of (Gcore g) = Some printer.Gcore
printer_of (Probe p) = Some printer.Probe

-- what a controller of a number prints, if it is one that prints
abbrev pub report_by : List Program → ℕ → ControllerState → Option Printer → List Report
report_by programs n core None = []
report_by programs n core (Some by) = record { controller = n; printer = by; text = printed core programs } ∷ []

unfoldable pub report_of : List Program → ℕ → ControllerState → List Report
report_of programs n core = report_by programs n core (printer_of core)

-- what controllers print, which count from a number
unfoldable pub reports_from : List Program → ℕ → List ControllerState → List Report
reports_from programs n [] = []
reports_from programs n (core ∷ cores) = report_of programs n core ++ reports_from programs (n + 1) cores
