-- What controllers print at the end of a run.
use Rattle.std.specs.Prelude.{ℕ, List, ◌++◌, codes, decimal}
use Rattle.std.specs.List.{flat_map}
use Rattle.pr_model.specs.ToolNames.{tool_name}
use Rattle.pr_output.specs.declared.reports.Printer.{Printer}
use Rattle.pr_output.specs.declared.reports.Printer.TheVariants.{Truss, Tool, Gcore, Probe}
use Rattle.pr_output.specs.declared.reports.Report.{Report}

-- the name of a controller that prints
unfoldable pub printer_name : Printer → List ℕ
printer_name Truss = codes "truss"
printer_name (Tool kind) = tool_name kind
printer_name Gcore = codes "gcore"
printer_name Probe = codes "apfiles"

-- a line of a title, a number and a name
unfoldable pub titled : List ℕ → ℕ → List ℕ → List ℕ
titled title number name = title ++ (decimal number ++ (codes " " ++ (name ++ codes "\n")))

-- a report: a line with the number and the name of the controller, and below it what the controller prints
unfoldable pub report_text : Report → List ℕ
report_text r = titled (codes "controller ") r.controller (printer_name r.printer) ++ r.text

unfoldable pub reports_text : List Report → List ℕ
reports_text reports = flat_map report_text reports
