-- The text of what truss(1) reports: a line for each report.
use Rattle.std.specs.Prelude.{ℕ, Option, Some, None, List, [], ◌∷◌, ◌++◌, codes, decimal, slice_get}
use Rattle.std.specs.List.{flat_map}
use Rattle.pr_line.specs.EventLines.{event_text}
use Rattle.pr_line.specs.FunctionLines.{function_text}
use Rattle.pr_line.specs.declared.functions.Function.{Function}
use Rattle.pr_line.specs.declared.options.Options.{Options}
use Rattle.pr_num.specs.Errnos.{errno_name}
use Rattle.pr_num.specs.declared.errnos.Errno.{Errno}
use Rattle.pr_text.specs.TextLines.{newline}
use Rattle.pr_truss.specs.Trusses.{TrussState, traced_at}
use Rattle.pr_truss.specs.declared.reports.Report.{Report}
use Rattle.pr_truss.specs.declared.reports.Report.TheVariants.{CannotStart, CannotTrace, Event, Called}
use Rattle.pr_truss.specs.declared.stages.Stage.{Stage}
use Rattle.pr_truss.specs.declared.stages.Stage.TheVariants.{ReadingText}

-- a refusal of something, whose errno ends the line
abbrev pub refusal_text : List ℕ → List ℕ → Errno → List ℕ
refusal_text cause name errno =
    codes "truss: cannot " ++ cause ++ name ++ codes ": " ++ errno_name errno ++ newline ∷ []

-- the line of a call of a function
abbrev pub call_line : Options → ℕ → ℕ → List ℕ → Option Function → List ℕ
call_line o pid lwp arguments None = []
call_line o pid lwp arguments (Some f) = function_text o pid lwp f.name arguments ++ newline ∷ []

-- a row a report
unfoldable pub report_text : Options → Report → List ℕ
report_text o (CannotStart program errno) = refusal_text (codes "start ") program errno
report_text o (CannotTrace pid errno) = refusal_text (codes "trace ") (decimal pid) errno
report_text o (Event pid lwp text) = event_text o pid lwp text ++ newline ∷ []
report_text o (Called pid lwp function arguments) = call_line o pid lwp arguments (slice_get o.functions function)

-- the refusals alone
unfoldable pub refusal_or_nothing : Report → List ℕ
refusal_or_nothing (CannotStart program errno) = refusal_text (codes "start ") program errno
refusal_or_nothing (CannotTrace pid errno) = refusal_text (codes "trace ") (decimal pid) errno
refusal_or_nothing (Event pid lwp text) = []
refusal_or_nothing (Called pid lwp function arguments) = []

-- An event whose memory is still to be read is reported last, with the address in place of the text.
abbrev pub pending_at : TrussState → Stage → List Report
pending_at s (ReadingText place lwp at len) = Event (traced_at s place).pid lwp None ∷ []
pending_at s _ = []

unfoldable pub all_reports : TrussState → List Report
all_reports s = s.reports ++ pending_at s s.stage

-- the lines in the order in which truss learnt them
unfoldable pub report_lines : TrussState → List ℕ
report_lines s = flat_map (report_text s.options) (all_reports s)
