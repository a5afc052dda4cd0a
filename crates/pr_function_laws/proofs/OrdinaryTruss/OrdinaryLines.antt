use Rattle.std.proofs.Common.{◌≡◌, false, cond, None, List, [], ◌∷◌, ◌++◌, append-nil, refl, sym, ap, ◌∙◌}
use Rattle.std.proofs.lemmas.List.{append_cancel_left}
use Rattle.std.specs.List.{flat_map}
use Rattle.pr_line.specs.declared.options.Options.{Options}
use Rattle.pr_truss.specs.Counts.{counts_text}
use Rattle.pr_truss.specs.NextCalls.{next_call_of}
use Rattle.pr_truss.specs.Printing.{printed}
use Rattle.pr_truss.specs.Reports.{all_reports, pending_at, refusal_or_nothing, report_lines, report_text}
use Rattle.pr_truss.specs.Trusses.{TrussState}
use Rattle.pr_truss.specs.declared.processes.Traced.{Traced}
use Rattle.pr_truss.specs.declared.reports.Report.{Report}
use Rattle.pr_truss.specs.declared.reports.Report.TheVariants as report
use Rattle.pr_truss.specs.declared.stages.Stage.{Stage}
use Rattle.pr_truss.specs.declared.stages.Stage.TheVariants.{ReadingText}
use Rattle.pr_truss_laws.specs.Lines.{ReportsNoOther, all_told, line_of, one_more}
use Rattle.pr_function_laws.proofs.OrdinaryTruss.OrdinaryCalls.{call-ordinary}
use Rattle.pr_function_laws.proofs.OrdinaryTruss.OrdinaryReplies.{at-ordinary}
use Rattle.pr_function_laws.specs.Ordinary.{ordinary, ordinary_among}

-- What a truss prints wherever it has come to: what it has reported, and an event whose memory is still to be read; a
-- line for each.

-- ---- what was reported

pub pending-ordinary : (s : TrussState) (stage : Stage) → pending_at (ordinary s) stage ≡ pending_at s stage
pending-ordinary s (ReadingText place l from len) =
    ap (λ (t : Traced). report.Event t.pid l None ∷ []) (at-ordinary s place)
pending-ordinary s _ = refl

-- What is printed behind what was reported is the same as without breakpoints.
pub reports-no-other : (o : Options) (s : TrussState) → ReportsNoOther o (ordinary s) → ReportsNoOther o s
unfolding all_reports next_call_of
reports-no-other o s (all_told is) =
    let reports = ordinary_among s.reports in
    let none : pending_at s s.stage ≡ [] =
    sym (pending-ordinary s s.stage)
    ∙ append_cancel_left reports (pending_at (ordinary s) s.stage) [] (is ∙ sym (append-nil reports)) in
    all_told (ap (λ (rs : List Report). s.reports ++ rs) none ∙ append-nil s.reports)
reports-no-other o s (one_more pid l is reads) =
    let last : pending_at s s.stage ≡ report.Event pid l None ∷ [] =
    sym (pending-ordinary s s.stage)
    ∙ append_cancel_left (ordinary_among s.reports) (pending_at (ordinary s) s.stage)
    (report.Event pid l None ∷ []) is in
    one_more pid l (ap (λ (rs : List Report). s.reports ++ rs) last) (record {
      event = reads.event;
      tells = reads.tells;
      from = reads.from;
      len = reads.len;
      asks = reads.asks;
      handle = reads.handle;
      due = sym (call-ordinary s s.stage) ∙ reads.due;
    })

-- ---- the lines

line-is : (o : Options) (r : Report) → report_text o r ≡ line_of o r
unfolding report_text
line-is o (report.CannotStart program errno) = refl
line-is o (report.CannotTrace pid errno) = refl
line-is o (report.Event pid l text) = refl
line-is o (report.Called pid lwp function arguments) = refl

lines-are : (o : Options) (rs : List Report) → flat_map (report_text o) rs ≡ flat_map (line_of o) rs
lines-are o [] = refl
lines-are o (r ∷ rs) =
    ap (λ line. line ++ flat_map (report_text o) rs) (line-is o r) ∙ ap (λ lines. line_of o r ++ lines) (lines-are o rs)

pub prints-lines : (o : Options) (s : TrussState) → s.options ≡ o → o.count ≡ false
    → printed s ≡ flat_map (line_of o) (all_reports s)
unfolding printed report_lines
prints-lines o s same none =
    ap (λ b. cond b (flat_map refusal_or_nothing s.reports ++ counts_text s.reports) (report_lines s))
    (ap (λ (p : Options). p.count) same ∙ none)
    ∙ lines-are s.options (all_reports s)
    ∙ ap (λ (p : Options). flat_map (line_of p) (all_reports s)) same
