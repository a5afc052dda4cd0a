-- What controllers print, by their numbers.
use Rattle.std.proofs.Common.{◌≡◌, ℕ, ◌+◌, ◌≤◌, List, [], ◌∷◌, ◌++◌, Some, None, length, take, refl, sym}
use Rattle.std.proofs.Common.{ap, ◌∙◌, arith, append_assoc, append-nil}
use Rattle.std.proofs.lemmas.List.{length-take-le, take_all}
use Rattle.std.proofs.lemmas.Option.{slice_get_within}
use Rattle.std.specs.List.{slice_get}
use Rattle.pr_num.specs.Programs.{Program}
use Rattle.pr_num.proofs.ListLemmas.{take-next}
use Rattle.pr_output.specs.declared.reports.Printer.{Printer}
use Rattle.pr_output.specs.declared.reports.Report.{Report}
use Rattle.pr_world.specs.Controllers.{printed}
use Rattle.pr_world.specs.ControllerStates.{ControllerState}
use Rattle.pr_actors.specs.Reports.{printer_of, report_by, report_of, reports_from}

-- one controller more
reports-push : (programs : List Program) (n : ℕ) (cores : List ControllerState) (core : ControllerState)
    → reports_from programs n (cores ++ core ∷ []) ≡ reports_from programs n cores ++ report_of programs
    (n + length cores) core
unfolding reports_from
reports-push programs n [] core = append-nil (report_of programs n core)
    ∙ ap (λ k. report_of programs k core) {x = n} {y = n + 0} (omega arith)
reports-push programs n (c ∷ cores) core =
    ap (λ rs. report_of programs n c ++ rs)
    (reports-push programs (n + 1) cores core
    ∙ ap (λ k. reports_from programs (n + 1) cores ++ report_of programs k core) {x = n + 1 + length cores}
    {y = n + length (c ∷ cores)} (omega arith))
    ∙ sym (append_assoc (report_of programs n c) (reports_from programs (n + 1) cores)
    (report_of programs (n + length (c ∷ cores)) core))

-- the controllers up to and with the one of a number
reports-next : (programs : List Program) (k : ℕ) (cores : List ControllerState) (core : ControllerState)
    → slice_get cores k ≡ Some core
    → reports_from programs 0 (take (k + 1) cores) ≡ reports_from programs 0 (take k cores) ++ report_of programs k core
reports-next programs k cores core here =
    ap (reports_from programs 0) (take-next k cores core here) ∙ reports-push programs 0 (take k cores) core
    ∙ ap (λ i. reports_from programs 0 (take k cores) ++ report_of programs i core) {x = 0 + length (take k cores)}
    {y = k} (omega (arith, length-take-le k cores (omega (arith, slice_get_within cores k core here))))

-- a controller that prints nothing has no report
pub report-none : (programs : List Program) (n : ℕ) (core : ControllerState) (reports : List Report)
    → None ≡ printer_of core → reports ≡ reports ++ report_of programs n core
unfolding report_of
report-none programs n core reports none = sym (append-nil reports)
    ∙ ap (λ p. reports ++ report_by programs n core p) none

-- and one that prints has one
pub report-some : (programs : List Program) (n : ℕ) (core : ControllerState) (by : Printer) (text : List ℕ)
    (old new : List Report) → Some by ≡ printer_of core → text ≡ printed core programs
    → new ≡ old ++ record { controller = n; printer = by; text = text } ∷ [] → new ≡ old ++ report_of programs n core
unfolding report_of
report-some programs n core by text old new prints says grown =
    grown ∙ ap (λ t. old ++ record { controller = n; printer = by; text = t } ∷ []) says
    ∙ ap (λ p. old ++ report_by programs n core p) prints

pub reports-none : (programs : List Program) (cores : List ControllerState)
    → [] ≡ reports_from programs 0 (take 0 cores)
unfolding reports_from
reports-none programs cores = refl

pub reports-step : (programs : List Program) (k : ℕ) (cores : List ControllerState) (core : ControllerState)
    (old new : List Report) → slice_get cores k ≡ Some core → old ≡ reports_from programs 0 (take k cores)
    → new ≡ old ++ report_of programs k core → new ≡ reports_from programs 0 (take (k + 1) cores)
reports-step programs k cores core old new here so_far grown =
    grown ∙ ap (λ rs. rs ++ report_of programs k core) so_far ∙ sym (reports-next programs k cores core here)

pub reports-whole : (programs : List Program) (k : ℕ) (cores : List ControllerState) (reports : List Report)
    → length cores ≤ k → reports ≡ reports_from programs 0 (take k cores) → reports ≡ reports_from programs 0 cores
reports-whole programs k cores reports all so_far = so_far ∙ ap (reports_from programs 0) (take_all k cores all)
