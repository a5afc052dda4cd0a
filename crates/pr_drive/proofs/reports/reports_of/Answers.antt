use Rattle.std.proofs.Common.{◌∙◌, ◌++◌, List, ap, arith}
use Rattle.pr_num.specs.Programs.{Program}
use Rattle.pr_world.specs.ControllerStates.{state_of}
use Rattle.pr_actors.specs.Reports.{report_of}
use Rattle.pr_actors.proofs.ReportLemmas.{reports-none, reports-step, reports-whole}
use Rattle.pr_drive.proofs.reports.reports_of.Goals as goal

pub loop-number-init : goal.loop-number-init
loop-number-init c = c.new-reports.ensures.items
    ∙ reports-none c.args.seats.now.kernel.state.system.programs c.args.seats.now.controllers

pub loop-number-preserved : goal.loop-number-preserved
loop-number-preserved c =
    reports-step c.args.seats.now.kernel.state.system.programs c.loop-number.number c.args.seats.now.controllers _ _ _
    c.controller-controller.ensures c.loop-number.invariant
    (c.in_ok-add_report.ensures
    ∙ ap (λ (ps : List Program). c.loop-number.reports.items ++ report_of ps c.loop-number.number
    (state_of c.controller-controller.result.now)) c.programs.ensures)

pub returns : goal.returns
returns c =
    reports-whole c.args.seats.now.kernel.state.system.programs c.loop-number.number c.args.seats.now.controllers _
    (omega (arith, c.outside-number-end.ensures.number, c.loop-number-test.false)) c.loop-number.invariant
