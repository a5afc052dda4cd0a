use Rattle.std.proofs.Common.{◌∙◌, ◌++◌, List, ap, arith}
use Rattle.pr_actors.proofs.ReportLemmas.{reports-none, reports-step, reports-whole}
use Rattle.pr_actors.specs.Reports.{report_of}
use Rattle.pr_api.specs.Views.{kernel_of}
use Rattle.pr_kern.specs.Kernels.{Kernel}
use Rattle.pr_num.specs.Programs.{Program}
use Rattle.pr_world.specs.ControllerStates.{state_of}
use Rattle.pr_commands.specs.Reports.{reports_of}
use Rattle.pr_commands.proofs.reports.reports_of.Goals as goal

pub loop-number-init : goal.loop-number-init
loop-number-init c = c.new-reports.ensures.items
    ∙ reports-none c.args.world.now.kernel.state.system.programs c.args.world.now.controllers

pub loop-number-preserved : goal.loop-number-preserved
loop-number-preserved c =
    let programs = c.programs.ensures ∙ ap (λ (k : Kernel). k.state.system.programs) c.kernel.ensures in
    reports-step c.args.world.now.kernel.state.system.programs c.loop-number.number c.args.world.now.controllers _ _ _
    c.controller-controller.ensures c.loop-number.invariant
    (c.in_ok-add_report.ensures
    ∙ ap (λ (ps : List Program). c.loop-number.reports.items ++ report_of ps c.loop-number.number
    (state_of c.controller-controller.result.now)) programs)

pub returns : goal.returns
unfolding reports_of kernel_of
returns c =
    reports-whole c.args.world.now.kernel.state.system.programs c.loop-number.number c.args.world.now.controllers _
    (omega (arith, c.controllers-number-end.ensures.value, c.loop-number-test.false)) c.loop-number.invariant
