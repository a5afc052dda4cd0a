use Rattle.std.proofs.Common.{◌∙◌, List, refl, ap}
use Rattle.pr_output.specs.declared.reports.Report.{Report}
use Rattle.pr_commands.specs.Answers.{ran_so}
use Rattle.pr_commands.specs.Giving.{status_after}
use Rattle.pr_commands.specs.Statuses.{number}
use Rattle.pr_commands.specs.declared.outcomes.Status.{Status}
use Rattle.pr_commands.proofs.GivingLemmas.{gives, puts-same, whole-end}
use Rattle.pr_commands.proofs.responses.show_ran.Goals as goal

pub returns : goal.returns
unfolding ran_so
returns g c =
    let text = g.W.Shows.text c.args.showing in
    let written = c.write-written in
    let code = c.number.ensures ∙ ap number c.end_status-status.ensures in
    gives written.result
    (ran_so text c.args.ran.end c.args.history.entries c.args.ran.reports.items) c.status_after.result
    c.args.history.entries _ _ _ _
    (whole-end c.args.ran.end) refl
    (c.status_after.ensures.after ∙ ap (λ (s : Status). status_after written.result s) c.end_status-status.ensures)
    (puts-same _ _ _ _ _ _ _
    (ap (λ (rs : List Report). text c.args.history.entries rs c.number.result) c.as_slice-reports.ensures.value
    ∙ ap (text c.args.history.entries c.args.ran.reports.items) code) written.ensures)
