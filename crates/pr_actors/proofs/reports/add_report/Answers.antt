use Rattle.pr_actors.proofs.ReportLemmas.{report-none, report-some}
use Rattle.pr_actors.proofs.reports.add_report.Goals as goal

pub returns-in_default : goal.returns-in_default
returns-in_default c = report-none c.args.programs.now c.args.number _ c.args.reports.now.items c.in_default.ensures

pub returns : goal.returns
returns c = report-some c.args.programs.now c.args.number _ c.in-Some.printer c.in_ok-text.text _ _ c.in-Some.ensures
    c.in_ok-text.ensures c.in_ok-push.ensures.items
