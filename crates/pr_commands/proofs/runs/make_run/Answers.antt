use Rattle.std.proofs.Common.{◌≡◌, subst, IfOk, OnOk}
use Rattle.pr_api.specs.Views.{kernel_of}
use Rattle.pr_world.specs.Worlds.{WorldState, end_of}
use Rattle.pr_commands.specs.Reports.{reports_of}
use Rattle.pr_commands.proofs.RunLemmas.{run-is, seen-told, seen-fresh}
use Rattle.pr_commands.proofs.runs.make_run.Goals as goal

pub run_world-requires-clause-told : goal.run_world-requires-clause-told
run_world-requires-clause-told c = seen-told _ _ c.in-Ok.ensures

pub run_world-requires-clause-fresh : goal.run_world-requires-clause-fresh
run_world-requires-clause-fresh c = seen-fresh _ _ c.in-Ok.ensures

pub returns-in-Ok-clause-ended : goal.returns-in-Ok-clause-ended
unfolding kernel_of
returns-in-Ok-clause-ended c =
    subst (λ (w : WorldState). IfOk c.run_world.result.ran (λ ran. ran.end ≡ end_of w))
    (run-is c.args.scenario _ c.in-Ok.ensures) c.run_world.ensures.ended

pub returns-in-Ok-clause-reports : goal.returns-in-Ok-clause-reports
unfolding kernel_of
returns-in-Ok-clause-reports c =
    subst (λ (w : WorldState). IfOk c.run_world.result.ran (λ ran. ran.reports.items ≡ reports_of w))
    (run-is c.args.scenario _ c.in-Ok.ensures) c.run_world.ensures.reports

pub returns-in-Ok-clause-history : goal.returns-in-Ok-clause-history
unfolding kernel_of
returns-in-Ok-clause-history c =
    subst (λ (w : WorldState). OnOk c.run_world.result.ran (c.run_world.result.history.entries ≡ w.kernel.history))
    (run-is c.args.scenario _ c.in-Ok.ensures) c.run_world.ensures.history
