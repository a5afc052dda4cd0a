use Rattle.std.proofs.Common.{◌≡◌, ◌≤◌, ◌∙◌, Err, length, ap, arith}
use Rattle.pr_api.specs.Views.{kernel_of}
use Rattle.pr_world.specs.Worlds.{WorldState, end_of, seen}
use Rattle.pr_commands.specs.Made.{kern_view}
use Rattle.pr_commands.specs.Reports.{reports_of}
use Rattle.pr_run.proofs.OneLemmas.{whatever}
use Rattle.pr_commands.proofs.RunLemmas.{ended-is, last-is, last-way, run-stopped}
use Rattle.pr_commands.proofs.runs.finish.Goals as goal

pub returns-in_err-end-clause-stopped : goal.returns-in_err-end-clause-stopped
unfolding kernel_of
returns-in_err-end-clause-stopped c =
    let entries = rw c.kernel.ensures at c.entries.ensures in
    let places : c.places.result ≡ c.run_one-ended.new.world.kernel.places =
    rw c.kernel-2.ensures at c.places.ensures in
    let within : length c.run_one-ended.new.world.kernel.history ≤ c.run_one-ended.new.world.kernel.places =
    omega (arith, entries.value, places, c.if-prove.false) in
    whatever c.from_residual.result _
    (run-stopped (Err c.in_err-end.field-0.0) (seen kern_view c.args.world.now)
    (seen kern_view c.run_one-ended.new.world) c.requires.told c.in_err-end.ensures.err.steps within)

pub returns-in_err-reports-clause-stopped : goal.returns-in_err-reports-clause-stopped
unfolding kernel_of
returns-in_err-reports-clause-stopped c =
    whatever c.from_residual-in_err-reports.result _
    (last-way (seen kern_view c.args.world.now) (seen kern_view c.run_one-ended.new.world)
    (last-is (seen kern_view c.args.world.now)
    (seen kern_view c.run_one-ended.new.world) c.requires.told c.requires.fresh c.in_ok-end.ensures.told))

pub returns-clause-ended : goal.returns-clause-ended
unfolding kernel_of
returns-clause-ended c =
    ended-is (seen kern_view c.run_one-ended.new.world) c.in_ok-end.end c.in_ok-end.ensures.end
    ∙ ap end_of
    (last-is (seen kern_view c.args.world.now)
    (seen kern_view c.run_one-ended.new.world) c.requires.told c.requires.fresh c.in_ok-end.ensures.told)

pub returns-clause-reports : goal.returns-clause-reports
unfolding kernel_of
returns-clause-reports c =
    c.in_ok-reports.ensures
    ∙ ap reports_of
    (last-is (seen kern_view c.args.world.now)
    (seen kern_view c.run_one-ended.new.world) c.requires.told c.requires.fresh c.in_ok-end.ensures.told)

pub returns-clause-history : goal.returns-clause-history
unfolding kernel_of
returns-clause-history c =
    ap (λ (x : WorldState). x.kernel.history)
    (last-is (seen kern_view c.args.world.now)
    (seen kern_view c.run_one-ended.new.world) c.requires.told c.requires.fresh c.in_ok-end.ensures.told)
