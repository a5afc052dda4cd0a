use Rattle.std.proofs.Common.{take}
use Rattle.std.proofs.lemmas.Result.{err_from_is_err_and}
use Rattle.pr_scen.specs.Reading.{scenario_of}
use Rattle.pr_commands.proofs.FindingLemmas.{parts-refused}
use Rattle.pr_commands.specs.Checks.{parts_at}
use Rattle.pr_commands.proofs.checks.judge_parts.Goals as goal

pub returns-in_err-scenario : goal.returns-in_err-scenario
unfolding parts_at
returns-in_err-scenario c =
    let p = err_from_is_err_and c.from_residual.result c.from_residual.ensures.1 in
    rw (p.1, p.2)
    (parts-refused c.in_err-scenario.field-0.0 (scenario_of (take c.args.place c.args.text.now)) _
    c.in_err-scenario.ensures.read)
