use Rattle.std.proofs.Common.{rules}
use Rattle.pr_output.proofs.Joined.{Puts-nothing}
use Rattle.pr_run_laws.specs.ScenarioRuns.{first_state_of}
use Rattle.pr_commands.proofs.GivingLemmas.{puts-same}
use Rattle.pr_commands.proofs.SeenLemmas.{steps-seen}
use Rattle.pr_commands.specs.Hidings.{hiders_in}
use Rattle.pr_commands.proofs.showings.write_seen.Goals as goal

pub strip_hidden-requires-clause-limits : goal.strip_hidden-requires-clause-limits
strip_hidden-requires-clause-limits g c = c.requires.limits

pub strip_hidden-requires-clause-few : goal.strip_hidden-requires-clause-few
strip_hidden-requires-clause-few g c = c.requires.few

pub strip_hidden-requires-clause-legal : goal.strip_hidden-requires-clause-legal
strip_hidden-requires-clause-legal g c = c.requires.legal

pub returns-in_err-steps : goal.returns-in_err-steps
returns-in_err-steps g c = Puts-nothing _ _ _ _ (search rules)

pub returns : goal.returns
returns g c =
    let s = c.args.scenario in
    puts-same _ _ _ _ _ _ _
    (steps-seen (hiders_in s) (first_state_of s) c.args.history.now.entries c.in_ok-steps.steps c.args.status
    c.in_ok-steps.ensures)
    c.write_steps.ensures
