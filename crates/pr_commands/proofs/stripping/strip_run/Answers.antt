use Rattle.std.proofs.Common.{◌∙◌, ap, sym}
use Rattle.pr_hide.specs.Hidings.{hiders_of}
use Rattle.pr_run_laws.specs.ScenarioRuns.{run_of}
use Rattle.pr_commands.proofs.SeenLemmas.{ran-alike, untraced-plain}
use Rattle.pr_commands.specs.Answers.{plain_shown, untraced_shown}
use Rattle.pr_commands.proofs.stripping.strip_run.Goals as goal

pub returns-then-hide_nothing : goal.returns-then-hide_nothing
returns-then-hide_nothing g c =
    let none = ap hiders_of (sym c.as_slice.ensures.value) ∙ c.hide_nothing.ensures.nobody c.if-hide_nothing.true in
    ran-alike untraced_shown (plain_shown c.args.scenario) (run_of c.args.scenario) _ _ _ _ _ _ _
    (untraced-plain c.args.scenario c.args.who.items c.requires.hiders none) c.run_scenario.ensures
