use Rattle.pr_commands.proofs.MadeLemmas.{made-shown, made-fits}
use Rattle.pr_commands.proofs.responses.run_scenario.Goals as goal

pub returns : goal.returns
returns g c =
    let made = c.make_run-made in
    let shown = c.show_made.ensures in
    made-shown
    (g.W.Shows.text c.args.showing) c.args.scenario made.result.history.entries _ _ _ _ _ _ made.result.ran
    made.ensures.ended made.ensures.reports made.ensures.history made.ensures.stopped shown.shown shown.stopped

pub show_made-requires : goal.show_made-requires
show_made-requires g c =
    made-fits
    (g.W.Shows.fits c.args.showing) c.make_run-made.result.ran _ _ c.make_run-made.ensures.history c.requires.fits
