use Rattle.std.proofs.Common.{refl, subst}
use Rattle.pr_api.specs.Views.{kernel_of}
use Rattle.pr_world.specs.Runs.{CameFrom}
use Rattle.pr_world.specs.Worlds.{WorldState, seen}
use Rattle.pr_commands.specs.Made.{kern_view}
use Rattle.pr_commands.proofs.RunLemmas.{seen-fresh}
use Rattle.pr_commands.proofs.SharedLemmas.{shown-one}
use Rattle.pr_commands.proofs.sharing.share_scenario.Goals as goal

pub run_many-requires-clause-empty : goal.run_many-requires-clause-empty
unfolding kernel_of
run_many-requires-clause-empty g c κs within = (seen-fresh _ _ c.in-Ok.ensures).history

pub returns-in-Ok-run_many : goal.returns-in-Ok-run_many
unfolding kernel_of
returns-in-Ok-run_many g c =
    let w = c.in-Ok-run_many.world in
    let came =
    subst (λ (first : WorldState). CameFrom first (seen kern_view w)) c.in-Ok.ensures
    c.in-Ok-run_many.ensures.came in
    shown-one c.args.showing c.args.scenario (seen kern_view w) c.in-Ok-run_many.end _ _ _ _ _ _ came
    (record { machine = w.kernel.state; is = refl }) c.in-Ok-run_many.ensures.within c.in-Ok-run_many.ensures.end
    c.show_end.ensures.ended c.show_end.ensures.stopped
