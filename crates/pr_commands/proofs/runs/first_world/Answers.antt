use Rattle.pr_commands.proofs.RunLemmas.{first-made}
use Rattle.pr_commands.proofs.runs.first_world.Goals as goal

pub returns : goal.returns
returns c =
    let made = c.in_ok-actors.ensures in
    first-made c.new.result c.args.scenario c.in_ok-actors.actors.kern _ _ made.state made.history made.places
    made.controllers made.schedule c.new.ensures
