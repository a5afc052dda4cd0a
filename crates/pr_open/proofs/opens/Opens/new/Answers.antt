use Rattle.pr_model.specs.State.{nothing_open}
use Rattle.pr_open.proofs.opens.Opens.new.Goals as goal

pub returns : goal.returns
unfolding nothing_open
returns c = c.in_ok-held.ensures
