use Rattle.pr_api.proofs.ShapeLemmas.{machine-shaped}
use Rattle.pr_api.proofs.laws.replies_of_the_machine_have_their_shape.Goals as goal

pub returns : goal.returns
returns c = machine-shaped
