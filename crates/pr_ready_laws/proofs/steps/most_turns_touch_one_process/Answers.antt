use Rattle.pr_ready_laws.proofs.StepLemmas.{alone-touches, pipes-touch}
use Rattle.pr_ready_laws.proofs.steps.most_turns_touch_one_process.Goals as goal

pub returns : goal.returns
returns c = record { itself = alone-touches; to_pipes = pipes-touch }
