use Rattle.pr_ready.proofs.QueueLemmas.{queue-is}
use Rattle.pr_ready.proofs.laws.the_queue_is_in_order.Goals as goal

pub returns : goal.returns
returns c = queue-is
