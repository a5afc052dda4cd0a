use Rattle.pr_function_laws.proofs.Pending.EventReads.{events-read}
use Rattle.pr_function_laws.proofs.events.each_event_is_told_by_the_next_read.Goals as goal

pub returns : goal.returns
returns c = events-read
