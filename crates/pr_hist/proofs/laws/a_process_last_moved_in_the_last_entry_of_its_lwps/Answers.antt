use Rattle.pr_hist.proofs.MoveLaws.{moved-exactly}
use Rattle.pr_hist.proofs.laws.a_process_last_moved_in_the_last_entry_of_its_lwps.Goals as goal

pub returns : goal.returns
returns c = moved-exactly
