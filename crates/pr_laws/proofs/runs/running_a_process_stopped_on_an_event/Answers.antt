use Rattle.pr_laws.proofs.RunLemmas.{all-free}
use Rattle.pr_laws.proofs.runs.running_a_process_stopped_on_an_event.Goals as goal

pub returns-clause-all_are_free : goal.returns-clause-all_are_free
returns-clause-all_are_free c = all-free
