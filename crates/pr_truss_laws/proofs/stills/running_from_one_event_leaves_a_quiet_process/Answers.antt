use Rattle.pr_truss_laws.proofs.EventStops.OneEventLemmas.{one-granted, one-runs}
use Rattle.pr_truss_laws.proofs.stills.running_from_one_event_leaves_a_quiet_process.Goals as goal

pub returns-clause-granted : goal.returns-clause-granted
returns-clause-granted c = λ p id rises no_agent one. one-granted p id rises no_agent one

pub returns-clause-quiet : goal.returns-clause-quiet
returns-clause-quiet c = λ p id rises no_agent one. one-runs p id rises no_agent one
