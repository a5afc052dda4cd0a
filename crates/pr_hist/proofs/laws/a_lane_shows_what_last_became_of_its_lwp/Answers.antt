use Rattle.pr_hist.proofs.MarkLaws.{shows-end, shows-event, shows-going, shows-new, shows-request, shows-signal, shows-sleep}
use Rattle.pr_hist.proofs.laws.a_lane_shows_what_last_became_of_its_lwp.Goals as goal

pub returns-clause-on_event : goal.returns-clause-on_event
returns-clause-on_event c = shows-event

pub returns-clause-requested : goal.returns-clause-requested
returns-clause-requested c = shows-request

pub returns-clause-job_stopped : goal.returns-clause-job_stopped
returns-clause-job_stopped c = shows-signal

pub returns-clause-asleep : goal.returns-clause-asleep
returns-clause-asleep c = shows-sleep

pub returns-clause-runs : goal.returns-clause-runs
returns-clause-runs c = shows-going

pub returns-clause-made : goal.returns-clause-made
returns-clause-made c = shows-new

pub returns-clause-ended : goal.returns-clause-ended
returns-clause-ended c = shows-end
