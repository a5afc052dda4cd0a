use Rattle.pr_function_laws.proofs.Listing.LeavingEvents.{lists-its-events}
use Rattle.pr_function_laws.proofs.listed.in_each_history_events_are_shown.Goals as goal

pub returns : goal.returns
returns c = lists-its-events
