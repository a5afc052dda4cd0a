use Rattle.pr_reached.proofs.FitStates.FitHistoryLemmas.{first-fits, history-fits}
use Rattle.pr_reached.proofs.fits.reached_states_are_fit.Goals as goal

pub returns : goal.returns
returns c = record { first = first-fits; later = history-fits }
