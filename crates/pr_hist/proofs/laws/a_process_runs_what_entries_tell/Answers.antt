use Rattle.pr_hist.proofs.ProgramLaws.{listings-behind, rises-at_first, runs-at_first, told-runs, untold-runs}
use Rattle.pr_hist.proofs.laws.a_process_runs_what_entries_tell.Goals as goal

pub returns-clause-at_first : goal.returns-clause-at_first
returns-clause-at_first c = runs-at_first

pub returns-clause-rising : goal.returns-clause-rising
returns-clause-rising c = rises-at_first

pub returns-clause-told : goal.returns-clause-told
returns-clause-told c = told-runs

pub returns-clause-untold : goal.returns-clause-untold
returns-clause-untold c = untold-runs

pub returns-clause-listings : goal.returns-clause-listings
returns-clause-listings c = listings-behind
