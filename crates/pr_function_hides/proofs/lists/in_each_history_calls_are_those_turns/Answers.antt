use Rattle.pr_function_hides.proofs.Listed.ListedLaw.{fetched-turns}
use Rattle.pr_function_hides.proofs.PlantedFetches.FetchesLaw.{fetches_breakpoints}
use Rattle.pr_function_hides.proofs.lists.in_each_history_calls_are_those_turns.Goals as goal

pub returns-clause-fetched : goal.returns-clause-fetched
returns-clause-fetched c = fetched-turns

pub returns-clause-spared : goal.returns-clause-spared
returns-clause-spared c n k o s h run able fit spares =
    fetched-turns n k o s h run able (fetches_breakpoints n k o s h run fit spares)
