use Rattle.pr_open.proofs.ExclusionLemmas.{nothing_exclusive, opened_exclusive, closed_exclusive}
use Rattle.pr_open.proofs.laws.exclusive_handles_stay_alone.Goals as goal

pub returns-clause-first : goal.returns-clause-first
returns-clause-first c = nothing_exclusive

pub returns-clause-opened : goal.returns-clause-opened
returns-clause-opened c places h number exclusive got = opened_exclusive places h number exclusive got

pub returns-clause-closed : goal.returns-clause-closed
returns-clause-closed c places number exclusive = closed_exclusive places number exclusive
