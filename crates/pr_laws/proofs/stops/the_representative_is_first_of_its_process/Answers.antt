use Rattle.pr_laws.proofs.RepresentativeLemmas.{representative-leads}
use Rattle.pr_laws.proofs.stops.the_representative_is_first_of_its_process.Goals as goal

pub returns-clause-first : goal.returns-clause-first
returns-clause-first c = representative-leads
