use Rattle.pr_num.proofs.NumberedLemmas.{has_number-least_entry, least_entry-least}
use Rattle.pr_num.proofs.set_laws.least_entries.Goals as goal

pub returns : goal.returns
returns g c = record {
  member = λ w least found. has_number-least_entry g.T.Numbered.number_of w g.T.Numbered.table least found;
  least = λ w least found.
      least_entry-least g.T.Numbered.number_of w 1 g.T.Numbered.table least c.entries.ensures.counted found;
}
