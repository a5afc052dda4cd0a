use Rattle.pr_rec.proofs.ListEntryLemmas.{list_entry-typed}
use Rattle.pr_rec.proofs.entries.ListEntryEntry.append.Goals as goal

pub returns-clause-ranged : goal.returns-clause-ranged
returns-clause-ranged c =
    list_entry-typed c.args.self.now c.words.ensures.id c.words.ensures.parent c.words.ensures.name
