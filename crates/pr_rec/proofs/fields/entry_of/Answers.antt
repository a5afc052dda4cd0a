use Rattle.pr_rec.proofs.FieldLemmas.{entry_back}
use Rattle.pr_rec.proofs.fields.entry_of.Goals as goal

pub returns : goal.returns
returns g c =
    entry_back _ _ _ c.entries.ensures.counted c.entries.ensures.whole _ _ c.from_number.ensures.entry c.requires
