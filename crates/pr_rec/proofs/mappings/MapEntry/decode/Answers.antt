use Rattle.pr_rec.proofs.ReadLemmas.{AreBytes-fits}
use Rattle.pr_rec.proofs.MapEntryLemmas.{map_entry-decoded}
use Rattle.pr_rec.proofs.mappings.MapEntry.decode.Goals as goal

pub returns-clause-encoded : goal.returns-clause-encoded
returns-clause-encoded c =
    map_entry-decoded c.args.bytes.now c.read.result
    (AreBytes-fits c.args.bytes.now c.type_inv.bytes) c.read.ensures.ok c.read.ensures.err c.read.ensures.name
