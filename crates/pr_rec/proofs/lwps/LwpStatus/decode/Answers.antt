use Rattle.pr_rec.proofs.ReadLemmas.{AreBytes-fits}
use Rattle.pr_rec.proofs.LwpStatusLemmas.{lwpstatus-decoded}
use Rattle.pr_rec.proofs.lwps.LwpStatus.decode.Goals as goal

pub returns-clause-encoded : goal.returns-clause-encoded
returns-clause-encoded c =
    lwpstatus-decoded c.args.bytes.now c.read.result
    (AreBytes-fits c.args.bytes.now c.type_inv.bytes) c.read.ensures.ok c.read.ensures.err c.read.ensures.sizes
