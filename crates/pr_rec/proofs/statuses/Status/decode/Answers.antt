use Rattle.pr_rec.proofs.ReadLemmas.{AreBytes-fits}
use Rattle.pr_rec.proofs.StatusLemmas.{status-decoded}
use Rattle.pr_rec.proofs.statuses.Status.decode.Goals as goal

pub returns-clause-encoded : goal.returns-clause-encoded
returns-clause-encoded c =
    status-decoded c.args.bytes.now c.read.result
    (AreBytes-fits c.args.bytes.now c.type_inv.bytes) c.read.ensures.ok c.read.ensures.err c.read.ensures.sizes
