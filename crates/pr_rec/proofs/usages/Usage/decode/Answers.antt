use Rattle.pr_rec.proofs.ReadLemmas.{AreBytes-fits}
use Rattle.pr_rec.proofs.UsageLemmas.{usage-decoded}
use Rattle.pr_rec.proofs.usages.Usage.decode.Goals as goal

pub returns-clause-encoded : goal.returns-clause-encoded
returns-clause-encoded c =
    usage-decoded c.args.bytes.now c.read.result
    (AreBytes-fits c.args.bytes.now c.type_inv.bytes) c.read.ensures.ok c.read.ensures.err
