use Rattle.pr_rec.proofs.ReadLemmas.{AreBytes-fits}
use Rattle.pr_core.proofs.CoreLemmas.{read-cores, read-spelled}
use Rattle.pr_core.proofs.cores.Core.decode.Goals as goal

pub returns-clause-core : goal.returns-clause-core
returns-clause-core c =
    read-cores c.args.bytes.now c.read.result (AreBytes-fits c.args.bytes.now c.type_inv.bytes) c.read.ensures.ok
    c.read.ensures.psinfo c.read.ensures.lwps c.read.ensures.sigact c.read.ensures.maps

pub returns-clause-bytes : goal.returns-clause-bytes
returns-clause-bytes c =
    read-spelled c.args.bytes.now c.read.result (AreBytes-fits c.args.bytes.now c.type_inv.bytes) c.read.ensures.ok
