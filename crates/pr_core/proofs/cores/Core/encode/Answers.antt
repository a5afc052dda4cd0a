use Rattle.pr_core.proofs.CoreLemmas.{written-read}
use Rattle.pr_core.proofs.cores.Core.encode.Goals as goal

pub returns-clause-read : goal.returns-clause-read
returns-clause-read c =
    written-read c.args.self.now c.write.result c.write.ensures.bytes c.write.ensures.core c.write.ensures.fits
