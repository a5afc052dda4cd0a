use Rattle.pr_view.proofs.ReadLemmas.{lwpstatus-begins}
use Rattle.pr_view.proofs.views.lwpstatus_bytes.Goals as goal

pub returns-clause-decodes : goal.returns-clause-decodes
returns-clause-decodes c = lwpstatus-begins _ _ _ c.encode.ensures.bytes c.lwpstatus_of.ensures c.encode.ensures.ranged
