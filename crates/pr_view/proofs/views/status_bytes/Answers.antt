use Rattle.pr_view.proofs.ReadLemmas.{status-begins}
use Rattle.pr_view.proofs.views.status_bytes.Goals as goal

pub returns-clause-decodes : goal.returns-clause-decodes
returns-clause-decodes c = status-begins _ _ _ c.encode.ensures.bytes c.status_of.ensures c.encode.ensures.ranged
