use Rattle.pr_view.proofs.ReadLemmas.{usage-begins}
use Rattle.pr_view.proofs.processes.usage_bytes.Goals as goal

pub returns-clause-decodes : goal.returns-clause-decodes
returns-clause-decodes c = usage-begins _ _ _ c.encode.ensures.encoded c.usage_of.ensures
