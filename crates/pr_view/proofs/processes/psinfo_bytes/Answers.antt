use Rattle.pr_view.proofs.ReadLemmas.{psinfo-begins}
use Rattle.pr_view.proofs.processes.psinfo_bytes.Goals as goal

pub returns-clause-decodes : goal.returns-clause-decodes
returns-clause-decodes c = psinfo-begins _ _ _ c.encode.ensures.encoded c.psinfo_of.ensures
