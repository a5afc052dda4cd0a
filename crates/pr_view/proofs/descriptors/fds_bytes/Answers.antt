use Rattle.std.proofs.Common.{◌∙◌}
use Rattle.pr_view.proofs.ReadLemmas.{both_ok, fds-entries}
use Rattle.pr_view.proofs.descriptors.fds_bytes.Goals as goal

pub returns-clause-decodes : goal.returns-clause-decodes
returns-clause-decodes c =
    both_ok c.write_fds.result
    (λ bytes are ranged. fds-entries bytes _ _ are ranged (c.deref.ensures.value ∙ c.in_ok-entries.ensures))
    c.write_fds.ensures.bytes c.write_fds.ensures.ranged
