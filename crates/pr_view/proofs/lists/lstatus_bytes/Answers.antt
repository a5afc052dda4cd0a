use Rattle.std.proofs.Common.{◌∙◌}
use Rattle.pr_view.proofs.ReadLemmas.{both_ok, lstatus-entries}
use Rattle.pr_view.proofs.lists.lstatus_bytes.Goals as goal

pub returns-clause-decodes : goal.returns-clause-decodes
returns-clause-decodes c =
    both_ok c.write_lstatus.result
    (λ bytes are ranged infos.
    lstatus-entries bytes _ _ are ranged (c.deref.ensures.value ∙ c.in_ok-statuses.ensures) infos)
    c.write_lstatus.ensures.bytes c.write_lstatus.ensures.ranged
