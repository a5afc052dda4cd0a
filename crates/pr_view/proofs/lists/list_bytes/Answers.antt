use Rattle.std.proofs.Common.{◌∙◌}
use Rattle.pr_view.proofs.ReadLemmas.{both_ok, list-entries}
use Rattle.pr_view.proofs.lists.list_bytes.Goals as goal

pub returns-clause-decodes : goal.returns-clause-decodes
returns-clause-decodes c =
    both_ok c.write_list.result
    (λ bytes are ranged. list-entries bytes _ _ are ranged (c.deref.ensures.value ∙ c.in_ok-entries.ensures))
    c.write_list.ensures.bytes c.write_list.ensures.ranged
