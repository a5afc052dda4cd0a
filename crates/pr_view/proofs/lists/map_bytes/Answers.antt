use Rattle.std.proofs.Common.{◌∙◌}
use Rattle.pr_view.proofs.ReadLemmas.{both_ok, map-entries}
use Rattle.pr_view.proofs.lists.map_bytes.Goals as goal

pub returns-clause-decodes : goal.returns-clause-decodes
returns-clause-decodes c =
    both_ok c.write_map.result
    (λ bytes are ranged. map-entries bytes _ _ are ranged (c.deref.ensures.value ∙ c.in_ok-entries.ensures))
    c.write_map.ensures.bytes c.write_map.ensures.ranged
