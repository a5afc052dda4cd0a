use Rattle.std.proofs.Common.{◌∙◌}
use Rattle.pr_view.proofs.ReadLemmas.{both_ok, watch-entries}
use Rattle.pr_view.proofs.lists.watch_bytes.Goals as goal

pub returns-clause-decodes : goal.returns-clause-decodes
returns-clause-decodes c =
    both_ok c.write_watch.result
    (λ bytes are ranged. watch-entries bytes _ _ are ranged (c.deref.ensures.value ∙ c.in_ok-entries.ensures))
    c.write_watch.ensures.bytes c.write_watch.ensures.ranged
