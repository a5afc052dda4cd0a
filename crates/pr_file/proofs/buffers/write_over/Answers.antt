use Rattle.std.proofs.Common.{◌≡◌, length, sym, ◌∙◌}
use Rattle.pr_file.proofs.ByteLemmas.{after_write-grown}
use Rattle.pr_file.proofs.buffers.write_over.Goals as goal

pub returns-clause-ok : goal.returns-clause-ok
returns-clause-ok c =
    let same : length c.paste.new.items ≡ c.grow.new.items.len = c.paste.auto.items ∙ c.deref_mut.ensures.len in
    after_write-grown _ _ _ _ _ _ _ (sym c.is_empty.ensures ∙ c.if-is_empty.false)
    (c.deref_mut.ensures.value ∙ c.in_ok-grow.ensures.ok) c.paste.ensures same
