use Rattle.std.proofs.Common.{[], ◌∷◌, ◌++◌, sym, ap, ◌∙◌, append_assoc}
use Rattle.pr_parts.specs.FileCalls.{with_file}
use Rattle.pr_kern.proofs.FileLemmas.{stored-push}
use Rattle.pr_kern.proofs.starts.stored.Goals as goal

pub loop-name-preserved : goal.loop-name-preserved
loop-name-preserved c =
    let so_far = c.loop-name.invariant in (
      c.in_ok-add.ensures.ok ∙ ap (λ t. with_file t c.in-Some.name c.in-Some.bytes) so_far.0
          ∙ stored-push c.loop-name.yielded c.in-Some.name c.in-Some.bytes,
      so_far.1 ∙ ap (λ files. c.loop-name.yielded ++ files) c.in-Some.ensures.steps.0
          ∙ sym (append_assoc c.loop-name.yielded ((c.in-Some.name, c.in-Some.bytes) ∷ []) c.next.new.self.rest.items),
    )
