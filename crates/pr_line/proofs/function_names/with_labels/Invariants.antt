use Rattle.std.proofs.Common.{◌≡◌, map, drop, []}
use Rattle.pr_line.specs.FunctionNames.{with_labels}
use Rattle.pr_line.proofs.function_names.with_labels.Given as goal

abbrev pub invariant-loop-part : goal.invariant-loop-part
invariant-loop-part l =
    with_labels l.labels (map (λ part. part.now) (drop l.part-index l.parts)) ≡ with_labels
    [] (map (λ part. part.now) l.parts)
