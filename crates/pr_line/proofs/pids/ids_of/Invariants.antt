use Rattle.std.proofs.Common.{◌≡◌, map, drop, []}
use Rattle.pr_line.specs.Pids.{with_ids}
use Rattle.pr_line.proofs.pids.ids_of.Given as goal

abbrev pub invariant-loop-part : goal.invariant-loop-part
invariant-loop-part l =
    with_ids l.ids.items (map (λ part. part.now) (drop l.part-index l.parts)) ≡ with_ids
    [] (map (λ part. part.now) l.parts)
