use Rattle.std.proofs.Common.{ap, arith}
use Rattle.pr_num.proofs.TableLemmas.{map_step}
use Rattle.pr_num.specs.declared.mappings.Mapping.{Mapping}
use Rattle.pr_parts.specs.AddressSpaces.{with_written}
use Rattle.pr_mem.proofs.WriteLemmas.{is_written-all, is_written-reached, is_written-start}
use Rattle.pr_mem.proofs.writes.write_each.Goals as goal

pub loop-place-init : goal.loop-place-init
loop-place-init c = is_written-start c.args.at c.args.bytes.now c.args.mappings.now c.args.first c.requires.place

pub loop-place-preserved : goal.loop-place-preserved
loop-place-preserved c =
    rw c.in_ok-write.ensures.ok
    (map_step
    (with_written c.args.at c.args.bytes.now) c.args.mappings.now c.loop-place.mappings c.loop-place.place _
    (omega arith) c.loop-place.invariant)

pub returns-else-at-end : goal.returns-else-at-end
returns-else-at-end c =
    let same = ap (λ (n : Mapping). n.at) c.index-mappings-place.is in
    is_written-reached c.args.at c.args.bytes.now c.args.mappings.now c.loop-place.mappings c.loop-place.place
    c.index-mappings-place.result c.requires.space c.loop-place.invariant (omega arith) (omega (arith, same))

pub returns-after-loop-place : goal.returns-after-loop-place
returns-after-loop-place c =
    is_written-all c.args.at c.args.bytes.now c.args.mappings.now c.loop-place.mappings c.loop-place.place
    c.loop-place.invariant (omega arith)
