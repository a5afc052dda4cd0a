use Rattle.std.proofs.Common.{◌*◌, ◌∙◌, sym, arith}
use Rattle.std.proofs.lemmas.Bool.{eqb-false, or_parts}
use Rattle.pr_proc.specs.Marks.{any_process, has_ended}
use Rattle.pr_proc.proofs.MarkLemmas.{no-zombie, none-end, none-in, none-in_block, none-passed, none-with}
use Rattle.pr_proc.proofs.marks.children_in.Goals as goal

pub loop-id-init : goal.loop-id-init
loop-id-init c = record {
  start = omega arith;
  zombies = none-passed has_ended c.args.parent c.args.table.now (c.args.block * 64);
  children = λ seen. none-passed any_process c.args.parent c.args.table.now (c.args.block * 64);
}

-- the next process is of a later block
pub returns-then-block_of-block-clause-living : goal.returns-then-block_of-block-clause-living
returns-then-block_of-block-clause-living c =
    λ is. none-in_block has_ended c.args.parent c.args.table.now c.ids_rise.ensures c.args.block c.loop-id.low
    c.in-Some.id c.in-Some.process.now c.requires c.loop-id.invariant.start c.in-Some.ensures.behind
    c.loop-id.invariant.zombies c.in-Some.ensures.next
    (λ same. c.if-block_of-block.true (c.block_of.ensures.value ∙ same))

pub returns-then-block_of-block-clause-nobody : goal.returns-then-block_of-block-clause-nobody
returns-then-block_of-block-clause-nobody c =
    λ is. none-in_block any_process c.args.parent c.args.table.now c.ids_rise.ensures c.args.block c.loop-id.low
    c.in-Some.id c.in-Some.process.now c.requires c.loop-id.invariant.start c.in-Some.ensures.behind
    (c.loop-id.invariant.children (c.living.ensures.nobody is)) c.in-Some.ensures.next
    (λ same. c.if-block_of-block.true (c.block_of.ensures.value ∙ same))

-- the next one is no child that has ended
pub loop-id-preserved : goal.loop-id-preserved
loop-id-preserved c =
    let behind = c.in-Some.ensures.behind in
    let start = c.loop-id.invariant.start in record {
      start = omega arith;
      zombies =
          none-with has_ended c.args.parent c.args.table.now c.ids_rise.ensures (c.args.block * 64) c.loop-id.low
          c.in-Some.id c.in-Some.process.now c.loop-id.invariant.zombies c.in-Some.ensures.next
          (no-zombie c.args.parent c.in-Some.process.now (sym c.zombie_status.ensures ∙ c.in_default-zombie_status.is));
      children = λ seen.
          let parts = or_parts c.loop-id.any _ seen in
          none-with any_process c.args.parent c.args.table.now c.ids_rise.ensures (c.args.block * 64) c.loop-id.low
          c.in-Some.id c.in-Some.process.now (c.loop-id.invariant.children parts.0) c.in-Some.ensures.next
          (λ meant. eqb-false c.in-Some.process.now.parent c.args.parent parts.1);
    }

-- none is left
pub returns-clause-living : goal.returns-clause-living
returns-clause-living c =
    λ is. none-in has_ended c.args.parent c.args.table.now c.ids_rise.ensures c.args.block c.loop-id.low c.requires
    (none-end has_ended c.args.parent c.args.table.now c.ids_rise.ensures (c.args.block * 64) c.loop-id.low
    c.loop-id.invariant.zombies c.in_default.ensures.none)

pub returns-clause-nobody : goal.returns-clause-nobody
returns-clause-nobody c =
    λ is. none-in any_process c.args.parent c.args.table.now c.ids_rise.ensures c.args.block c.loop-id.low c.requires
    (none-end any_process c.args.parent c.args.table.now c.ids_rise.ensures (c.args.block * 64) c.loop-id.low
    (c.loop-id.invariant.children (c.living-2.ensures.nobody is)) c.in_default.ensures.none)
