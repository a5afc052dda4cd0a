use Rattle.std.proofs.Common.{◌+◌, ◌∙◌, List, ℕ, is_some, refl, sym, ap, subst, arith}
use Rattle.pr_num.specs.ById.{map_each}
use Rattle.pr_model.specs.Lives.{orphaned}
use Rattle.pr_model.specs.State.{TracedProcess}
use Rattle.pr_proc.proofs.LifeLemmas.{AreIdle, each-orphaned, idle-next, orphans-all}
use Rattle.pr_proc.proofs.ends.orphan_each.Goals as goal

pub loop-id-init : goal.loop-id-init
loop-id-init c = record { same = refl; idle = λ id p there less. absurd (omega arith) }

-- the next child stands
pub orphan_under-requires : goal.orphan_under-requires
orphan_under-requires c = ap is_some c.in-Some.ensures.found

-- the next child is changed
pub loop-id-preserved : goal.loop-id-preserved
loop-id-preserved c = record {
  same =
      ap (map_each (orphaned c.args.parent)) c.orphan_under.ensures
      ∙ each-orphaned c.args.parent c.in-Some.id c.loop-id.processes (ap is_some c.in-Some.ensures.found)
      ∙ c.loop-id.invariant.same;
  idle =
      subst (λ (es : List (ℕ × TracedProcess)). AreIdle c.args.parent es (c.in-Some.id + 1))
      (sym c.orphan_under.ensures)
      (idle-next c.args.parent c.loop-id.low c.in-Some.id c.loop-id.processes c.loop-id.invariant.idle
      c.in-Some.ensures.least);
}

-- none is left
pub returns : goal.returns
returns c =
    orphans-all c.args.parent c.loop-id.low c.loop-id.processes c.args.processes.now c.ids_rise.ensures
    c.loop-id.invariant.same c.loop-id.invariant.idle c.in_default.ensures.none
