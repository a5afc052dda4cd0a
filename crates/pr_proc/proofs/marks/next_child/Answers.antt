use Rattle.std.proofs.Common.{arith}
use Rattle.pr_slots.proofs.WalkLaws.{under-next}
use Rattle.pr_proc.specs.Marks.{any_process}
use Rattle.pr_proc.proofs.MarkLemmas.{if-none, none-before, none-end, none-further, none-passed, none-with}
use Rattle.pr_proc.proofs.marks.next_child.Goals as goal

pub loop-start-init : goal.loop-start-init
loop-start-init c =
    record { behind = omega arith; none = none-passed any_process c.args.parent c.args.table.now c.args.low }

-- no process stands from there on
pub returns-in_err-id-clause-none : goal.returns-in_err-id-clause-none
returns-in_err-id-clause-none c =
    if-none c.from_residual.result
    (none-end any_process c.args.parent c.args.table.now c.ids_rise.ensures c.args.low c.in-Some.start
    (none-further any_process c.args.parent c.args.table.now c.args.low c.loop-start.at c.in-Some.start
    c.loop-start.invariant.none
    (c.in-Some.ensures.passed any_process c.requires)) c.in_err-id.ensures.none)

pub returns-then-process-parent-clause-found : goal.returns-then-process-parent-clause-found
returns-then-process-parent-clause-found c =
    under-next 0 c.in-Some.start c.args.table.now (c.in_ok-id.id, c.in_ok-id.process.now) c.ids_rise.ensures
    c.in_ok-id.ensures.next

-- none stands before this one
pub returns-then-process-parent-clause-least : goal.returns-then-process-parent-clause-least
returns-then-process-parent-clause-least c =
    none-before any_process c.args.parent c.args.table.now c.ids_rise.ensures c.args.low c.in-Some.start c.in_ok-id.id
    c.in_ok-id.process.now
    (none-further any_process c.args.parent c.args.table.now c.args.low c.loop-start.at c.in-Some.start
    c.loop-start.invariant.none
    (c.in-Some.ensures.passed any_process c.requires)) c.in_ok-id.ensures.next

-- this one is no child
pub loop-start-preserved : goal.loop-start-preserved
loop-start-preserved c =
    let on = c.in-Some.ensures.behind in
    let next = c.in_ok-id.ensures.behind in
    let was = c.loop-start.invariant.behind in record {
      behind = omega arith;
      none =
          none-with any_process c.args.parent c.args.table.now c.ids_rise.ensures c.args.low c.in-Some.start
          c.in_ok-id.id
          c.in_ok-id.process.now
          (none-further any_process c.args.parent c.args.table.now c.args.low c.loop-start.at c.in-Some.start
          c.loop-start.invariant.none (c.in-Some.ensures.passed any_process c.requires)) c.in_ok-id.ensures.next
          (λ meant. c.if-process-parent.false);
    }
