use Rattle.std.proofs.Common.{is_some, ap, sym, ◌∙◌, arith}
use Rattle.std.proofs.lemmas.Option.{same_Some}
use Rattle.pr_slots.proofs.WalkLaws.{under-next}
use Rattle.pr_model.specs.State.{TracedProcess}
use Rattle.pr_proc.specs.Marks.{has_ended}
use Rattle.pr_proc.proofs.MarkLemmas.{if-none, is-zombie, no-zombie, none-before, none-end, none-further, none-passed, none-with}
use Rattle.pr_proc.proofs.marks.next_zombie.Goals as goal

pub loop-start-init : goal.loop-start-init
loop-start-init c =
    record { behind = omega arith; none = none-passed has_ended c.args.parent c.args.table.now c.args.low }

-- no process stands from there on
pub returns-in_err-id-clause-none : goal.returns-in_err-id-clause-none
returns-in_err-id-clause-none c =
    if-none c.from_residual.result
    (none-end has_ended c.args.parent c.args.table.now c.ids_rise.ensures c.args.low c.in-Some.start
    (none-further has_ended c.args.parent c.args.table.now c.args.low c.loop-start.at c.in-Some.start
    c.loop-start.invariant.none (c.in-Some.ensures.passed has_ended c.requires)) c.in_err-id.ensures.none)

pub returns-in-Some-zombie_status-clause-found : goal.returns-in-Some-zombie_status-clause-found
returns-in-Some-zombie_status-clause-found c =
    ap is_some
    (under-next 0 c.in-Some.start c.args.table.now (c.in_ok-id.id, c.in_ok-id.process.now) c.ids_rise.ensures
    c.in_ok-id.ensures.next)

-- it is a child
pub returns-in-Some-zombie_status-clause-child : goal.returns-in-Some-zombie_status-clause-child
returns-in-Some-zombie_status-clause-child c = λ p there.
    let found =
    under-next 0 c.in-Some.start c.args.table.now (c.in_ok-id.id, c.in_ok-id.process.now) c.ids_rise.ensures
    c.in_ok-id.ensures.next in
    let told =
    is-zombie c.args.parent _ c.in_ok-id.process.now (sym c.zombie_status.ensures ∙ c.in-Some-zombie_status.is) in
    ap (λ (x : TracedProcess). x.parent) (sym (same_Some c.in_ok-id.process.now p (sym found ∙ there))) ∙ told.0

-- and has ended
pub returns-in-Some-zombie_status-clause-ended : goal.returns-in-Some-zombie_status-clause-ended
returns-in-Some-zombie_status-clause-ended c = λ p there.
    let found =
    under-next 0 c.in-Some.start c.args.table.now (c.in_ok-id.id, c.in_ok-id.process.now) c.ids_rise.ensures
    c.in_ok-id.ensures.next in
    let told =
    is-zombie c.args.parent _ c.in_ok-id.process.now (sym c.zombie_status.ensures ∙ c.in-Some-zombie_status.is) in
    ap (λ (x : TracedProcess). x.ended) (sym (same_Some c.in_ok-id.process.now p (sym found ∙ there))) ∙ told.1

-- none stands before this one
pub returns-in-Some-zombie_status-clause-least : goal.returns-in-Some-zombie_status-clause-least
returns-in-Some-zombie_status-clause-least c =
    none-before has_ended c.args.parent c.args.table.now c.ids_rise.ensures c.args.low c.in-Some.start c.in_ok-id.id
    c.in_ok-id.process.now
    (none-further has_ended c.args.parent c.args.table.now c.args.low c.loop-start.at c.in-Some.start
    c.loop-start.invariant.none (c.in-Some.ensures.passed has_ended c.requires)) c.in_ok-id.ensures.next

-- this one is none
pub loop-start-preserved : goal.loop-start-preserved
loop-start-preserved c =
    let on = c.in-Some.ensures.behind in
    let next = c.in_ok-id.ensures.behind in
    let was = c.loop-start.invariant.behind in record {
      behind = omega arith;
      none =
          none-with has_ended c.args.parent c.args.table.now c.ids_rise.ensures c.args.low c.in-Some.start c.in_ok-id.id
          c.in_ok-id.process.now
          (none-further has_ended c.args.parent c.args.table.now c.args.low c.loop-start.at c.in-Some.start
          c.loop-start.invariant.none (c.in-Some.ensures.passed has_ended c.requires)) c.in_ok-id.ensures.next
          (no-zombie c.args.parent c.in_ok-id.process.now
          (sym c.zombie_status.ensures ∙ c.in_default-zombie_status.is));
    }
