use Rattle.std.proofs.Common.{sym}
use Rattle.std.proofs.lemmas.Bool.{eqb-true}
use Rattle.pr_num.specs.Records.{lwpstatus_size}
use Rattle.pr_truss.proofs.StopLemmas.{seen_none, seen_more, seen_all, seen_past, left_from}
use Rattle.pr_truss.proofs.records.stops_in.Goals as goal

pub returns-in_err-lwp : goal.returns-in_err-lwp
returns-in_err-lwp c =
    seen_none c.in_ok-count.count c.loop-i.i _ c.loop-i.rest.now c.loop-i.stops _ c.loop-i.invariant c.loop-i-test.true
    (sym c.in_err-lwp.ensures.value) c.from_residual-in_err-lwp.ensures

pub loop-i-preserved : goal.loop-i-preserved
loop-i-preserved c =
    rw c.noted-stops.ensures
    (seen_more c.in_ok-count.count c.loop-i.i _ c.loop-i.rest.now _ c.loop-i.stops c.in_ok-lwp.lwp c.loop-i.invariant
    c.loop-i-test.true (sym c.in_ok-lwp.ensures.value) (left_from lwpstatus_size c.loop-i.rest.now))

pub returns-then-is_empty : goal.returns-then-is_empty
returns-then-is_empty c =
    seen_all c.in_ok-count.count c.loop-i.i _ c.loop-i.rest.now c.loop-i.stops c.loop-i.invariant c.loop-i-test.false
    (eqb-true _ 0 (sym c.if-is_empty.ensures))

pub returns-else-is_empty : goal.returns-else-is_empty
returns-else-is_empty c =
    seen_past c.in_ok-count.count c.loop-i.i _ c.loop-i.rest.now c.loop-i.stops c.loop-i.invariant c.loop-i-test.false
    (sym c.if-is_empty.ensures)
