use Rattle.std.proofs.Common.{◌≡◌, ◌∙◌, ◌+◌, ◌++◌, ◌||◌, ◌<◌, Bool, List, true, All, sym, ap, subst, length, take, drop, arith}
use Rattle.std.specs.List.{list_any}
use Rattle.std.proofs.Math.Bool.{or-true}
use Rattle.pr_lock.specs.Seats.{IsOutside, own_of, saw_over, shares_of}
use Rattle.pr_run.specs.ManyRuns.{IsMadeBy, first_world}
use Rattle.pr_run.specs.declared.duties.Duty.{Duty}
use Rattle.pr_run.specs.declared.shared_worlds.SharedWorld.{SharedWorld}
use Rattle.pr_run.specs.declared.shared_worlds.LoggedEntry.{LoggedEntry}
use Rattle.pr_run.proofs.ManyLemmas.{all-made, all-out, all-over, taken-in, written-back}
use Rattle.pr_world.proofs.RunLemmas.{came-first}
use Rattle.pr_world.specs.Worlds.{WorldOf, WorldState, seen}
use Rattle.pr_run.proofs.many.run_many.Goals as goal

pub new-requires-clause-source : goal.new-requires-clause-source
new-requires-clause-source g c κs within = came-first (seen g.Q.Kernel.view c.args.world)

pub gather-requires-clause-duties : goal.gather-requires-clause-duties
gather-requires-clause-duties g c κs within =
    let back =
    written-back c.work.new.duties c.in_ok-duties.duties.items c.in_ok-duties.duties.len
    (omega (arith, c.work.auto.duties, ap length c.deref_mut.ensures.value))
    (omega (arith, c.in_ok-duties.duties.ok)) in
    subst (All (λ (duty : Duty _ LoggedEntry). IsOutside duty.seat c.in_ok-lock.lock × (shares_of duty.seat ≡ 1)))
    (sym back)
    (all-out
    (first_world g.Q.Kernel.view c.in_ok-lock.lock) c.args.workers c.in_ok-lock.lock c.work.new.duties
    c.work.ensures.duties)

-- A worker of the processor has left, and so all is over.
pub ended-requires : goal.ended-requires
ended-requires g c =
    let lock = c.in_ok-lock.lock in
    let duties = c.work.new.duties in
    let items = c.in_ok-duties.duties in
    let many : length duties ≡ length items.items =
    omega (arith, c.work.auto.duties, ap length c.deref_mut.ensures.value) in
    let back = written-back duties items.items items.len many (omega (arith, items.ok)) in
    let some : 0 < length duties = omega (arith, many, items.ok, c.in_ok-duties.ensures.duties.1, c.requires.some) in
    let one : 0 < c.args.workers = omega (arith, c.requires.some) in
    let over = all-over (first_world g.Q.Kernel.view lock) c.args.workers lock duties c.work.ensures.duties one some in
    let any = ap (λ (l : List (Duty _ LoggedEntry)). list_any (λ duty. saw_over duty.seat) l) back ∙ over in
    c.close.ensures.stays
    (c.gather.ensures.over
    ∙ (ap (λ (b : Bool). saw_over c.duties_of.new.seat || b) any ∙ or-true (saw_over c.duties_of.new.seat)))

pub returns-clause-made : goal.returns-clause-made
returns-clause-made g c =
    let view = g.Q.Kernel.view in
    let lock = c.in_ok-lock.lock in
    let workers = c.args.workers in
    let first = first_world view lock in
    let begun : first ≡ seen view c.args.world =
    ap (λ (v : SharedWorld _). seen view v.world) c.in_ok-lock.ensures.lock.1 in
    let duties = c.work.new.duties in
    let items = c.in_ok-duties.duties in
    let count : length duties ≡ workers + length first.controllers =
    omega (
      arith,
      c.work.auto.duties,
      ap length c.deref_mut.ensures.value,
      items.ok,
      c.in_ok-duties.ensures.duties.1,
      c.controllers.ensures.value,
      ap (λ (w : WorldState). length w.controllers) begun,
    ) in
    let back =
    written-back duties items.items items.len
    (omega (arith, c.work.auto.duties, ap length c.deref_mut.ensures.value)) (omega (arith, items.ok)) in
    let own =
    taken-in first workers lock c.duties_of.new.seat c.gather.new.seat
    (take items.len (duties ++ drop (length duties) items.items)) duties c.gather.ensures.own
    c.in_ok-duties.ensures.seat.none back in
    let made =
    all-made first workers lock duties (view c.close.result.world.kernel).history
    (own_of c.gather.new.seat) c.work.ensures.duties count own c.close.ensures.all in
    subst (λ (w : WorldOf _). IsMadeBy (seen view c.args.world) workers (view w.kernel).history)
    (sym c.ended.ensures.world)
    (subst (λ (w : WorldState). IsMadeBy w workers (view c.close.result.world.kernel).history) begun made)
