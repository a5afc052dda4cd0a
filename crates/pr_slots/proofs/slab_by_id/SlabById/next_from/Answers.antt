use Rattle.std.proofs.Common.{◌≡◌, ◌≤◌, Some, None, length, sym, ◌∙◌, arith}
use Rattle.pr_num.specs.ById.{IsRising, first_from}
use Rattle.pr_slots.proofs.PairLemmas.{IsRising-entries, first_seen, passed_seen, past_seen}
use Rattle.pr_slots.proofs.WalkLaws.{rest-next, rest-end}
use Rattle.pr_slots.proofs.slab_by_id.SlabById.next_from.Goals as goal

pub returns-in-Some-clause-next : goal.returns-in-Some-clause-next
returns-in-Some-clause-next g c =
    c.loop-number.invariant.1
    ∙ first_seen c.self.inside.slots c.args.self.now c.self.view_is c.loop-number.number c.in-Some.thing.now
    (sym c.in-Some.ensures)

pub returns-in-Some-clause-rest : goal.returns-in-Some-clause-rest
returns-in-Some-clause-rest g c =
    let es = c.args.self.now in
    let next : first_from c.args.low es ≡ Some (c.loop-number.number, c.in-Some.thing.now) =
    c.loop-number.invariant.1
    ∙ first_seen c.self.inside.slots es c.self.view_is c.loop-number.number c.in-Some.thing.now
    (sym c.in-Some.ensures)
    in
    let rises : IsRising es = rw (← c.self.view_is) (IsRising-entries c.self.inside.slots) in
    rest-next 0 c.args.low es (c.loop-number.number, c.in-Some.thing.now) rises next

pub loop-number-preserved : goal.loop-number-preserved
loop-number-preserved g c = (
  omega arith,
  c.loop-number.invariant.1
      ∙ passed_seen c.self.inside.slots c.args.self.now c.self.view_is c.loop-number.number
      (sym c.in_default.ensures),
)

pub returns-clause-none : goal.returns-clause-none
returns-clause-none g c =
    let past : length c.self.inside.slots ≤ c.loop-number.number = omega arith in
    c.loop-number.invariant.1 ∙ past_seen c.self.inside.slots c.args.self.now c.self.view_is c.loop-number.number past

pub returns-clause-end : goal.returns-clause-end
returns-clause-end g c =
    let es = c.args.self.now in
    let past : length c.self.inside.slots ≤ c.loop-number.number = omega arith in
    let none : first_from c.args.low es ≡ None =
    c.loop-number.invariant.1 ∙ past_seen c.self.inside.slots es c.self.view_is c.loop-number.number past in
    rest-end c.args.low es none
