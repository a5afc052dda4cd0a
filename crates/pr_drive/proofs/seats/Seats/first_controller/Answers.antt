use Rattle.std.proofs.Common.{◌∙◌, ap, arith, sym}
use Rattle.std.specs.Option.{option_map}
use Rattle.pr_model.specs.declared.events.Actor.TheVariants.{Controller}
use Rattle.pr_drive.proofs.SeatLemmas.{first-left, left-end, left-here, left-on}
use Rattle.pr_drive.proofs.seats.Seats.first_controller.Goals as goal

pub returns-then-can-clause-first : goal.returns-then-can-clause-first
returns-then-can-clause-first c = λ until.
    ap (option_map Controller)
    (sym (left-here until c.args.self.now c.loop-number.number
    (omega (arith, c.outside-number-end.ensures.number, c.loop-number-test.true))
    (sym c.if-can.true ∙ c.in_ok-can.ensures until)) ∙ c.loop-number.invariant until)
    ∙ sym (first-left until c.args.self.now c.args.from)

pub loop-number-preserved : goal.loop-number-preserved
loop-number-preserved c = λ until.
    sym (left-on until c.args.self.now c.loop-number.number
    (omega (arith, c.outside-number-end.ensures.number, c.loop-number-test.true))
    (sym c.if-can.false ∙ c.in_ok-can.ensures until)) ∙ c.loop-number.invariant until

pub returns-clause-first : goal.returns-clause-first
returns-clause-first c = λ until.
    ap (option_map Controller)
    (sym (left-end until c.args.self.now c.loop-number.number
    (omega (arith, c.outside-number-end.ensures.number, c.loop-number-test.false))) ∙ c.loop-number.invariant until)
    ∙ sym (first-left until c.args.self.now c.args.from)
