use Rattle.std.proofs.lemmas.Result.{IfOk-weaker}
use Rattle.pr_drive.proofs.RoundLemmas.{rested, rests-on, stepped, steps-on}
use Rattle.pr_drive.proofs.rounds.Rounds.step_on.Goals as goal

pub returns : goal.returns
returns c =
    IfOk-weaker c.step-2.result _ _
    (λ moved steps.
    rests-on c.args.until moved c.args.self.now c.step.new.self c.step-2.new.self
    (rested c.args.until c.in_ok-moved.moved c.args.self.now c.step.new.self c.if-moved.false c.in_ok-moved.ensures)
    steps)
    c.step-2.ensures

pub returns-then-moved : goal.returns-then-moved
returns-then-moved c =
    steps-on c.args.until c.args.self.now c.step.new.self
    (stepped c.args.until c.in_ok-moved.moved c.args.self.now c.step.new.self c.if-moved.true c.in_ok-moved.ensures)
