use Rattle.std.proofs.Common.{arith, subst}
use Rattle.pr_drive.proofs.SessionLemmas.{gone-all, gone-rest, on-false, on-true}
use Rattle.pr_drive.proofs.StepLemmas.{GoneSoFar, gone-more, gone-none}
use Rattle.pr_drive.proofs.sessions.Session.go_for.Goals as goal

pub loop-at-init : goal.loop-at-init
loop-at-init c = subst (λ s. GoneSoFar 0 s c.self.inside.rounds) c.self.view_is (gone-none c.self.inside.rounds)

pub returns-then-not-moved : goal.returns-then-not-moved
returns-then-not-moved c =
    gone-rest c.loop-at._at c.args.times c.args.self.now c.loop-at.self-inside.rounds c.step_on.new.self
    (omega (arith, c.loop-at-test.true)) c.loop-at.invariant
    (on-false c.in_ok-moved.moved _ _ c.if-not-moved.true c.in_ok-moved.ensures)

pub loop-at-preserved : goal.loop-at-preserved
loop-at-preserved c =
    gone-more c.loop-at._at c.args.self.now c.loop-at.self-inside.rounds c.step_on.new.self c.loop-at.invariant
    (on-true c.in_ok-moved.moved _ _ c.if-not-moved.false c.in_ok-moved.ensures)

pub returns : goal.returns
returns c =
    gone-all c.loop-at._at c.args.times c.args.self.now c.loop-at.self-inside.rounds
    (omega (arith, c.loop-at.auto._at-end)) (omega (arith, c.loop-at-test.false)) c.loop-at.invariant
