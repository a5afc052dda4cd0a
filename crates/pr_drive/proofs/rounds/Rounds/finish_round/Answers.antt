use Rattle.std.proofs.Common.{◌∙◌, ap, arith}
use Rattle.pr_drive.specs.Rounds.{RoundsState}
use Rattle.pr_drive.proofs.EntryLemmas.{goes-count, goes-places}
use Rattle.pr_drive.proofs.RoundLemmas.{full-rests, stepped}
use Rattle.pr_drive.proofs.StepLemmas.{step-count, stepped-finish, stepped-goes, stepped-more}
use Rattle.pr_drive.proofs.rounds.Rounds.finish_round.Goals as goal

pub loop-at-preserved : goal.loop-at-preserved
loop-at-preserved c =
    let step = stepped c.args.until c.in_ok-stepped.stepped c.loop-at.self c.step.new.self c.if-not-stepped.false
    c.in_ok-stepped.ensures in
    let count = step-count c.args.until c.loop-at.self c.step.new.self step in
    let before = goes-count c.args.until c.args.self.now.seats c.loop-at.self.seats
    (stepped-goes c.args.until c.args.self.now c.loop-at.self c.loop-at.invariant.steps) in
    record {
      steps = stepped-more c.args.until c.args.self.now c.loop-at.self c.step.new.self c.loop-at.invariant.steps step;
      more = λ h. omega (arith, count, before);
      same = λ h. cc;
      far = omega (arith, count, c.loop-at.invariant.far);
    }

pub returns-clause-round : goal.returns-clause-round
returns-clause-round c =
    let goes = stepped-goes c.args.until c.args.self.now c.loop-at.self c.loop-at.invariant.steps in
    let places = goes-places c.args.until c.args.self.now.seats c.loop-at.self.seats goes in
    let end = c.places-at-end.ensures ∙ ap (λ (r : RoundsState). r.seats.kernel.places) c.self.view_is in
    stepped-finish c.args.until c.args.self.now c.loop-at.self c.loop-at.self c.loop-at.invariant.steps
    (full-rests c.args.until c.loop-at.self (omega (arith, places, end, c.loop-at-test.false, c.loop-at.invariant.far)))
