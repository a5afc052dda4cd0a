use Rattle.std.proofs.Common.{◌∙◌, ap, arith, sym}
use Rattle.pr_drive.specs.Exchanges.{is_answered_now}
use Rattle.pr_drive.specs.Rounds.{RoundsState}
use Rattle.pr_drive.specs.declared.sessions.Session.TheInside.{Inside}
use Rattle.pr_drive.proofs.SessionLemmas.{waited-full, waited-more, waited-never, waited-places, waited-ready}
use Rattle.pr_drive.proofs.StepLemmas.{round-count}
use Rattle.pr_drive.proofs.sessions.Session.wait_for.Goals as goal

pub loop-at-preserved : goal.loop-at-preserved
loop-at-preserved c =
    let round = c.in_ok-moved.ensures.round c.if-not-moved.false in
    record {
      waited =
          waited-more c.wait_end_of-until.result c.args.call.now c.args.self.now c.loop-at.self-inside.rounds
          c.go_round.new.self c.wait_end_of-until.ensures
          c.loop-at.invariant.waited (sym (c.is_answered.ensures
          ∙ ap (λ (i : Inside). is_answered_now c.args.call.now i.rounds.seats) c.self-inside-in-loop-at.view_is)
          ∙ c.if-is_answered.false) round;
      far = omega (
        arith,
        c.loop-at.invariant.far,
        round-count c.wait_end_of-until.result c.loop-at.self-inside.rounds
            c.go_round.new.self round,
      );
    }

pub returns-then-is_answered : goal.returns-then-is_answered
returns-then-is_answered c =
    waited-ready c.args.call.now c.args.self.now c.loop-at.self-inside.rounds c.loop-at.invariant.waited
    (sym (c.is_answered.ensures
    ∙ ap (λ (i : Inside). is_answered_now c.args.call.now i.rounds.seats) c.self-inside-in-loop-at.view_is)
    ∙ c.if-is_answered.true)

pub returns-then-not-moved : goal.returns-then-not-moved
returns-then-not-moved c =
    waited-never c.wait_end_of-until.result c.args.call.now c.args.self.now c.loop-at.self-inside.rounds
    c.go_round.new.self c.wait_end_of-until.ensures
    c.loop-at.invariant.waited (sym (c.is_answered.ensures
    ∙ ap (λ (i : Inside). is_answered_now c.args.call.now i.rounds.seats) c.self-inside-in-loop-at.view_is)
    ∙ c.if-is_answered.false)
    (c.in_ok-moved.ensures.rests c.if-not-moved.true)

pub returns : goal.returns
returns c =
    let end = c.places-at-end.ensures ∙ ap (λ (i : Inside). i.rounds.seats.kernel.places) c.self-inside.view_is
    ∙ ap (λ (r : RoundsState). r.seats.kernel.places) c.self.view_is in
    let places = waited-places c.args.call.now c.args.self.now c.loop-at.self-inside.rounds c.loop-at.invariant.waited
    in
    waited-full c.args.call.now c.args.self.now c.loop-at.self-inside.rounds c.loop-at.invariant.waited
    (omega (arith, places, end, c.loop-at-test.false, c.loop-at.invariant.far))
