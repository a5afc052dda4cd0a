use Rattle.std.proofs.Common.{◌∙◌, ap, arith, subst}
use Rattle.pr_drive.specs.Rounds.{FinishesRound, RoundsState}
use Rattle.pr_drive.specs.declared.sessions.Session.TheInside.{Inside}
use Rattle.pr_drive.proofs.EntryLemmas.{goes-count}
use Rattle.pr_drive.proofs.SessionLemmas.{made-more, messages-full, next-count}
use Rattle.pr_drive.proofs.StepLemmas.{finish-goes}
use Rattle.pr_drive.proofs.sessions.Session.answer_messages.Goals as goal

pub loop-at-preserved : goal.loop-at-preserved
loop-at-preserved c =
    let round = subst (λ (r : RoundsState). FinishesRound c.in_ok-until.until r c.finish_round.new.self)
    c.self-in-loop-at.view_is c.in_ok-finish_round.ensures.round in
    let goes = finish-goes c.in_ok-until.until c.answer_message.new.self c.finish_round.new.self round in
    record {
      made =
          made-more c.in_ok-made.made c.args.script c.loop-at.script c.answer_message.new.script c.args.self.now
          c.loop-at.self c.answer_message.new.self c.finish_round.new.self
          c.args.out.now.items c.loop-at.out.items c.answer_message.new.out.items c.if-not-made.false
          c.loop-at.invariant.made c.in_ok-made.ensures
          c.in_ok-until.until c.in_ok-until.ensures round;
      far =
          omega (
            arith,
            c.loop-at.invariant.far,
            goes-count c.in_ok-until.until c.answer_message.new.self.seats c.finish_round.new.self.seats goes,
            next-count c.in_ok-made.made c.loop-at.script c.answer_message.new.script c.loop-at.self
                c.answer_message.new.self c.loop-at.out.items c.answer_message.new.out.items
                c.if-not-made.false c.in_ok-made.ensures,
          );
    }

pub returns : goal.returns
returns c =
    let end = c.places-at-end.ensures ∙ ap (λ (i : Inside). i.rounds.seats.kernel.places) c.self-inside.view_is
    ∙ ap (λ (r : RoundsState). r.seats.kernel.places) c.self.view_is in
    messages-full c.in_ok-answer_message.field-0 c.args.script c.loop-at.script c.answer_message-2.new.script
    c.args.self.now c.loop-at.self c.answer_message-2.new.self
    c.args.out.now.items c.loop-at.out.items c.answer_message-2.new.out.items c.loop-at._at
    (omega (arith, end, c.loop-at-test.false)) c.loop-at.invariant.far
    c.loop-at.invariant.made c.in_ok-answer_message.ensures
