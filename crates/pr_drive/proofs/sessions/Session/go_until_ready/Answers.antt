use Rattle.std.proofs.Common.{◌∙◌, ap, arith}
use Rattle.std.specs.List.{list_any}
use Rattle.pr_model.specs.declared.calls.Call.{Call}
use Rattle.pr_drive.specs.Exchanges.{is_answered_now, polls_of}
use Rattle.pr_drive.specs.Rounds.{RoundsState}
use Rattle.pr_drive.specs.declared.sessions.Session.TheInside.{Inside}
use Rattle.pr_drive.proofs.SessionLemmas.{on-false, on-true, unready-more, unready-places, until-full, until-ready}
use Rattle.pr_drive.proofs.SessionLemmas.{until-rest}
use Rattle.pr_drive.proofs.StepLemmas.{on-count}
use Rattle.pr_drive.proofs.sessions.Session.go_until_ready.Goals as goal

pub returns-then-ready : goal.returns-then-ready
returns-then-ready c =
    let all = c.in_ok-polls.ensures ∙ ap (λ (i : Inside). polls_of i.rounds.seats) c.self-inside.view_is
    ∙ ap (λ (r : RoundsState). polls_of r.seats) c.self.view_is in
    let is = c.some_answered-ready.ensures
    ∙ ap (λ (i : Inside). list_any (λ (call : Call). is_answered_now call i.rounds.seats) c.deref.result.now)
    c.self-inside-in-loop-at.view_is
    ∙ ap (list_any (λ (call : Call). is_answered_now call c.loop-at.self-inside.rounds.seats)) c.deref.ensures.value in
    until-ready c.in_ok-polls.polls.items c.some_answered-ready.result c.args.self.now c.loop-at.self-inside.rounds all
    is c.if-ready.true c.loop-at.invariant.gone

pub returns-then-not-moved : goal.returns-then-not-moved
returns-then-not-moved c =
    let all = c.in_ok-polls.ensures ∙ ap (λ (i : Inside). polls_of i.rounds.seats) c.self-inside.view_is
    ∙ ap (λ (r : RoundsState). polls_of r.seats) c.self.view_is in
    let is = c.some_answered-ready.ensures
    ∙ ap (λ (i : Inside). list_any (λ (call : Call). is_answered_now call i.rounds.seats) c.deref.result.now)
    c.self-inside-in-loop-at.view_is
    ∙ ap (list_any (λ (call : Call). is_answered_now call c.loop-at.self-inside.rounds.seats)) c.deref.ensures.value in
    let rest = on-false c.in_ok-moved.moved c.loop-at.self-inside.rounds c.step_on.new.self c.if-not-moved.true
    c.in_ok-moved.ensures in
    until-rest c.in_ok-polls.polls.items c.some_answered-ready.result c.args.self.now c.loop-at.self-inside.rounds
    c.step_on.new.self all is c.if-ready.false c.loop-at.invariant.gone rest

pub loop-at-preserved : goal.loop-at-preserved
loop-at-preserved c =
    let all = c.in_ok-polls.ensures ∙ ap (λ (i : Inside). polls_of i.rounds.seats) c.self-inside.view_is
    ∙ ap (λ (r : RoundsState). polls_of r.seats) c.self.view_is in
    let is = c.some_answered-ready.ensures
    ∙ ap (λ (i : Inside). list_any (λ (call : Call). is_answered_now call i.rounds.seats) c.deref.result.now)
    c.self-inside-in-loop-at.view_is
    ∙ ap (list_any (λ (call : Call). is_answered_now call c.loop-at.self-inside.rounds.seats)) c.deref.ensures.value in
    let on = on-true c.in_ok-moved.moved c.loop-at.self-inside.rounds c.step_on.new.self c.if-not-moved.false
    c.in_ok-moved.ensures in
    record {
      gone = unready-more c.in_ok-polls.polls.items c.some_answered-ready.result c.args.self.now
          c.loop-at.self-inside.rounds c.step_on.new.self all is c.if-ready.false c.loop-at.invariant.gone on;
      far = omega (arith, c.loop-at.invariant.far, on-count c.loop-at.self-inside.rounds c.step_on.new.self on);
    }

pub returns : goal.returns
returns c =
    let end = c.places-at-end.ensures ∙ ap (λ (i : Inside). i.rounds.seats.kernel.places) c.self-inside.view_is
    ∙ ap (λ (r : RoundsState). r.seats.kernel.places) c.self.view_is in
    let places = unready-places c.args.self.now c.loop-at.self-inside.rounds c.loop-at.invariant.gone in
    until-full c.args.self.now c.loop-at.self-inside.rounds c.loop-at.invariant.gone
    (omega (arith, places, end, c.loop-at-test.false, c.loop-at.invariant.far))
