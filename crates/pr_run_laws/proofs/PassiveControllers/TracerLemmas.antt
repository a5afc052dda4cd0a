use Rattle.std.proofs.Common.{◌≡◌, ℕ, Option, Some, None, List, [], ◌∷◌, IfSome, IsTrue, slice_get, refl, subst}
use Rattle.std.specs.List.{All}
use Rattle.std.specs.Option.{option_and_then}
use Rattle.std.proofs.lemmas.List.Elements.{All-cons, All-nil, All-set}
use Rattle.pr_num.proofs.SearchLemmas.{All-at}
use Rattle.pr_model.specs.Legal.{IsLegal, IsLegalEntry, after}
use Rattle.pr_model.specs.Passive.{IsPassive, is_passive_act}
use Rattle.pr_model.specs.State.{TracedState}
use Rattle.pr_model.specs.declared.calls.Call.{Call}
use Rattle.pr_model.specs.declared.calls.Reply.{Reply}
use Rattle.pr_model.specs.declared.events.Act.{Act}
use Rattle.pr_model.specs.declared.events.Act.TheVariants as act
use Rattle.pr_model.specs.declared.events.Actor.{Actor}
use Rattle.pr_model.specs.declared.events.Actor.TheVariants.{Controller, Lwp, Clock}
use Rattle.pr_model.specs.declared.events.Entry.{Entry}
use Rattle.pr_world.specs.Controllers.{after_reply, call_by, feed_at, next_call, with_fed}
use Rattle.pr_world.specs.ControllerStates.{ControllerState, Script, Truss, FnTruss, Tool, Gcore, Probe}
use Rattle.pr_world.specs.Protocol.{Follows, FollowsAt, controllers_after}
use Rattle.pr_tool_laws.proofs.AnswerLemmas.{reply-passive}
use Rattle.pr_run_laws.proofs.PassiveControllers.PassiveLemmas.{gcore-passive, tool-passive, truss-passive}
use Rattle.pr_run_laws.specs.Tracers.{IsTracer}
use Rattle.pr_tool_laws.specs.PassiveCalls.{IsPassiveCall}

-- Where no controller is a script, asks by an agent or shows calls of functions, a history is passive.

pub core-passive : (c : ControllerState) → IsTracer c → IfSome (next_call c) IsPassiveCall
unfolding next_call IsTracer
core-passive (Script s) tracer = absurd tracer
core-passive (Truss t) tracer = truss-passive t
core-passive (FnTruss t) tracer = absurd tracer
core-passive (Tool t) tracer = tool-passive t
core-passive (Gcore g) tracer = gcore-passive g
core-passive (Probe p) tracer = absurd tracer

-- a tracer stays one
pub reply-tracer : (c : ControllerState) (r : Reply) → IsTracer c → IsTracer (after_reply c r)
unfolding after_reply IsTracer
reply-tracer (Script s) r tracer = tracer
reply-tracer (FnTruss t) r tracer = tracer
reply-tracer (Probe p) r tracer = tracer
reply-tracer _ r tracer = tt

-- the call of a controller
call-passive : (controllers : List ControllerState) (k : ℕ) (c : Call) → All IsTracer controllers
    → call_by controllers k ≡ Some c → IsPassiveCall c
unfolding call_by
call-passive controllers k c all is = of (slice_get controllers k) refl is
  where
    of : (o : Option ControllerState) → slice_get controllers k ≡ o → option_and_then next_call o ≡ Some c
        → IsPassiveCall c
    of None found is = absurd (cc)
    of (Some core) found is =
        subst (λ next. IfSome next IsPassiveCall) is (core-passive core (All-at IsTracer controllers k core found all))

-- each entry
entry-passive : (controllers : List ControllerState) (n : ℕ) (s : TracedState) (actor : Actor) (it : Act)
    → All IsTracer controllers → IsLegalEntry n s (record { actor = actor; act = it })
    → FollowsAt controllers s (record { actor = actor; act = it }) → IsTrue (is_passive_act it)
unfolding IsLegalEntry FollowsAt
entry-passive controllers n s (Controller k) (act.Call c r) all legal follows =
    reply-passive s k c (record { state = legal.1.0; reply = r }) legal.1.1 (call-passive controllers k c all follows)
entry-passive controllers n s actor (act.Turn t) all legal follows = refl
entry-passive controllers n s actor (act.Tick moment) all legal follows = refl
entry-passive controllers n s (Lwp p l) (act.Call c r) all legal follows = absurd legal
entry-passive controllers n s Clock (act.Call c r) all legal follows = absurd legal

-- the controllers after it are tracers too
fed-tracers : (controllers : List ControllerState) (k : ℕ) (r : Reply) → All IsTracer controllers
    → All IsTracer (with_fed k r controllers)
unfolding with_fed
fed-tracers controllers k r all = of (slice_get controllers k) refl
  where
    of : (o : Option ControllerState) → slice_get controllers k ≡ o → All IsTracer (feed_at k r controllers o)
    of None found = all
    of (Some c) found =
        All-set IsTracer controllers k (after_reply c r)
        (reply-tracer c r (All-at IsTracer controllers k c found all)) all

after-tracers : (controllers : List ControllerState) (actor : Actor) (it : Act) → All IsTracer controllers
    → All IsTracer (controllers_after controllers (record { actor = actor; act = it }))
unfolding controllers_after
after-tracers controllers (Controller k) (act.Call c r) all = fed-tracers controllers k r all
after-tracers controllers (Controller k) (act.Turn t) all = all
after-tracers controllers (Controller k) (act.Tick moment) all = all
after-tracers controllers (Lwp p l) it all = all
after-tracers controllers Clock it all = all

pub tracers-passive : (controllers : List ControllerState) (n : ℕ) (s : TracedState) (h : List Entry)
    → All IsTracer controllers → IsLegal n s h → Follows controllers s h → IsPassive h
tracers-passive controllers n s [] all legal follows = All-nil (λ (e : Entry). IsTrue (is_passive_act e.act))
tracers-passive controllers n s (e ∷ h) all legal follows =
    let here = entry-passive controllers n s e.actor e.act all legal.0 follows.0 in
    let rest =
    tracers-passive (controllers_after controllers e) n (after s e) h
    (after-tracers controllers e.actor e.act all) legal.1 follows.1 in
    All-cons (λ (x : Entry). IsTrue (is_passive_act x.act)) e h here rest
