use Rattle.std.proofs.Common.{◌≡◌, ◌≢◌, ◌⊎◌, inl, inr, ℕ, Some, List, [], ◌∷◌, IfSome, IsTrue, refl, subst, sym, ap}
use Rattle.std.proofs.Common.{◌∙◌}
use Rattle.std.specs.Option.{option_and_then}
use Rattle.std.proofs.lemmas.Bool.{cases_eq}
use Rattle.std.proofs.lemmas.List.Elements.{All-cons, All-head, All-nil, All-tail}
use Rattle.std.proofs.lemmas.Option.{slice_get_within}
use Rattle.pr_model.specs.Legal.{IsLegal, IsLegalEntry, after}
use Rattle.pr_model.specs.Passive.{IsPassive, is_passive_act}
use Rattle.pr_model.specs.State.{TracedState}
use Rattle.pr_model.specs.declared.calls.Call.{Call}
use Rattle.pr_model.specs.declared.calls.Reply.{Reply}
use Rattle.pr_model.specs.declared.events.Act.{Act}
use Rattle.pr_model.specs.declared.events.Act.TheVariants as act
use Rattle.pr_model.specs.declared.events.Actor.{Actor}
use Rattle.pr_model.specs.declared.events.Actor.TheVariants.{Controller, Lwp, Clock}
use Rattle.pr_model.specs.declared.events.Entry.{Entry}
use Rattle.pr_tool_laws.proofs.Stages.ProtocolLemmas.{fed-other, fed-own}
use Rattle.pr_tool_laws.specs.OwnCalls.{AreOwnCalls, IsOwnCall}
use Rattle.pr_world.specs.Controllers.{after_reply, call_by, next_call, with_fed}
use Rattle.pr_world.specs.ControllerStates.{ControllerState}
use Rattle.pr_world.specs.Protocol.{controllers_after}
use Rattle.pr_tool_laws.proofs.AnswerLemmas.{reply-passive}
use Rattle.pr_run_laws.proofs.PassiveControllers.TracerLemmas.{core-passive, reply-tracer}
use Rattle.pr_run_laws.specs.Tracers.{IsPassiveOrTracers, IsTracerAt, OthersArePassive}
use Rattle.pr_tool_laws.specs.PassiveCalls.{IsPassiveCall}

-- Where all who are no tracers make passive calls alone, a history is passive.

tracer-passive : (controllers : List ControllerState) (k : ℕ) (c : Call) → IsTracerAt controllers k
    → call_by controllers k ≡ Some c → IsPassiveCall c
unfolding call_by
tracer-passive controllers k c tracer is =
    subst (λ next. IfSome next IsPassiveCall) (sym (ap (option_and_then next_call) tracer.at) ∙ is)
    (core-passive tracer.core tracer.traces)

-- a tracer stays one
tracer-fed : (controllers : List ControllerState) (j k : ℕ) (r : Reply) → IsTracerAt controllers k
    → IsTracerAt (with_fed j r controllers) k
tracer-fed controllers j k r tracer = of (cases_eq j k)
  where
    of : (j ≡ k) ⊎ (j ≢ k) → IsTracerAt (with_fed j r controllers) k
    of (inl same) =
        subst (λ (i : ℕ). IsTracerAt (with_fed i r controllers) k) (sym same)
        (record {
          core = after_reply tracer.core r;
          at = fed-own controllers k r tracer.core tracer.at;
          traces = reply-tracer tracer.core r tracer.traces;
        })
    of (inr apart) =
        record { core = tracer.core; at = fed-other controllers j k r apart ∙ tracer.at; traces = tracer.traces }

tracer-after : (controllers : List ControllerState) (actor : Actor) (it : Act) (k : ℕ) → IsTracerAt controllers k
    → IsTracerAt (controllers_after controllers (record { actor = actor; act = it })) k
unfolding controllers_after
tracer-after controllers (Controller j) (act.Call c r) k tracer = tracer-fed controllers j k r tracer
tracer-after controllers (Controller j) (act.Turn t) k tracer = tracer
tracer-after controllers (Controller j) (act.Tick m) k tracer = tracer
tracer-after controllers (Lwp p l) it k tracer = tracer
tracer-after controllers Clock it k tracer = tracer

-- those that are tracers at first are so now
abbrev Stay : List ControllerState → List ControllerState → Type 0
Stay first controllers = (k : ℕ) → IsTracerAt first k → IsTracerAt controllers k

entry-passive : (first controllers : List ControllerState) (n : ℕ) (s : TracedState) (actor : Actor) (it : Act)
    → Stay first controllers → IsLegalEntry n s (record { actor = actor; act = it })
    → IsOwnCall controllers (record { actor = actor; act = it })
    → IsPassiveOrTracers first (record { actor = actor; act = it }) → IsTrue (is_passive_act it)
unfolding IsLegalEntry IsOwnCall IsPassiveOrTracers
entry-passive first controllers n s (Controller k) (act.Call c r) stay legal own (inl tracer) =
    let now = stay k tracer in
    reply-passive s k c (record { state = legal.1.0; reply = r }) legal.1.1
    (tracer-passive controllers k c now (own (slice_get_within controllers k now.core now.at)))
entry-passive first controllers n s (Controller k) (act.Call c r) stay legal own (inr passive) = passive
entry-passive first controllers n s actor (act.Turn t) stay legal own others = refl
entry-passive first controllers n s actor (act.Tick moment) stay legal own others = refl
entry-passive first controllers n s (Lwp p l) (act.Call c r) stay legal own others = absurd legal
entry-passive first controllers n s Clock (act.Call c r) stay legal own others = absurd legal

history-passive : (h : List Entry) (first controllers : List ControllerState) (n : ℕ) (s : TracedState)
    → Stay first controllers → IsLegal n s h → AreOwnCalls controllers h → OthersArePassive first h → IsPassive h
history-passive [] first controllers n s stay legal own others = All-nil (λ (e : Entry). IsTrue (is_passive_act e.act))
history-passive (e ∷ h) first controllers n s stay legal own others =
    let here =
    entry-passive first controllers n s e.actor e.act stay legal.0 own.0
    (All-head (IsPassiveOrTracers first) e h others) in
    let later : Stay first (controllers_after controllers e) =
    λ k tracer. tracer-after controllers e.actor e.act k (stay k tracer) in
    let rest =
    history-passive h first (controllers_after controllers e) n (after s e) later legal.1 own.1
    (All-tail (IsPassiveOrTracers first) e h others) in
    All-cons (λ (x : Entry). IsTrue (is_passive_act x.act)) e h here rest

pub own-passive : (controllers : List ControllerState) (n : ℕ) (s : TracedState) (h : List Entry) → IsLegal n s h
    → AreOwnCalls controllers h → OthersArePassive controllers h → IsPassive h
own-passive controllers n s h legal own others =
    history-passive h controllers controllers n s (λ k tracer. tracer) legal own others
