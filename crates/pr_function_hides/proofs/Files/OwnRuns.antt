use Rattle.std.proofs.Common.{◌≡◌, ◌<◌, ◌==◌, ℕ, Bool, true, false, cond, Some, None, List, [], ◌∷◌, length, refl, sym, subst, ap, ◌∙◌}
use Rattle.std.proofs.lemmas.Bool.{eqb-false, eqb-true}
use Rattle.std.proofs.lemmas.Option.{slice_get_within}
use Rattle.std.specs.List.{cons_option, slice_get}
use Rattle.std.specs.Option.{option_and_then}
use Rattle.pr_model.specs.declared.calls.Call.{Call}
use Rattle.pr_model.specs.declared.calls.Reply.{Reply}
use Rattle.pr_model.specs.declared.events.Act.{Act}
use Rattle.pr_model.specs.declared.events.Act.TheVariants as act
use Rattle.pr_model.specs.declared.events.Actor.{Actor}
use Rattle.pr_model.specs.declared.events.Actor.TheVariants.{Clock, Controller, Lwp}
use Rattle.pr_model.specs.declared.events.Entry.{Entry}
use Rattle.pr_report_laws.proofs.Files.WatchHistories.{cons-exchanges, no-exchanges}
use Rattle.pr_tool_laws.proofs.Stages.ProtocolLemmas.{fed-other, fed-own}
use Rattle.pr_tool_laws.specs.OwnCalls.{AreOwnCalls, IsOwnCall}
use Rattle.pr_truss.specs.FunctionCalls.{next_function_call_of}
use Rattle.pr_truss.specs.FunctionFeeding.{fed_functions}
use Rattle.pr_truss.specs.Trusses.{TrussState}
use Rattle.pr_truss_laws.specs.Exchanges.{Exchange, exchange_in, exchanges}
use Rattle.pr_world.specs.ControllerStates.{ControllerState, FnTruss}
use Rattle.pr_world.specs.Controllers.{after_reply, call_by, next_call, with_fed}
use Rattle.pr_world.specs.Protocol.{controllers_after, controllers_at}
use Rattle.pr_function_laws.specs.Runs.{MakesFunctionCalls, functions_after}

-- Among controllers that make their own calls a truss with functions makes those that its sequence gives.

function-next : (controllers : List ControllerState) (k : ℕ) (t : TrussState) (c : Call)
    → slice_get controllers k ≡ Some (FnTruss t) → call_by controllers k ≡ Some c → next_function_call_of t ≡ Some c
unfolding call_by next_call
function-next controllers k t c at calls = sym (ap (option_and_then next_call) at) ∙ calls

function-fed : (controllers : List ControllerState) (k : ℕ) (t : TrussState) (r : Reply)
    → slice_get controllers k ≡ Some (FnTruss t)
    → slice_get (with_fed k r controllers) k ≡ Some (FnTruss (fed_functions t r))
unfolding after_reply
function-fed controllers k t r at = fed-own controllers k r (FnTruss t) at

-- ---- an entry

-- the truss and its exchanges, once the rest of the history was made by these controllers
abbrev Stays : List ControllerState → List Entry → ℕ → TrussState → List Exchange → Type 0
Stays controllers h k t xs =
    MakesFunctionCalls t xs × (slice_get (controllers_at controllers h) k ≡ Some (FnTruss (functions_after t xs)))

abbrev Rest : List ControllerState → List Entry → ℕ → List Exchange → Type 0
Rest controllers h k xs = (u : TrussState) → slice_get controllers k ≡ Some (FnTruss u) → Stays controllers h k u xs

call-stays : (controllers : List ControllerState) (h : List Entry) (k by : ℕ) (t : TrussState) (c : Call) (r : Reply)
    (xs : List Exchange) (b : Bool) → (by == k) ≡ b → slice_get controllers k ≡ Some (FnTruss t)
    → (by < length controllers → call_by controllers by ≡ Some c) → Rest (with_fed by r controllers) h k xs
    → Stays (with_fed by r controllers) h k t (cons_option (cond b (Some (record { call = c; reply = r })) None) xs)
call-stays controllers h k by t c r xs true is at own rest =
    let same = eqb-true by k is in
    let calls : call_by controllers by ≡ Some c =
    own (subst (λ n. n < length controllers) (sym same) (slice_get_within controllers k (FnTruss t) at)) in
    let next = function-next controllers k t c at (subst (λ n. call_by controllers n ≡ Some c) same calls) in
    let here =
    subst (λ n. slice_get (with_fed n r controllers) k ≡ Some (FnTruss (fed_functions t r))) (sym same)
    (function-fed controllers k t r at) in
    let it = rest (fed_functions t r) here in
    ((next, it.0), it.1)
call-stays controllers h k by t c r xs false is at own rest =
    rest t (fed-other controllers by k r (eqb-false by k is) ∙ at)

entry-stays : (controllers : List ControllerState) (h : List Entry) (k : ℕ) (t : TrussState)
    (actor : Actor) (it : Act) (xs : List Exchange) → slice_get controllers k ≡ Some (FnTruss t)
    → IsOwnCall controllers (record { actor = actor; act = it })
    → Rest (controllers_after controllers (record { actor = actor; act = it })) h k xs
    → Stays (controllers_after controllers (record { actor = actor; act = it })) h k t
    (cons_option (exchange_in k actor it) xs)
unfolding IsOwnCall controllers_after
entry-stays controllers h k t (Controller by) (act.Call c r) xs at own rest =
    call-stays controllers h k by t c r xs (by == k) refl at own rest
entry-stays controllers h k t (Controller by) (act.Turn did) xs at own rest = rest t at
entry-stays controllers h k t (Controller by) (act.Tick moment) xs at own rest = rest t at
entry-stays controllers h k t (Lwp p l) it xs at own rest = rest t at
entry-stays controllers h k t Clock it xs at own rest = rest t at

-- ---- a history

-- what it made of its replies is where it has come
pub function-stays : (h : List Entry) (controllers : List ControllerState) (k : ℕ) (t : TrussState)
    → slice_get controllers k ≡ Some (FnTruss t) → AreOwnCalls controllers h
    → Stays controllers h k t (exchanges k h)
function-stays [] controllers k t at own = subst (Stays controllers [] k t) (sym (no-exchanges k)) (tt, at)
function-stays (e ∷ h) controllers k t at own =
    let rest : Rest (controllers_after controllers e) h k (exchanges k h) =
    λ u here. function-stays h (controllers_after controllers e) k u here own.1 in
    subst (Stays controllers (e ∷ h) k t) (sym (cons-exchanges k e h))
    (entry-stays controllers h k t e.actor e.act (exchanges k h) at own.0 rest)
