use Rattle.std.proofs.Common.{◌≡◌, ℕ, Bool, true, false, List, [], ◌∷◌, ◌++◌, refl, sym, ◌∙◌, ap}
use Rattle.std.proofs.lemmas.List.{append_assoc, append-nil}
use Rattle.std.proofs.lemmas.List.Concat.{flat_map-append}
use Rattle.pr_model.specs.Legal.{IsLegal, IsLegalEntry, after, state_after}
use Rattle.pr_model.specs.State.{TracedState}
use Rattle.std.specs.List.{flat_map}
use Rattle.pr_num.specs.declared.faults.Flt.{Flt}
use Rattle.pr_num.specs.declared.faults.Flt.TheVariants.{Ill, Bpt, Trace, Watch, Access, Bounds, Stack, Izdiv}
use Rattle.pr_model.specs.UntracedMachine.{traced_step}
use Rattle.pr_model.specs.UntracedSteps.{Memory, nothing_yet, remembered, remembered_all, steps_of, steps_from, steps_of_fault, steps_of_turn, steps_of_call, trace_of, trace_of_turn, untraced_steps, untraced_trace}
use Rattle.pr_model.specs.declared.events.Entry.{Entry}
use Rattle.pr_model.specs.declared.calls.Call as calls
use Rattle.pr_model.specs.declared.calls.Call.TheVariants as call
use Rattle.pr_model.specs.declared.calls.Reply.{Reply}
use Rattle.pr_model.specs.declared.calls.Reply.TheVariants as reply
use Rattle.pr_model.specs.declared.events.Act.{Act}
use Rattle.pr_model.specs.declared.events.Act.TheVariants as act
use Rattle.pr_model.specs.declared.events.Actor.{Actor}
use Rattle.pr_model.specs.declared.events.Actor.TheVariants.{Controller, Lwp, Clock}
use Rattle.pr_model.specs.declared.events.Did.{Did}
use Rattle.pr_model.specs.declared.events.Did.TheVariants.{Stopped, Ran, Entered, Made, Slept, Woke, Returned, Faulted, Posted, Took, Acted}
use Rattle.pr_model.specs.declared.steps.Step.{Step}
use Rattle.pr_model.specs.declared.steps.Step.TheVariants.{Fault}

-- Histories grow at their end.
pub state_after-push : (s : TracedState) (h : List Entry) (e : Entry)
    → state_after s (h ++ e ∷ []) ≡ after (state_after s h) e
state_after-push s [] e = refl
state_after-push s (x ∷ h) e = state_after-push (after s x) h e

pub IsLegal-push : (n : ℕ) (s : TracedState) (h : List Entry) (e : Entry) → IsLegal n s h
    → IsLegalEntry n (state_after s h) e → IsLegal n s (h ++ e ∷ [])
IsLegal-push n s [] e legal here = (here, tt)
IsLegal-push n s (x ∷ h) e legal here = (legal.0, IsLegal-push n (after s x) h e legal.1 here)

pub IsLegal-front : (n : ℕ) (s : TracedState) (h : List Entry) (e : Entry) → IsLegal n s (h ++ e ∷ []) → IsLegal n s h
IsLegal-front n s [] e legal = tt
IsLegal-front n s (x ∷ h) e legal = (legal.0, IsLegal-front n (after s x) h e legal.1)

pub IsLegal-last : (n : ℕ) (s : TracedState) (h : List Entry) (e : Entry) → IsLegal n s (h ++ e ∷ [])
    → IsLegalEntry n (state_after s h) e
IsLegal-last n s [] e legal = legal.0
IsLegal-last n s (x ∷ h) e legal = IsLegal-last n (after s x) h e legal.1

steps_from-push : (m : Memory) (h : List Entry) (e : Entry)
    → steps_from m (h ++ e ∷ []) ≡ steps_from m h ++ steps_of (remembered_all m h) e
steps_from-push m [] e = append-nil (steps_of m e)
steps_from-push m (x ∷ h) e =
    ap (λ (steps : List Step). steps_of m x ++ steps) (steps_from-push (remembered m x) h e)
    ∙ sym (append_assoc (steps_of m x) (steps_from (remembered m x) h) (steps_of (remembered_all (remembered m x) h) e))

pub untraced_steps-push : (h : List Entry) (e : Entry)
    → untraced_steps (h ++ e ∷ []) ≡ untraced_steps h ++ steps_of (remembered_all nothing_yet h) e
unfolding untraced_steps
untraced_steps-push h e = steps_from-push nothing_yet h e

pub ruleset one_longer = (state_after-push, IsLegal-push, IsLegal-front, IsLegal-last, untraced_steps-push)

-- The trace of a turn is that of its steps.
fault-trace : (returning : Bool) (p l : ℕ) (f : Flt)
    → flat_map traced_step (steps_of_fault returning p l f) ≡ Fault p l f ∷ []
fault-trace true p l Trace = refl
fault-trace false p l Trace = refl
fault-trace returning p l Ill = refl
fault-trace returning p l Bpt = refl
fault-trace returning p l Watch = refl
fault-trace returning p l Access = refl
fault-trace returning p l Bounds = refl
fault-trace returning p l Stack = refl
fault-trace returning p l Izdiv = refl

turn-trace : (returning : Bool) (p l : ℕ) (did : Did)
    → flat_map traced_step (steps_of_turn returning p l did) ≡ trace_of_turn p l did
turn-trace returning p l Stopped = refl
turn-trace returning p l Ran = refl
turn-trace returning p l (Entered c) = refl
turn-trace returning p l (Made c r) = refl
turn-trace returning p l (Slept c) = refl
turn-trace returning p l (Woke c r) = refl
turn-trace returning p l (Returned c) = refl
turn-trace returning p l (Faulted f) = fault-trace returning p l f
turn-trace returning p l (Posted f) = refl
turn-trace returning p l (Took s) = refl
turn-trace returning p l (Acted s how) = refl

call-trace : (c : calls.Call) (r : Reply) → flat_map traced_step (steps_of_call c r) ≡ []
call-trace (call.Spawn program held) (reply.Pid pid) = refl
call-trace (call.Kill pid sig) reply.Done = refl
call-trace _ _ = refl

entry-trace : (m : Memory) (actor : Actor) (it : Act)
    → flat_map traced_step (steps_of m (record { actor = actor; act = it }))
    ≡ trace_of (record { actor = actor; act = it })
unfolding steps_of trace_of
entry-trace m (Controller k) (act.Call c r) = call-trace c r
entry-trace m (Lwp p l) (act.Turn t) = turn-trace (m.returning p l) p l t.did
entry-trace m Clock (act.Tick n) = refl
entry-trace m _ _ = refl

steps-trace : (m : Memory) (h : List Entry) → flat_map traced_step (steps_from m h) ≡ flat_map trace_of h
steps-trace m [] = refl
steps-trace m (e ∷ es) =
    flat_map-append traced_step (steps_of m e) (steps_from (remembered m e) es)
    ∙ ap (λ (steps : List Step). steps ++ flat_map traced_step (steps_from (remembered m e) es))
    (entry-trace m e.actor e.act)
    ∙ ap (λ (steps : List Step). trace_of e ++ steps) (steps-trace (remembered m e) es)

pub untraced_trace-steps : (h : List Entry) → untraced_trace h ≡ flat_map traced_step (untraced_steps h)
unfolding untraced_trace untraced_steps
untraced_trace-steps h = sym (steps-trace nothing_yet h)

pub ruleset traces = (untraced_trace-steps)
