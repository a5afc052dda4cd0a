use Rattle.std.proofs.Common.{◌≡◌, ◌∷◌, ◌++◌, ℕ, Bool, true, false, cond, List, [], Option, Some, None, IsSome, is_some, option_map, refl, sym, subst, ap, ◌∙◌, slice_get}
use Rattle.std.proofs.lemmas.Bool.{false≢true}
use Rattle.std.proofs.lemmas.Option.{none-some, same_Some}
use Rattle.pr_api.specs.Entries.{call_entry}
use Rattle.pr_model.specs.Calls.{Answer, answer_to}
use Rattle.pr_model.specs.Legal.{IsLegalEntry, state_after}
use Rattle.pr_model.specs.State.{TracedState}
use Rattle.pr_model.specs.declared.calls.Call.{Call}
use Rattle.pr_model.specs.declared.calls.Call.TheVariants as call
use Rattle.pr_model.specs.declared.calls.Reply.{Reply}
use Rattle.pr_model.specs.declared.calls.Reply.TheVariants as reply
use Rattle.pr_model.specs.declared.events.Act.{Act}
use Rattle.pr_model.specs.declared.events.Actor.{Actor}
use Rattle.pr_model.specs.declared.events.Entry.{Entry}
use Rattle.pr_model.specs.declared.tools.ToolKind.{ToolKind}
use Rattle.pr_model.specs.declared.tools.ToolKind.TheVariants.{Pstack}
use Rattle.pr_num.specs.Messages.{message_code, operands}
use Rattle.pr_num.specs.Words.{word_bytes}
use Rattle.pr_num.specs.declared.errnos.Errno.{Errno}
use Rattle.pr_tools.specs.Calls.{run_bytes, stop_bytes}
use Rattle.pr_tools.specs.Handles.{last_open}
use Rattle.pr_tools.specs.Replies.{bytes_read, is_passed_over, refusal_in}
use Rattle.pr_tools.specs.Steps.{after as step_after, after_in_pstack, first_step, way_out, way_out_of_pstack}
use Rattle.pr_tools.specs.Tools.{ToolState, accepted, advanced, answered, at_step, call_of, control_file, fed, first_tool, has_ended, next_call_of, refused, with_answer, with_closed, with_first, with_next, with_record, with_run_next, with_walk}
use Rattle.pr_tools.specs.declared.stacks.Walk.{Walk}
use Rattle.pr_tools.specs.declared.steps.Step.{Step}
use Rattle.pr_tools.specs.declared.steps.Step.TheVariants as step
use Rattle.pr_world.specs.ControllerStates.{ControllerState, Tool}
use Rattle.pr_world.specs.Protocol.{controllers_at}
use Rattle.pr_tool_laws.specs.Runs.{IsRunOf}
use Rattle.pr_tool_laws.proofs.Stages.KindLemmas.{fed-kind}
use Rattle.pr_tool_laws.proofs.Stages.LawLemmas.{tool-keeps}
use Rattle.pr_tool_laws.proofs.OwnFiles.NothingOpenLemmas.{refused-reply}
use Rattle.pr_tool_laws.proofs.RunningAgain.NoRunLemmas.{is_message}
use Rattle.pr_tool_laws.proofs.Sending.SentStages.{exchange, others-made, own-made}
use Rattle.pr_tool_laws.proofs.OwnFiles.StandingLemmas.{IsOther}
use Rattle.pr_tool_laws.proofs.Stages.ToolLemmas.{close-passes, ended-closes}
use Rattle.pr_tool_laws.specs.Requests.{asks_after, asks_still}
use Rattle.pr_truss_laws.specs.Exchanges.{Exchange, exchanges}

-- A pstack that was refused has taken back its request to stop.

-- ---- requests

pub asks-push : (asks : Bool) (xs : List Exchange) (x : Exchange)
    → asks_still asks (xs ++ x ∷ []) ≡ asks_after (asks_still asks xs) x.call x.reply
asks-push asks [] x = refl
asks-push asks (y ∷ ys) x = asks-push (asks_after asks y.call y.reply) ys x

-- what a message comes to
pub run-asks : (asks : Bool) (handle : ℕ) (r : Reply) → asks_after asks (call.Ctl handle run_bytes) r ≡ false
unfolding message_code operands word_bytes
run-asks asks handle r = refl

pub stop-asks : (asks : Bool) (handle : ℕ) (e : Errno)
    → asks_after asks (call.Ctl handle stop_bytes) (reply.Fail e) ≡ asks
unfolding message_code operands word_bytes
stop-asks asks handle e = refl

pub other-asks : (asks : Bool) (c : Call) (r : Reply) → is_message c ≡ false → asks_after asks c r ≡ asks
other-asks asks (call.Ctl handle bytes) r is = cc
other-asks asks _ r is = refl

-- ---- the steps

-- what is so at a step: before the request there is none; a tool that was refused takes it back, and then closes
abbrev AtStep : Bool → Bool → Step → Type 0
AtStep refused asks step.OpenCtl = (refused ≡ false) × (asks ≡ false)
AtStep refused asks step.OpenFile = (refused ≡ false) × (asks ≡ false)
AtStep refused asks step.OpenMemory = (refused ≡ false) × (asks ≡ false)
AtStep refused asks step.ReadFirst = (refused ≡ false) × (asks ≡ false)
AtStep refused asks step.Stop = (refused ≡ false) × (asks ≡ false)
AtStep refused asks step.AwaitStop = refused ≡ false
AtStep refused asks step.ReadFile = refused ≡ false
AtStep refused asks step.ReadText = refused ≡ false
AtStep refused asks step.ReadFrame = refused ≡ false
AtStep refused asks step.Run = refused ≡ false
AtStep refused asks step.Release = Unit {0}
AtStep refused asks step.Close = refused ≡ true → asks ≡ false
AtStep refused asks _ = ⊥

abbrev AtNow : Bool → ToolState → Type 0
AtNow asks t = AtStep (is_some t.refusal) asks t.step

runs-next : (asks : Bool) (u : ToolState) → is_some u.refusal ≡ false → AtNow asks (with_run_next u)
unfolding with_run_next
runs-next asks u none = by u.stood
  where
    by : (b : Bool) → AtNow asks (cond b (at_step u step.Close) (at_step u step.Run))
    by true = λ some. absurd (false≢true (sym none ∙ some))
    by false = none

walks-on : (asks : Bool) (u : ToolState) (w : Option Walk) → is_some u.refusal ≡ false → AtNow asks (with_walk u w)
unfolding with_walk
walks-on asks u None none = runs-next asks (record u { walk = None }) none
walks-on asks u (Some w) none = none

goes-on : (asks : Bool) (u : ToolState) (p : Step) → u.kind ≡ Pstack → u.step ≡ p
    → AtNow asks (with_next u (after_in_pstack p)) → AtNow asks (advanced u)
unfolding advanced step_after
goes-on asks u p is at so =
    let same : advanced u ≡ with_next u (after_in_pstack p) =
    ap (λ (q : Step). with_next u (step_after u.kind q)) at ∙ ap (λ (x : ToolKind). with_next u (step_after x p)) is in
    subst (AtNow asks) (sym same) so

release-passes : (r : Reply) → refusal_in step.Release r ≡ None
unfolding refusal_in is_passed_over
release-passes (reply.Fail e) = refl
release-passes _ = refl

module _ (t : ToolState) (kind : t.kind ≡ Pstack) (c : Call) (r : Reply) (next : next_call_of t ≡ Some c)
    (asks : Bool) where
  abbrev later : Bool
  later = asks_after asks c r

  its : (p : Step) → t.step ≡ p → call_of t p ≡ Some c
  unfolding next_call_of
  its p at = ap (call_of t) (sym at) ∙ next

  -- at a step that sends no message
  other : (p : Step) → t.step ≡ p → (d : Call) → call_of t p ≡ Some d → is_message d ≡ false → later ≡ asks
  other p at d is plain =
      other-asks asks c r
      (ap is_message (same_Some c d (sym (its p at) ∙ is)) ∙ plain)

  close-other : t.step ≡ step.Close → later ≡ asks
  unfolding call_of
  close-other at = by (last_open t.opened) (its step.Close at)
    where
      by : (x : Option ℕ) → option_map call.Close x ≡ Some c → later ≡ asks
      by None is = absurd (none-some c is)
      by (Some number) is = other-asks asks c r (ap is_message (same_Some c (call.Close number) (sym is)))

  -- at a step that sends PCRUN
  run-later : (p : Step) → t.step ≡ p → (handle : ℕ) → call_of t p ≡ Some (call.Ctl handle run_bytes) → later ≡ false
  run-later p at handle is =
      ap (λ (d : Call). asks_after asks d r) (same_Some c (call.Ctl handle run_bytes) (sym (its p at) ∙ is))
      ∙ run-asks asks handle r

  accepted-at : (p : Step) → t.step ≡ p → AtStep (is_some t.refusal) asks p → AtNow later (accepted t r p)
  unfolding accepted call_of with_next after_in_pstack with_record with_first with_answer with_closed
  accepted-at step.OpenCtl at so =
      goes-on later (record t { opened = _ }) step.OpenCtl kind at (so.0, other step.OpenCtl at _ refl refl ∙ so.1)
  accepted-at step.OpenFile at so =
      goes-on later (record t { opened = _ }) step.OpenFile kind at (so.0, other step.OpenFile at _ refl refl ∙ so.1)
  accepted-at step.OpenMemory at so =
      goes-on later (record t { opened = _ }) step.OpenMemory kind at
      (so.0, other step.OpenMemory at _ refl refl ∙ so.1)
  accepted-at step.ReadFirst at so =
      goes-on later (record t { stood = _ }) step.ReadFirst kind at (so.0, other step.ReadFirst at _ refl refl ∙ so.1)
  accepted-at step.Stop at so = goes-on later (record t { until = _ }) step.Stop kind at so.0
  accepted-at step.AwaitStop at so = goes-on later t step.AwaitStop kind at so
  accepted-at step.ReadFile at so = goes-on later (record t { bytes = _ }) step.ReadFile kind at so
  accepted-at step.ReadText at so =
      goes-on later (record t { first = _ }) step.ReadText kind at (walks-on later (record t { first = _ }) _ so)
  accepted-at step.ReadFrame at so = by t.walk
    where
      by : (w : Option Walk) → AtNow later (with_answer t (bytes_read r) w)
      by None = runs-next later t so
      by (Some w) = walks-on later _ _ so
  accepted-at step.Run at so = goes-on later t step.Run kind at (λ some. run-later step.Run at _ refl)
  accepted-at step.Release at so = goes-on later t step.Release kind at (λ some. run-later step.Release at _ refl)
  accepted-at step.Close at so =
      subst (AtStep (is_some t.refusal) later) (sym at) (λ some. close-other at ∙ so some)
  accepted-at _ at so = absurd so

  -- a refusal
  refused-at : (p : Step) → t.step ≡ p → AtStep (is_some t.refusal) asks p → (e : Errno) → refusal_in p r ≡ Some e
      → AtStep true later (way_out_of_pstack p)
  unfolding way_out_of_pstack call_of
  refused-at step.OpenCtl at so e is = λ some. other step.OpenCtl at _ refl refl ∙ so.1
  refused-at step.OpenFile at so e is = λ some. other step.OpenFile at _ refl refl ∙ so.1
  refused-at step.OpenMemory at so e is = λ some. other step.OpenMemory at _ refl refl ∙ so.1
  refused-at step.ReadFirst at so e is = λ some. other step.ReadFirst at _ refl refl ∙ so.1
  refused-at step.Stop at so e is = λ some.
      ap (λ (d : Call). asks_after asks d r) (same_Some c _ (sym (its step.Stop at)))
      ∙ ap (asks_after asks (call.Ctl (control_file t) stop_bytes)) (refused-reply step.Stop r e is)
      ∙ stop-asks asks (control_file t) e ∙ so.1
  refused-at step.AwaitStop at so e is = tt
  refused-at step.ReadFile at so e is = tt
  refused-at step.ReadText at so e is = tt
  refused-at step.ReadFrame at so e is = tt
  refused-at step.Run at so e is = tt
  refused-at step.Release at so e is = absurd (none-some e (sym (release-passes r) ∙ is))
  refused-at step.Close at so e is = absurd (none-some e (sym (close-passes r) ∙ is))
  refused-at _ at so e is = absurd so

  fed-at : AtNow asks t → AtNow later (fed t r)
  unfolding fed refused way_out
  fed-at so = by (refusal_in t.step r) refl
    where
      by : (x : Option Errno) → refusal_in t.step r ≡ x → AtNow later (answered t r x)
      by None is = accepted-at t.step refl so
      by (Some e) is =
          subst (λ (k : ToolKind). AtStep true later (way_out k t.step)) (sym kind) (refused-at t.step refl so e is)

-- ---- along a history

module _ (n k pid : ℕ) (first : TracedState) where
  abbrev asks_in : List Entry → Bool
  asks_in h = asks_still false (exchanges k h)

  abbrev IsAskedIn : List Entry → ToolState → Type 0
  IsAskedIn h t = (t.kind ≡ Pstack) × AtNow (asks_in h) t

  others-kept : (h : List Entry) (t : ToolState) (actor : Actor) (it : Act)
      → IsLegalEntry n (state_after first h) (record { actor = actor; act = it }) → IsOther k actor it
      → IsAskedIn h t → IsAskedIn (h ++ (record { actor = actor; act = it }) ∷ []) t
  others-kept h t actor it legal other kept = (
    kept.0,
    subst (λ (xs : List Exchange). AtNow (asks_still false xs) t)
        (sym (others-made k h actor it (exchanges k h) other refl)) kept.1,
  )

  calls-kept : (h : List Entry) (t : ToolState) (c : Call) (a : Answer) → next_call_of t ≡ Some c
      → answer_to (state_after first h) k c ≡ Some a → IsAskedIn h t
      → IsAskedIn (h ++ call_entry k c a.reply ∷ []) (fed t a.reply)
  calls-kept h t c a next given kept = (
    fed-kind t a.reply ∙ kept.0,
    subst (λ (b : Bool). AtNow b (fed t a.reply))
        (sym (ap (asks_still false) (own-made k h c a.reply (exchanges k h) refl)
        ∙ asks-push false (exchanges k h) (exchange c a.reply)))
        (fed-at t kept.0 c a.reply next (asks_in h) kept.1),
  )

  pub takes-back : (controllers : List ControllerState) (h : List Entry) (t : ToolState)
      → IsRunOf n k (Tool (first_tool Pstack pid)) controllers first h
      → slice_get (controllers_at controllers h) k ≡ Some (Tool t) → has_ended t ≡ true → IsSome t.refusal
      → asks_still false (exchanges k h) ≡ false
  unfolding first_tool first_step exchanges
  takes-back controllers h t run ends ended was =
      let kept =
      tool-keeps n k first IsAskedIn others-kept calls-kept controllers h (first_tool Pstack pid) t run ends
      (refl, (refl, refl)) in
      (subst (AtStep (is_some t.refusal) (asks_in h)) (ended-closes t ended) kept.1) was
