use Rattle.std.proofs.Common.{◌≡◌, ◌==◌, ◌⊎◌, ◌∷◌, ◌++◌, ℕ, true, false, Option, Some, None, IfSome, List, [], option_map, refl, sym, subst, ap, ◌∙◌, inl, inr, slice_get}
use Rattle.std.proofs.lemmas.Bool.{cases_Bool, eqb-false, eqb-true}
use Rattle.std.proofs.lemmas.Option.{none-some, same_Some}
use Rattle.std.specs.List.{slice_set}
use Rattle.pr_api.specs.Entries.{call_entry}
use Rattle.pr_lawful.proofs.ProcessParts.HandleLemmas.{handle-at}
use Rattle.pr_model.proofs.HistoryLemmas.{state_after-push}
use Rattle.pr_model.specs.Calls.{Answer, answer_to}
use Rattle.pr_model.specs.Handles.{handle_of}
use Rattle.pr_model.specs.Legal.{IsLegalEntry, after, state_after}
use Rattle.pr_model.specs.State.{Places, TracedState}
use Rattle.pr_model.specs.declared.calls.Call.{Call}
use Rattle.pr_model.specs.declared.calls.Call.TheVariants as call
use Rattle.pr_model.specs.declared.events.Act.{Act}
use Rattle.pr_model.specs.declared.events.Actor.{Actor}
use Rattle.pr_model.specs.declared.events.Entry.{Entry}
use Rattle.pr_model.specs.declared.handles.Held.{Held}
use Rattle.pr_model.specs.declared.tools.ToolKind.{ToolKind}
use Rattle.pr_tools.specs.Handles.{last_open}
use Rattle.pr_tools.specs.Tools.{ToolState, call_of, fed, first_tool, next_call_of}
use Rattle.pr_tools.specs.declared.steps.Step.{Step}
use Rattle.pr_tools.specs.declared.steps.Step.TheVariants as step
use Rattle.pr_world.specs.ControllerStates.{ControllerState, Tool}
use Rattle.pr_world.specs.Protocol.{controllers_at}
use Rattle.pr_tool_laws.specs.Runs.{IsRunOf}
use Rattle.pr_tool_laws.proofs.Stages.KindLemmas.{fed-pid}
use Rattle.pr_tool_laws.proofs.Stages.LawLemmas.{tool-keeps}
use Rattle.pr_tool_laws.proofs.Stages.StageLemmas.{state-called}
use Rattle.pr_tool_laws.proofs.OwnFiles.StandingLemmas.{IsOther, others-handles}
use Rattle.pr_tool_laws.specs.ToolHandles.{AllHeld, HoldsOnly}
use Rattle.pr_truss_laws.proofs.Files.OpensLemmas.{ClosesOne, Opens, close-closes, held_by, open-opens, own-mine, own-other, own-set, plain-leaves}
use Rattle.pr_truss_laws.specs.Handles.{HasNothingOpen}

-- What a controller has open, and that a tool opens files of its process alone.

-- ---- what is so of each handle

-- where it is opened by this call
abbrev pub OpensSo : (Held → Type 0) → ℕ → Call → Type 0
OpensSo IsSo k (call.Open pid id file mode) = IsSo (held_by k pid id file mode)
OpensSo IsSo k _ = Unit {0}

module _ (k : ℕ) (IsSo : Held → Type 0) (s : TracedState) (all : AllHeld k IsSo s) where
  -- what others do
  pub others-all : (n : ℕ) (actor : Actor) (it : Act) → IsLegalEntry n s (record { actor = actor; act = it })
      → IsOther k actor it → AllHeld k IsSo (after s (record { actor = actor; act = it }))
  others-all n actor it legal other = record {
    each = λ number held there.
        all.each number held (sym (others-handles n k number s actor it legal other) ∙ there);
  }

  module _ (a : Answer) where
    -- the handles stay
    same-all : a.state.opens ≡ s.opens → AllHeld k IsSo a.state
    same-all same = record {
      each = λ number h there. all.each number h (ap (λ (x : Places). handle_of x k number) (sym same) ∙ there);
    }

    -- another handle stands at a place, or none
    changed-all : (place : ℕ) (o : Option Held) → a.state.opens ≡ slice_set s.opens place o
        → ((h : Held) → handle_of a.state.opens k place ≡ Some h → IsSo h) → AllHeld k IsSo a.state
    changed-all place o is new = record { each = λ number h there. by number h there (cases_Bool (place == number)) }
      where
        by : (number : ℕ) (h : Held) → handle_of a.state.opens k number ≡ Some h
            → ((place == number) ≡ true) ⊎ ((place == number) ≡ false) → IsSo h
        by number h there (inl same) =
            new h (ap (handle_of a.state.opens k) (eqb-true place number same) ∙ there)
        by number h there (inr apart) =
            all.each number h
            (sym (ap (λ (x : Places). handle_of x k number) is
            ∙ own-other s.opens k place number o (eqb-false place number apart)) ∙ there)

    opened-all : (h : Held) → h.controller ≡ k → IsSo h → Opens s k h a.reply a.state.opens → AllHeld k IsSo a.state
    opened-all h own so granted =
        changed-all granted.place (Some h) granted.is
        (λ other there. subst IsSo (same_Some h other (sym here ∙ there)) so)
      where
        here : handle_of a.state.opens k granted.place ≡ Some h
        here =
            ap (λ (x : Places). handle_of x k granted.place) granted.is
            ∙ own-set s.opens k granted.place (Some h) None granted.free ∙ own-mine k h own

    closed-all : (number : ℕ) (h : Held) → ClosesOne s k number h a → AllHeld k IsSo a.state
    closed-all number h closed =
        changed-all number None closed.is (λ other there. absurd (none-some other (sym here ∙ there)))
      where
        here : handle_of a.state.opens k number ≡ None
        here =
            ap (λ (x : Places). handle_of x k number) closed.is
            ∙ own-set s.opens k number None (Some h) (handle-at s.opens k number h closed.held)

    pub call-all : (c : Call) → OpensSo IsSo k c → answer_to s k c ≡ Some a → AllHeld k IsSo a.state
    call-all (call.Open pid id file mode) so given =
        elim (open-opens s k pid id file mode a given) [
          | inl denied ↦ same-all denied.is
          | inr granted ↦ opened-all (held_by k pid id file mode) refl so granted
        ]
    call-all (call.Close number) so given =
        elim (close-closes s k number a given) [
          | inl none ↦ same-all none.is
          | inr closed ↦ closed-all number closed.0 closed.1
        ]
    call-all c so given = same-all (plain-leaves s k c a refl given)

pub none-held : (k : ℕ) (IsSo : Held → Type 0) (s : TracedState) → HasNothingOpen k s → AllHeld k IsSo s
none-held k IsSo s nothing =
    record { each = λ number held there. absurd (none-some held (sym (nothing.none number) ∙ there)) }

-- ---- a tool opens files of its process alone

abbrev pub IsOf : ℕ → Held → Type 0
IsOf pid h = h.pid ≡ pid

step-opens : (k : ℕ) (t : ToolState) (p : Step) → IfSome (call_of t p) (OpensSo (IsOf t.pid) k)
unfolding call_of
step-opens k t step.OpenCtl = refl
step-opens k t step.OpenFile = refl
step-opens k t step.OpenMemory = refl
step-opens k t step.Close = of (last_open t.opened)
  where
    of : (o : Option ℕ) → IfSome (option_map call.Close o) (OpensSo (IsOf t.pid) k)
    of None = tt
    of (Some number) = tt
step-opens k t _ = tt

own-opens : (k : ℕ) (t : ToolState) (c : Call) → next_call_of t ≡ Some c → OpensSo (IsOf t.pid) k c
unfolding next_call_of
own-opens k t c next = subst (λ (o : Option Call). IfSome o (OpensSo (IsOf t.pid) k)) next (step-opens k t t.step)

module _ (n k : ℕ) (kind : ToolKind) (pid : ℕ) (first : TracedState) where
  abbrev HoldsIn : List Entry → ToolState → Type 0
  HoldsIn h t = (t.pid ≡ pid) × HoldsOnly k pid (state_after first h)

  others-kept : (h : List Entry) (t : ToolState) (actor : Actor) (it : Act)
      → IsLegalEntry n (state_after first h) (record { actor = actor; act = it }) → IsOther k actor it → HoldsIn h t
      → HoldsIn (h ++ (record { actor = actor; act = it }) ∷ []) t
  others-kept h t actor it legal other kept =
      let holds = others-all k (IsOf pid) (state_after first h) kept.1 n actor it legal other in (
        kept.0,
        subst (HoldsOnly k pid) (sym (state_after-push first h (record { actor = actor; act = it }))) holds,
      )

  calls-kept : (h : List Entry) (t : ToolState) (c : Call) (a : Answer) → next_call_of t ≡ Some c
      → answer_to (state_after first h) k c ≡ Some a → HoldsIn h t
      → HoldsIn (h ++ call_entry k c a.reply ∷ []) (fed t a.reply)
  calls-kept h t c a next given kept =
      let own : OpensSo (IsOf pid) k c = subst (λ (x : ℕ). OpensSo (IsOf x) k c) kept.0 (own-opens k t c next) in
      let holds = call-all k (IsOf pid) (state_after first h) kept.1 a c own given in
      (fed-pid t a.reply ∙ kept.0, subst (HoldsOnly k pid) (sym (state-called first h k c a given)) holds)

  pub tool-holds : (controllers : List ControllerState) (h : List Entry) (t : ToolState) → HasNothingOpen k first
      → IsRunOf n k (Tool (first_tool kind pid)) controllers first h
      → slice_get (controllers_at controllers h) k ≡ Some (Tool t) → HoldsOnly k pid (state_after first h)
  unfolding first_tool
  tool-holds controllers h t nothing run ends =
      (tool-keeps n k first HoldsIn others-kept calls-kept controllers h (first_tool kind pid) t run ends
      (refl, none-held k (IsOf pid) first nothing)).1
