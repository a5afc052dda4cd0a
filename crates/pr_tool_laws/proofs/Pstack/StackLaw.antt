use Rattle.std.proofs.Common.{◌≡◌, ◌++◌, ◌∷◌, ℕ, Some, None, List, [], true, refl, sym, subst, slice_get}
use Rattle.pr_api.specs.Entries.{call_entry}
use Rattle.pr_lawful.proofs.LawfulStates.CallLemmas.{call-state}
use Rattle.pr_lawful.proofs.LawfulStates.HistoryLemmas.{history-state}
use Rattle.pr_model.proofs.HistoryLemmas.{state_after-push}
use Rattle.pr_model.specs.Lawful.{IsLawful}
use Rattle.pr_model.specs.Legal.{IsLegalEntry, after, state_after}
use Rattle.pr_model.specs.State.{TracedState}
use Rattle.pr_model.specs.declared.events.Entry.{Entry}
use Rattle.pr_model.specs.declared.tools.ToolKind.TheVariants.{Pstack}
use Rattle.pr_num.specs.Programs.{Program}
use Rattle.pr_tools.specs.Tools.{ToolState, fed, first_tool, has_ended, printed}
use Rattle.pr_world.specs.Controllers.{after_reply, next_call}
use Rattle.pr_world.specs.ControllerStates.{ControllerState, Tool}
use Rattle.pr_world.specs.Protocol.{controllers_at}
use Rattle.pr_reached.specs.HistoriesInRange.{StaysInRange}
use Rattle.pr_tool_laws.specs.Runs.{IsRunOf}
use Rattle.pr_tool_laws.proofs.Stages.ProtocolLemmas.{KeptByCalls, KeptByOthers, own-keeps}
use Rattle.pr_tool_laws.proofs.Pstack.StackCalls.{called-stage}
use Rattle.pr_tool_laws.proofs.Pstack.StackEnds.{ended-stage, shows}
use Rattle.pr_tool_laws.proofs.Pstack.StackStages.{StackStage, at_first, others-stage}
use Rattle.pr_tool_laws.proofs.Stages.StageLemmas.{state-called}
use Rattle.pr_tool_laws.specs.Stacks.{ShowsOneStack}

-- pstack prints the stacks of one state.

-- every entry leads from a lawful state to a lawful one
pub entry-lawful : (n : ℕ) (s : TracedState) (e : Entry) → IsLawful s → IsLegalEntry n s e → IsLawful (after s e)
entry-lawful n s e lawful legal = history-state n s (e ∷ []) lawful (legal, tt)

module _ (n k pid : ℕ) (first : TracedState) where
  -- pstack at its stage, in a lawful state
  IsStackKept : List Entry → ControllerState → Type 0
  IsStackKept h (Tool t) = IsLawful (state_after first h) × StackStage n k pid first h (state_after first h) t
  IsStackKept h _ = ⊥

  others-keep : KeptByOthers n k first IsStackKept
  unfolding IsStackKept
  others-keep h (Tool t) actor it legal other kept =
      let e : Entry = record { actor = actor; act = it } in
      let same : after (state_after first h) e ≡ state_after first (h ++ e ∷ []) = sym (state_after-push first h e) in
      let lawful = entry-lawful n (state_after first h) e kept.0 legal in
      let stage = others-stage n k pid first h (state_after first h) kept.0 actor it legal other t kept.1 in
      subst (λ (s : TracedState). IsLawful s × StackStage n k pid first (h ++ e ∷ []) s t) same (lawful, stage)
  others-keep h _ actor it legal other kept = absurd kept

  calls-keep : KeptByCalls n k first IsStackKept
  unfolding IsStackKept next_call after_reply
  calls-keep h (Tool t) c a next given kept =
      let same : a.state ≡ state_after first (h ++ call_entry k c a.reply ∷ []) =
      sym (state-called first h k c a given) in
      let stage = called-stage n k pid first h c a kept.0 given t next kept.1 in
      let lawful = call-state (state_after first h) kept.0 k c a given in
      subst (λ (s : TracedState). IsLawful s × StackStage n k pid first (h ++ call_entry k c a.reply ∷ []) s
      (fed t a.reply)) same (lawful, stage)
  calls-keep h _ c a next given kept = absurd kept

-- In the end it shows them, unless it was refused.
pub shows-one-stack : (controllers : List ControllerState) (n k pid : ℕ) (s : TracedState) (h : List Entry)
    (t : ToolState) (programs : List Program)
    → StaysInRange s h → IsRunOf n k (Tool (first_tool Pstack pid)) controllers s h
    → slice_get (controllers_at controllers h) k ≡ Some (Tool t) → has_ended t ≡ true → t.refusal ≡ None
    → ShowsOneStack k pid programs s h (printed t programs)
unfolding IsStackKept
shows-one-stack controllers n k pid s h t programs stays run ends ended accepted =
    let kept =
    own-keeps n k s (IsStackKept n k pid s) (others-keep n k pid s) (calls-keep n k pid s) controllers h
    (Tool (first_tool Pstack pid)) (Tool t) run ends (stays.lawful, at_first refl) in
    shows n k pid s h t programs stays.lawful stays.in_range stays.bytes run.legal ended accepted
    (ended-stage n k pid s h (state_after s h) t ended accepted kept.1)
