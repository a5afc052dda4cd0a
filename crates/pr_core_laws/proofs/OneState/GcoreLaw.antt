use Rattle.std.proofs.Common.{◌≡◌, ◌++◌, ◌∷◌, ℕ, Some, None, List, [], true, refl, sym, subst, slice_get}
use Rattle.pr_api.specs.Entries.{call_entry}
use Rattle.pr_core.specs.CoreText.{printed}
use Rattle.pr_core.specs.Gcores.{GcoreState, fed, first_gcore, has_ended}
use Rattle.pr_core.specs.declared.gcore_stages.GcoreStage.TheVariants as stage
use Rattle.pr_lawful.proofs.LawfulStates.CallLemmas.{call-state}
use Rattle.pr_lawful.proofs.LawfulStates.HistoryLemmas.{history-state}
use Rattle.pr_model.proofs.HistoryLemmas.{state_after-push}
use Rattle.pr_model.specs.Lawful.{IsLawful}
use Rattle.pr_model.specs.Legal.{after, state_after}
use Rattle.pr_model.specs.State.{TracedState}
use Rattle.pr_model.specs.declared.events.Entry.{Entry}
use Rattle.pr_tool_laws.proofs.Stages.ProtocolLemmas.{KeptByCalls, KeptByOthers, own-keeps}
use Rattle.pr_tool_laws.proofs.Stages.StageLemmas.{state-called}
use Rattle.pr_tools.specs.Handles.{nothing_open}
use Rattle.pr_world.specs.Controllers.{after_reply, next_call}
use Rattle.pr_world.specs.ControllerStates.{ControllerState, Gcore}
use Rattle.pr_world.specs.Protocol.{controllers_at}
use Rattle.pr_reached.specs.HistoriesInRange.{StaysInRange}
use Rattle.pr_tool_laws.specs.Runs.{IsRunOf}
use Rattle.pr_core_laws.proofs.OneState.GcoreCalls.{called-stage}
use Rattle.pr_core_laws.proofs.OneState.GcoreEnds.{ended-stage, shows}
use Rattle.pr_core_laws.proofs.OneState.GcoreStages.{So, Stage, goes, open_at, others-stage}
use Rattle.pr_core_laws.proofs.OneState.GcoreSteps.{begins, first_notes}
use Rattle.pr_core_laws.proofs.OpenFiles.HandleLemmas.{none-first}
use Rattle.pr_core_laws.specs.OneCore.{ShowsOneCore}

-- gcore prints the core of one state.

module _ (n k pid : ℕ) (first : TracedState) where
  -- gcore at its stage, in a lawful state
  unfoldable pub IsGcoreKept : List Entry → ControllerState → Type 0
  IsGcoreKept h (Gcore g) = IsLawful (state_after first h) × Stage n k pid first h (state_after first h) g
  IsGcoreKept h _ = ⊥

  pub others-keep : KeptByOthers n k first IsGcoreKept
  unfolding IsGcoreKept
  others-keep h (Gcore g) actor it legal other kept =
      let e : Entry = record { actor = actor; act = it } in
      let same : after (state_after first h) e ≡ state_after first (h ++ e ∷ []) = sym (state_after-push first h e) in
      let lawful = history-state n (state_after first h) (e ∷ []) kept.0 (legal, tt) in
      let at_stage = others-stage n k pid first h kept.0 actor it legal other g kept.1 in
      subst (λ (s : TracedState). IsLawful s × Stage n k pid first (h ++ e ∷ []) s g) same (lawful, at_stage)
  others-keep h _ actor it legal other kept = absurd kept

  pub calls-keep : KeptByCalls n k first IsGcoreKept
  unfolding IsGcoreKept next_call after_reply
  calls-keep h (Gcore g) c a next given kept =
      let same : a.state ≡ state_after first (h ++ call_entry k c a.reply ∷ []) =
      sym (state-called first h k c a given) in
      let at_stage = called-stage n k pid first h c a kept.0 given g next kept.1 in
      let lawful = call-state (state_after first h) kept.0 k c a given in
      subst (λ (s : TracedState). IsLawful s × Stage n k pid first (h ++ call_entry k c a.reply ∷ []) s
      (fed g a.reply)) same (lawful, at_stage)
  calls-keep h _ c a next given kept = absurd kept

  pub at_first : Stage n k pid first [] first (first_gcore pid)
  unfolding So open_at
  at_first = goes (record {
    opened = nothing_open;
    next = stage.OpenCtl;
    notes = first_notes pid;
    is = begins k pid;
    holds = none-first k pid first.opens;
    so = refl;
  })

-- In the end it shows that, unless it was refused.
pub shows-one-core : (controllers : List ControllerState) (n k pid : ℕ) (s : TracedState) (h : List Entry)
    (g : GcoreState) → StaysInRange s h → IsRunOf n k (Gcore (first_gcore pid)) controllers s h
    → slice_get (controllers_at controllers h) k ≡ Some (Gcore g) → has_ended g ≡ true → g.refusal ≡ None
    → ShowsOneCore k pid s h (printed g)
unfolding IsGcoreKept
shows-one-core controllers n k pid s h g stays run ends ended accepted =
    let kept =
    own-keeps n k s (IsGcoreKept n k pid s) (others-keep n k pid s) (calls-keep n k pid s) controllers h
    (Gcore (first_gcore pid)) (Gcore g) run ends (stays.lawful, at_first n k pid s) in
    shows n k pid s h g stays.lawful stays.in_range stays.bytes run.legal ended accepted
    (ended-stage n k pid s h (state_after s h) g ended accepted kept.1)
