use Rattle.std.proofs.Common.{◌≡◌, ◌++◌, ◌∷◌, ℕ, Some, None, List, [], true, refl, sym, subst, slice_get}
use Rattle.std.proofs.lemmas.List.Elements.{All-nil}
use Rattle.pr_api.specs.Entries.{call_entry}
use Rattle.pr_model.proofs.HistoryLemmas.{state_after-push}
use Rattle.pr_model.specs.Legal.{after, state_after}
use Rattle.pr_model.specs.State.{TracedState}
use Rattle.pr_model.specs.declared.calls.Call.TheVariants as call
use Rattle.pr_model.specs.declared.events.Entry.{Entry}
use Rattle.pr_probe.proofs.FedLemmas.{ended-closes}
use Rattle.pr_probe.specs.Probes.{ProbeState, fed, first_probe, has_ended}
use Rattle.pr_probe.specs.declared.probe_stages.ProbeStage.{ProbeStage}
use Rattle.pr_probe.specs.declared.probe_stages.ProbeStage.TheVariants.{Close}
use Rattle.pr_tool_laws.proofs.Stages.ProtocolLemmas.{KeptByCalls, KeptByOthers, own-keeps}
use Rattle.pr_tool_laws.proofs.Stages.StageLemmas.{state-called}
use Rattle.pr_world.specs.Controllers.{after_reply, next_call}
use Rattle.pr_world.specs.ControllerStates.{ControllerState, Probe}
use Rattle.pr_world.specs.Protocol.{controllers_at}
use Rattle.pr_tool_laws.specs.Runs.{IsRunOf}
use Rattle.pr_probe_laws.proofs.PuttingBack.ProbeCalls.{called-so}
use Rattle.pr_probe_laws.proofs.PuttingBack.ProbeStages.{BothBack, So, others-hold, so-still}
use Rattle.pr_probe_laws.proofs.Sets.SetStages.{others-call}
use Rattle.pr_probe_laws.specs.PutBack.{PutsBack, WritesNoMemory}

-- apfiles puts back what it wrote over.

module _ (n k pid : ℕ) (first : TracedState) where
  -- apfiles at its stage, unless it was refused
  unfoldable pub IsProbeKept : List Entry → ControllerState → Type 0
  IsProbeKept h (Probe p) = p.refusal ≡ None → So k pid first h (state_after first h) p p.stage
  IsProbeKept h _ = ⊥

  pub others-kept : KeptByOthers n k first IsProbeKept
  unfolding IsProbeKept
  others-kept h (Probe p) actor it legal other kept = λ none.
      let e : Entry = record { actor = actor; act = it } in
      let s : TracedState = state_after first h in
      subst (λ (t : TracedState). So k pid first (h ++ e ∷ []) t p p.stage) (sym (state_after-push first h e))
      (so-still k pid first h e s (after s e) p (others-hold n k pid s actor it p.opened legal other)
      (λ handle bytes r is. absurd (others-call k pid first actor it other (call.Ctl handle bytes) r is)) p.stage
      (kept none))
  others-kept h _ actor it legal other kept = absurd kept

  pub calls-kept : KeptByCalls n k first IsProbeKept
  unfolding IsProbeKept next_call after_reply
  calls-kept h (Probe p) c a next given kept = λ none.
      let u : ProbeState = fed p a.reply in
      subst (λ (t : TracedState). So k pid first (h ++ call_entry k c a.reply ∷ []) t u u.stage)
      (sym (state-called first h k c a given)) (called-so k pid first h c a given p next kept none)
  calls-kept h _ c a next given kept = absurd kept

  pub at_first : So k pid first [] first (first_probe pid) (first_probe pid).stage
  unfolding So first_probe
  at_first = (refl, refl, All-nil (WritesNoMemory k))

  all-back : (h : List Entry) (p : ProbeState) → So k pid first h (state_after first h) p p.stage → p.stage ≡ Close
      → BothBack k pid first h p
  unfolding So
  all-back h p so ends = subst (λ (g : ProbeStage). So k pid first h (state_after first h) p g) ends so

-- In the end it has done that, unless it was refused.
pub puts-back : (controllers : List ControllerState) (n k : ℕ) (pid : ℕ) (s : TracedState) (h : List Entry)
    (p : ProbeState) → IsRunOf n k (Probe (first_probe pid)) controllers s h
    → slice_get (controllers_at controllers h) k ≡ Some (Probe p) → has_ended p ≡ true → p.refusal ≡ None
    → PutsBack k pid s h
unfolding IsProbeKept
puts-back controllers n k pid s h p run ends ended accepted =
    let kept =
    own-keeps n k s (IsProbeKept n k pid s) (others-kept n k pid s) (calls-kept n k pid s) controllers h
    (Probe (first_probe pid)) (Probe p) run ends (λ none. at_first n k pid s) in
    let both = all-back n k pid s h p (kept accepted) (ended-closes p ended) in
    record {
      code = p.code;
      whole_code = both.0.whole;
      code_back = both.0.back;
      stack = p.stack;
      whole_stack = both.1.whole;
      stack_back = both.1.back;
    }
