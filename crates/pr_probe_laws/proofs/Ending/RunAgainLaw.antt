use Rattle.std.proofs.Common.{◌≡◌, ℕ, true, List, [], Some, None, subst, slice_get}
use Rattle.std.proofs.lemmas.List.Elements.{All-nil}
use Rattle.pr_model.specs.Legal.{IsLegal}
use Rattle.pr_model.specs.State.{TracedState}
use Rattle.pr_model.specs.declared.events.Entry.{Entry}
use Rattle.pr_probe.proofs.FedLemmas.{ended-closes}
use Rattle.pr_probe.specs.Probes.{ProbeState, first_probe, has_ended}
use Rattle.pr_probe.specs.declared.probe_stages.ProbeStage.{ProbeStage}
use Rattle.pr_probe.specs.declared.probe_stages.ProbeStage.TheVariants.{Close}
use Rattle.pr_tool_laws.proofs.RunningAgain.LeavingStages.{leaves}
use Rattle.pr_tool_laws.proofs.Stages.ProtocolLemmas.{KeptByCalls, KeptByOthers, own-keeps}
use Rattle.pr_world.specs.Controllers.{after_reply, next_call}
use Rattle.pr_world.specs.ControllerStates.{ControllerState, Probe}
use Rattle.pr_reached.specs.HistoriesInRange.{StaysInRange}
use Rattle.pr_tool_laws.specs.Runs.{IsRunOf}
use Rattle.pr_tool_laws.specs.Stacks.{OpensAtMost}
use Rattle.pr_world.specs.Protocol.{controllers_at}
use Rattle.pr_probe_laws.proofs.Ending.LetsBe.{lets-be}
use Rattle.pr_probe_laws.proofs.Ending.RunAgainStages.{Leads, called-leads, leads-still}
use Rattle.pr_probe_laws.proofs.Sets.SetLaw as sets
use Rattle.pr_probe_laws.proofs.Sets.SetLaw.{IsProbeKnown, calls-known, others-known}
use Rattle.pr_probe_laws.proofs.Sets.SetStages.{others-call}
use Rattle.pr_tool_laws.specs.Leaving.{LeavesItsProcess, RunsNobody}

-- apfiles runs its process again.

module _ (n k pid : ℕ) (first : TracedState) where
  -- what is known of it at its stage, unless it was refused
  abbrev IsLeading : List Entry → ControllerState → Type 0
  IsLeading h c = IsProbeKnown n k pid first h c × So h c
    where
      So : List Entry → ControllerState → Type 0
      So h (Probe p) = p.refusal ≡ None → Leads k pid first h p p.stage
      So h _ = ⊥

  others-lead : KeptByOthers n k first IsLeading
  others-lead h (Probe p) actor it legal other kept = (
    others-known n k pid first h (Probe p) actor it legal other kept.0,
    λ none.
        leads-still k pid first h (record { actor = actor; act = it }) (others-call k pid first actor it other) p
        p.stage (kept.1 none),
  )
  others-lead h _ actor it legal other kept = absurd kept.1

  calls-lead : KeptByCalls n k first IsLeading
  unfolding IsProbeKnown next_call after_reply
  calls-lead h (Probe p) c a next given kept = (
    calls-known n k pid first h (Probe p) c a next given kept.0,
    called-leads k pid first h c a kept.0.0 given p next kept.0.1 kept.1,
  )
  calls-lead h _ c a next given kept = absurd kept.1

  begins : Leads k pid first [] (first_probe pid) (first_probe pid).stage
  unfolding Leads first_probe
  begins = All-nil (OpensAtMost k)

  at-last : (h : List Entry) (p : ProbeState) → StaysInRange first h → IsLegal n first h → p.stage ≡ Close
      → Leads k pid first h p p.stage → (p.stood ≡ true → RunsNobody k pid first h) → LeavesItsProcess k pid first h
  unfolding Leads
  at-last h p stays legal closing so lets =
      let both = subst (λ (g : ProbeStage). Leads k pid first h p g) closing so in
      leaves n k pid p.stood first h stays legal (record { looked = both.0; ran = both.1; lets_be = lets })

-- In the end it has done so, unless it was refused.
pub runs-at-last : (controllers : List ControllerState) (n k pid : ℕ) (s : TracedState) (h : List Entry)
    (p : ProbeState) → StaysInRange s h → IsRunOf n k (Probe (first_probe pid)) controllers s h
    → slice_get (controllers_at controllers h) k ≡ Some (Probe p) → has_ended p ≡ true → p.refusal ≡ None
    → LeavesItsProcess k pid s h
unfolding IsProbeKnown
runs-at-last controllers n k pid s h p stays run ends ended accepted =
    let kept =
    own-keeps n k s (IsLeading n k pid s) (others-lead n k pid s) (calls-lead n k pid s) controllers h
    (Probe (first_probe pid)) (Probe p) run ends
    ((stays.lawful, λ none. sets.at_first n k pid s), λ none. begins n k pid s) in
    at-last n k pid s h p stays run.legal (ended-closes p ended) (kept.1 accepted)
    (lets-be controllers n k pid s h p run ends)
