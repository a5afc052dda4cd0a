use Rattle.std.proofs.Common.{◌≡◌, ◌⊎◌, ◌∷◌, ◌++◌, ◌-◌, ℕ, zero, suc, true, List, [], Option, Some, None, is_none, option_map, slice_get, refl, sym, subst, ap, ◌∙◌, inl, inr, arith}
use Rattle.std.proofs.lemmas.Bool.{false≢true}
use Rattle.std.proofs.lemmas.List.Elements.{All-nil}
use Rattle.std.proofs.lemmas.List.{append_assoc}
use Rattle.std.proofs.lemmas.Option.{none-some}
use Rattle.pr_api.specs.Entries.{call_entry}
use Rattle.pr_lawful.proofs.LawfulStates.CallLemmas.{call-state}
use Rattle.pr_lawful.proofs.LawfulStates.HistoryLemmas.{history-state}
use Rattle.pr_model.proofs.HistoryLemmas.{state_after-push}
use Rattle.pr_model.specs.Lawful.{IsLawful}
use Rattle.pr_model.specs.Legal.{IsLegal, after, state_after}
use Rattle.pr_model.specs.State.{TracedState, live_process}
use Rattle.pr_model.specs.declared.calls.Call.TheVariants as call
use Rattle.pr_model.specs.declared.events.Entry.{Entry}
use Rattle.pr_probe.proofs.FedLemmas.{ended-closes}
use Rattle.pr_probe.proofs.PlaceLemmas.{first-none, has-last}
use Rattle.pr_probe.specs.ProbeStages.{place_of}
use Rattle.pr_probe.specs.Probes.{ProbeState, call_of, fed, first_probe, has_ended, next_call_of}
use Rattle.pr_probe.specs.declared.probe_stages.ProbeFile.TheVariants.{Control}
use Rattle.pr_probe.specs.declared.probe_stages.ProbeStage.{ProbeStage}
use Rattle.pr_probe.specs.declared.probe_stages.ProbeStage.TheVariants.{Close}
use Rattle.pr_reached.proofs.StatesInRange.HistoryRanges.{history-range}
use Rattle.pr_reached.specs.ByteHistories.{HasBytes}
use Rattle.pr_reached.specs.InRange.{IsInRange}
use Rattle.pr_tool_laws.proofs.Stages.ProtocolLemmas.{KeptByCalls, KeptByOthers, own-keeps}
use Rattle.pr_tool_laws.proofs.Stages.StageLemmas.{state-called}
use Rattle.pr_tool_laws.proofs.Records.WholeLemmas.{front-bytes, front-legal}
use Rattle.pr_tools.specs.Handles.{handle_at, last_open, places_to_last}
use Rattle.pr_tools.specs.declared.handles.Opened.{Opened}
use Rattle.pr_world.specs.ControllerStates.{ControllerState, Probe}
use Rattle.pr_world.specs.Controllers.{after_reply, next_call}
use Rattle.pr_world.specs.Protocol.{controllers_at}
use Rattle.pr_reached.specs.HistoriesInRange.{StaysInRange}
use Rattle.pr_tool_laws.specs.Runs.{IsRunOf}
use Rattle.pr_probe_laws.proofs.Sets.SetCalls.{called-knows}
use Rattle.pr_probe_laws.proofs.Sets.SetStages.{AllBack, HasLeft, Knows, Leaves, knows-still}
use Rattle.pr_probe_laws.specs.SetsBack.{HoldsControl, SetsBack}
use Rattle.pr_tool_laws.specs.Leaving.{IsNoCall}

-- apfiles sets the traced sets back.

-- where the first file is open, one is the last
last-some : (o : Opened) (number : ℕ) → handle_at o 0 ≡ Some number → last_open o ≡ None → ⊥
unfolding handle_at last_open
last-some o number first none = of (places_to_last o.handles) refl
  where
    of : (n : ℕ) → places_to_last o.handles ≡ n → ⊥
    of zero is = none-some number (sym (first-none o.handles is) ∙ first)
    of (suc n) is =
        let last = has-last o.handles n is in
        let at : places_to_last o.handles - 1 ≡ n = omega (arith, is) in
        none-some last.handle (sym none ∙ ap (handle_at o) at ∙ last.there)

module _ (n k pid : ℕ) (first : TracedState) where
  -- apfiles at its stage in a lawful state, unless it was refused
  unfoldable pub IsProbeKnown : List Entry → ControllerState → Type 0
  IsProbeKnown h (Probe p) =
      IsLawful (state_after first h) × (p.refusal ≡ None → Knows k pid first h (state_after first h) p p.stage)
  IsProbeKnown h _ = ⊥

  pub others-known : KeptByOthers n k first IsProbeKnown
  unfolding IsProbeKnown
  others-known h (Probe p) actor it legal other kept =
      let e : Entry = record { actor = actor; act = it } in
      let same : after (state_after first h) e ≡ state_after first (h ++ e ∷ []) = sym (state_after-push first h e) in
      let lawful = history-state n (state_after first h) (e ∷ []) kept.0 (legal, tt) in
      let knows =
      λ (none : p.refusal ≡ None). knows-still k pid first n h kept.0 actor it legal other p p.stage (kept.1 none) in
      subst (λ (s : TracedState).
      IsLawful s × (p.refusal ≡ None → Knows k pid first (h ++ e ∷ []) s p p.stage)) same (lawful, knows)
  others-known h _ actor it legal other kept = absurd kept

  pub calls-known : KeptByCalls n k first IsProbeKnown
  unfolding IsProbeKnown next_call after_reply
  calls-known h (Probe p) c a next given kept =
      let u : ProbeState = fed p a.reply in
      let lawful : IsLawful a.state = call-state (state_after first h) kept.0 k c a given in
      subst (λ (s : TracedState).
      IsLawful s × (u.refusal ≡ None → Knows k pid first (h ++ call_entry k c a.reply ∷ []) s u u.stage))
      (sym (state-called first h k c a given))
      (lawful, called-knows k pid first h c a kept.0 given p next kept.1)
  calls-known h _ c a next given kept = absurd kept

  pub at_first : Knows k pid first [] first (first_probe pid) (first_probe pid).stage
  unfolding Knows first_probe
  at_first = (refl, refl, All-nil (IsNoCall k))

  -- who has finished has closed a file
  has-left : (h : List Entry) (s : TracedState) (p : ProbeState) → has_ended p ≡ true
      → Knows k pid first h s p p.stage → HasLeft k pid first h
  unfolding Knows has_ended next_call_of call_of place_of
  has-left h s p ended knows =
      by (subst (λ (g : ProbeStage). Knows k pid first h s p g) closing knows)
    where
      closing : p.stage ≡ Close
      closing = ended-closes p ended

      none-open : (o : Option ℕ) → is_none (option_map call.Close o) ≡ true → o ≡ None
      none-open None is = refl
      none-open (Some handle) is = absurd (false≢true is)

      by : Leaves k pid first AllBack h s p ⊎ HasLeft k pid first h → HasLeft k pid first h
      by (inr left) = left
      by (inl going) =
          let control = going.holds.each Control (omega arith) in
          let ends : is_none (call_of p Close) ≡ true =
          ap (λ (g : ProbeStage). is_none (call_of p g)) (sym closing) ∙ ended in
          absurd (last-some p.opened control.number control.at (none-open (last_open p.opened) ends))

-- In the end it has done that, unless it was refused.
pub sets-back : (controllers : List ControllerState) (n k : ℕ) (pid : ℕ) (s : TracedState) (h : List Entry)
    (p : ProbeState) → StaysInRange s h → IsRunOf n k (Probe (first_probe pid)) controllers s h
    → slice_get (controllers_at controllers h) k ≡ Some (Probe p) → has_ended p ≡ true → p.refusal ≡ None
    → SetsBack k pid s h
unfolding IsProbeKnown
sets-back controllers n k pid s h p stays run ends ended accepted =
    let kept =
    own-keeps n k s (IsProbeKnown n k pid s) (others-known n k pid s) (calls-known n k pid s) controllers h
    (Probe (first_probe pid)) (Probe p) run ends (stays.lawful, λ none. at_first n k pid s) in
    of (has-left n k pid s h (state_after s h) p ended (kept.1 accepted))
  where
    -- each front of the history leads to a state in range
    front-range : (front back : List Entry) → h ≡ front ++ back → IsInRange (state_after s front).system
    front-range front back place =
        history-range n s front stays.lawful stays.in_range (front-bytes front back (subst HasBytes place stays.bytes))
        (front-legal n s front back (subst (λ (es : List Entry). IsLegal n s es) place run.legal))

    of : HasLeft k pid s h → SetsBack k pid s h
    of left =
        let b = left.began in
        let rest : List Entry = call_entry k (call.Close left.handle) left.reply ∷ left.after in
        record {
          before = b.before;
          opened = b.opened;
          later = b.later;
          handle = left.handle;
          reply = left.reply;
          after = left.after;
          place = left.place ∙ ap (λ (es : List Entry). es ++ rest) b.place;
          first_call = b.first_call;
          holds = subst (λ (es : List Entry). HoldsControl k pid (state_after s es).opens) b.place left.holds;
          closes = left.closes;
          back = λ sole q live.
              left.so (record {
                sole = sole;
                ranged = λ front back place.
                    front-range front (back ++ rest)
                    (left.place ∙ ap (λ (es : List Entry). es ++ rest) place ∙ append_assoc front back rest);
              }) q (ap (λ (es : List Entry). live_process (state_after s es).system pid) b.place ∙ live);
        }
