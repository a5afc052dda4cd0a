use Rattle.std.proofs.Common.{true, ◌≡◌, ◌⊎◌, ◌∷◌, ◌++◌, ℕ, List, [], Some, None, is_some, slice_get, refl, sym, subst, ap, ◌∙◌}
use Rattle.std.proofs.lemmas.List.Elements.{All-nil}
use Rattle.std.proofs.lemmas.List.{append_assoc}
use Rattle.pr_api.specs.Entries.{call_entry}
use Rattle.pr_lawful.proofs.LawfulStates.CallLemmas.{call-state}
use Rattle.pr_lawful.proofs.LawfulStates.HistoryLemmas.{history-state}
use Rattle.pr_model.proofs.HistoryLemmas.{state_after-push}
use Rattle.pr_model.specs.Lawful.{IsLawful}
use Rattle.pr_model.specs.Legal.{IsLegal, after, state_after}
use Rattle.pr_model.specs.State.{TracedState, live_process}
use Rattle.pr_model.specs.declared.events.Entry.{Entry}
use Rattle.pr_num.specs.declared.messages.Message.TheVariants as message
use Rattle.pr_probe.proofs.FedLemmas.{ended-closes}
use Rattle.pr_probe.specs.DescriptorLines.{apfiles_text}
use Rattle.pr_probe.specs.ProbeText.{printed}
use Rattle.pr_probe.specs.Probes.{ProbeState, fed, first_probe, has_ended}
use Rattle.pr_probe.specs.declared.probe_stages.ProbeStage.{ProbeStage}
use Rattle.pr_reached.proofs.Together.ReachedLemmas.{later-reached}
use Rattle.pr_reached.specs.ByteHistories.{HasBytes}
use Rattle.pr_reached.specs.Reached.{IsReached}
use Rattle.pr_tool_laws.proofs.Stages.ProtocolLemmas.{KeptByCalls, KeptByOthers, own-keeps}
use Rattle.pr_tool_laws.proofs.Stages.StageLemmas.{state-called}
use Rattle.pr_tool_laws.proofs.Records.WholeLemmas.{front-bytes, front-legal}
use Rattle.pr_world.specs.ControllerStates.{ControllerState, Probe}
use Rattle.pr_world.specs.Controllers.{after_reply, next_call}
use Rattle.pr_world.specs.Protocol.{controllers_at}
use Rattle.pr_tool_laws.specs.Runs.{IsRunOf}
use Rattle.pr_probe_laws.proofs.Agents.AgentTurns.{asks}
use Rattle.pr_probe_laws.proofs.OneState.TextCalls.{called-reads}
use Rattle.pr_probe_laws.proofs.OneState.TextStages.{HasShown, IsAsking, IsRanged, Reads, reads-still}
use Rattle.pr_probe_laws.specs.SetsBack.{opening_entry}
use Rattle.pr_probe_laws.specs.ShownDescriptors.{HasRoom, WasUnlent, ShowsDescriptors, ShowsOneState}
use Rattle.pr_tool_laws.specs.Leaving.{IsNoCall, SendsTo}

-- The text of apfiles is that of one state.

module _ (n k pid : ℕ) (first : TracedState) where
  -- apfiles at its stage in a lawful state, unless it was refused
  unfoldable pub IsProbeReading : List Entry → ControllerState → Type 0
  IsProbeReading h (Probe p) =
      IsLawful (state_after first h) × (p.refusal ≡ None → Reads k pid first h (state_after first h) p p.stage)
  IsProbeReading h _ = ⊥

  pub others-read : KeptByOthers n k first IsProbeReading
  unfolding IsProbeReading
  others-read h (Probe p) actor it legal other kept =
      let e : Entry = record { actor = actor; act = it } in
      let same : after (state_after first h) e ≡ state_after first (h ++ e ∷ []) = sym (state_after-push first h e) in
      let lawful = history-state n (state_after first h) (e ∷ []) kept.0 (legal, tt) in
      let reads =
      λ (none : p.refusal ≡ None). reads-still k pid first n h kept.0 actor it legal other p p.stage (kept.1 none) in
      subst (λ (s : TracedState).
      IsLawful s × (p.refusal ≡ None → Reads k pid first (h ++ e ∷ []) s p p.stage)) same (lawful, reads)
  others-read h _ actor it legal other kept = absurd kept

  pub calls-read : KeptByCalls n k first IsProbeReading
  unfolding IsProbeReading next_call after_reply
  calls-read h (Probe p) c a next given kept =
      let u : ProbeState = fed p a.reply in
      let lawful : IsLawful a.state = call-state (state_after first h) kept.0 k c a given in
      subst (λ (s : TracedState).
      IsLawful s × (u.refusal ≡ None → Reads k pid first (h ++ call_entry k c a.reply ∷ []) s u u.stage))
      (sym (state-called first h k c a given))
      (lawful, called-reads k pid first h c a kept.0 given p next kept.1)
  calls-read h _ c a next given kept = absurd kept

  pub at_first : Reads k pid first [] first (first_probe pid) (first_probe pid).stage
  unfolding Reads first_probe
  at_first = (refl, refl, refl, All-nil (IsNoCall k))

  -- who has finished has shown what it was answered
  has-shown : (h : List Entry) (s : TracedState) (p : ProbeState) → has_ended p ≡ true
      → Reads k pid first h s p p.stage → (p.pid ≡ pid) × HasShown k pid first h p.lines
  unfolding Reads
  has-shown h s p ended reads =
      subst (λ (g : ProbeStage). Reads k pid first h s p g) (ended-closes p ended) reads

-- what it prints then
text-is : (p : ProbeState) (pid : ℕ) → has_ended p ≡ true → p.refusal ≡ None → p.pid ≡ pid
    → printed p ≡ apfiles_text pid p.lines
unfolding printed
text-is p pid ended accepted its = rw (ended, accepted, its) refl

-- In the end its text is that of the state that its last look finds, unless it was refused.
pub shows-one : (controllers : List ControllerState) (n k : ℕ) (pid : ℕ) (s : TracedState) (h : List Entry)
    (p : ProbeState) → IsReached s → HasBytes h
    → IsRunOf n k (Probe (first_probe pid)) controllers s h
    → slice_get (controllers_at controllers h) k ≡ Some (Probe p) → has_ended p ≡ true → p.refusal ≡ None
    → ShowsOneState k pid s h (printed p)
unfolding IsProbeReading
shows-one controllers n k pid s h p reached bytes run ends ended accepted =
    let kept =
    own-keeps n k s (IsProbeReading n k pid s) (others-read n k pid s) (calls-read n k pid s) controllers h
    (Probe (first_probe pid)) (Probe p) run ends (reached.lawful, λ none. at_first n k pid s) in
    let shown = has-shown n k pid s h (state_after s h) p ended (kept.1 accepted) in
    of shown.0 shown.1
  where
    -- each front of the history leads to a state that is reached
    front-ranged : (front back : List Entry) → h ≡ front ++ back → IsRanged k pid s (state_after s front).system
    front-ranged front back place =
        let there =
        later-reached n s front reached (front-bytes front back (subst HasBytes place bytes))
        (front-legal n s front back (subst (λ (es : List Entry). IsLegal n s es) place run.legal)) in
        record { range = there.in_range; fit = there.fit }

    of : p.pid ≡ pid → HasShown k pid s h p.lines → ShowsOneState k pid s h (printed p)
    of its it =
        let m = it.making in
        let b = m.began in
        let begun : List Entry = b.before ++ opening_entry k pid b.opened ∷ b.later in
        let looks : List Entry = call_entry k m.make m.made ∷ m.asked in
        let rest : List Entry = call_entry k it.call it.reply ∷ it.after in
        let front_is : it.front ≡ begun ++ looks = m.place ∙ ap (λ (es : List Entry). es ++ looks) b.place in
        record {
          before = b.before;
          opened = b.opened;
          later = b.later;
          make = m.make;
          made = m.made;
          asked = m.asked;
          call = it.call;
          reply = it.reply;
          after = it.after;
          place = it.place ∙ ap (λ (es : List Entry). es ++ rest) front_is;
          first_call = b.first_call;
          makes =
              subst (λ (es : List Entry). SendsTo k pid (message.Agent (asks 0)) [] (state_after s es) m.make) b.place
              m.makes;
          untraces =
              subst (λ (es : List Entry). SendsTo k pid (message.Sexit 0) [] (state_after s es) it.call) front_is
              it.untraces;
          process = m.process;
          lives =
              subst (λ (es : List Entry). live_process (state_after s es).system pid ≡ Some m.process) b.place m.lives;
          shown = λ sole room.
              let asks_so : WasUnlent k pid s m.front ⊎ HasRoom m.process =
              subst (λ (es : List Entry). WasUnlent k pid s es ⊎ HasRoom m.process) (sym b.place) room in
              let ask : IsAsking k pid s it.front m = record {
                sole = sole;
                room = asks_so;
                ranged = λ front back split.
                    front-ranged front (back ++ rest)
                    (it.place ∙ ap (λ (es : List Entry). es ++ rest) split ∙ append_assoc front back rest);
              } in
              let all = it.so ask in
              subst (λ (es : List Entry). ShowsDescriptors pid (state_after s es).system (printed p)) front_is
              (record {
                process = it.process;
                lives = it.lives;
                agent = ap is_some all.0.there;
                shown = text-is p pid ended accepted its ∙ ap (apfiles_text pid) all.1;
              });
        }
