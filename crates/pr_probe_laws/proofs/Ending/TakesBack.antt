use Rattle.std.proofs.Common.{◌≡◌, ◌≢◌, ◌⊎◌, ◌∷◌, ◌++◌, ℕ, Bool, true, false, List, [], Option, Some, None, option_map, slice_get, refl, sym, subst, ap, ◌∙◌, inl, inr, arith}
use Rattle.std.proofs.lemmas.Bool.{false≢true}
use Rattle.std.proofs.lemmas.Option.{none-some, same_Some}
use Rattle.pr_api.specs.Entries.{call_entry}
use Rattle.pr_api.specs.Shapes.{is_failure}
use Rattle.pr_model.specs.Legal.{IsLegal, state_after}
use Rattle.pr_model.specs.Replies.{number_of}
use Rattle.pr_model.specs.State.{TracedState}
use Rattle.pr_model.specs.declared.calls.Call.{Call}
use Rattle.pr_model.specs.declared.calls.Call.TheVariants as call
use Rattle.pr_model.specs.declared.calls.Reply.{Reply}
use Rattle.pr_model.specs.declared.calls.Reply.TheVariants as reply
use Rattle.pr_model.specs.declared.events.Entry.{Entry}
use Rattle.pr_num.specs.Layout.{text_base}
use Rattle.pr_num.specs.Limits.{read_limit}
use Rattle.pr_num.specs.Messages.{spelling}
use Rattle.pr_num.specs.declared.errnos.Errno.{Errno}
use Rattle.pr_num.specs.declared.messages.Message.TheVariants as message
use Rattle.pr_probe.proofs.FedLemmas.{advanced-kept, answer-by, ended-closes, fed-by, kind-kept, map-by, next-kept, poll-by, refusal-counts, run-next-by}
use Rattle.pr_probe.specs.AgentCode.{agent_registers}
use Rattle.pr_probe.specs.DescriptorLines.{kind_in}
use Rattle.pr_probe.specs.ProbeStages.{asking_after, file_of, is_passed_over, lwp_of, mode_of, place_of, stage_after, stage_opened, way_out, way_out_of_trace}
use Rattle.pr_probe.specs.Probes.{ProbeState, accepted, advanced, asking_accepted, asking_call, at_stage, call_of, fed, first_probe, has_ended, next_call_of, refusal_in, refused, with_kind, with_next, with_run_next, with_status}
use Rattle.pr_probe.specs.TracedSets.{kind_after}
use Rattle.pr_probe.specs.declared.probe_stages.AskingStep.TheVariants.{SetRegisters, Run as RunAgent, Await, ReadAgent, ReadKind}
use Rattle.pr_probe.specs.declared.probe_stages.ProbeFile.TheVariants.{Control, Status, Lstatus, Map, AgentControl, AgentStatus}
use Rattle.pr_probe.specs.declared.probe_stages.ProbeStage.{ProbeStage}
use Rattle.pr_probe.specs.declared.probe_stages.ProbeStage.TheVariants as stage
use Rattle.pr_probe.specs.declared.traced_sets.SetKind.TheVariants.{Signals, Faults, Entries, Exits}
use Rattle.pr_tool_laws.proofs.RunningAgain.LookLemmas.{HasNoted, looks, noted-still}
use Rattle.pr_tool_laws.proofs.Stages.ProtocolLemmas.{KeptByCalls, KeptByOthers, own-keeps}
use Rattle.pr_tool_laws.proofs.RunningAgain.NoRunLemmas.{is_message}
use Rattle.pr_tool_laws.proofs.RunningAgain.RequestLemmas.{asks-push, other-asks, run-asks, stop-asks}
use Rattle.pr_tool_laws.proofs.Sending.SentStages.{exchange, others-made, own-made}
use Rattle.pr_tool_laws.proofs.Stages.ToolLemmas.{place-still}
use Rattle.pr_tool_laws.specs.Leaving.{SendsTo}
use Rattle.pr_reached.specs.HistoriesInRange.{StaysInRange}
use Rattle.pr_tool_laws.specs.Runs.{IsRunOf}
use Rattle.pr_tool_laws.specs.Requests.{asks_after, asks_still}
use Rattle.pr_tool_laws.specs.Stacks.{HasLooked}
use Rattle.pr_tools.specs.Calls.{run_bytes, stop_bytes}
use Rattle.pr_tools.specs.Handles.{last_open}
use Rattle.pr_tools.specs.Replies.{bytes_read}
use Rattle.pr_tools.specs.Stacks.{process_stands}
use Rattle.pr_truss_laws.specs.Exchanges.{Exchange, exchanges}
use Rattle.pr_world.specs.Controllers.{after_reply, next_call}
use Rattle.pr_world.specs.ControllerStates.{ControllerState, Probe}
use Rattle.pr_world.specs.Protocol.{controllers_at}
use Rattle.pr_probe_laws.proofs.Files.FilePlaces.{HasFirst, held_of}
use Rattle.pr_probe_laws.proofs.Files.OwnCallRows as rows
use Rattle.pr_probe_laws.proofs.Files.OwnFiles.{needs}
use Rattle.pr_probe_laws.proofs.PuttingBack.ProbeCalls.{asked-next, granted}
use Rattle.pr_probe_laws.specs.TakesBack.{TakesBack}

-- An apfiles that was refused before it made an agent has taken back its request to stop, unless every lwp stood.

-- ---- what is so at a stage

-- Before the request there is none. Until the agent is made nothing is said; from then on that it was. Who closes has
-- taken the request back, or every lwp stood, or the agent was made.
unfoldable AtStage : Bool → Type 0 → Bool → ProbeStage → Type 0
AtStage asks M stood (stage.Open Control) = asks ≡ false
AtStage asks M stood (stage.Open Status) = asks ≡ false
AtStage asks M stood (stage.Open Lstatus) = asks ≡ false
AtStage asks M stood (stage.Open Map) = asks ≡ false
AtStage asks M stood stage.ReadFirst = asks ≡ false
AtStage asks M stood stage.Stop = asks ≡ false
AtStage asks M stood stage.AwaitStop = Unit {0}
AtStage asks M stood stage.ReadStatus = Unit {0}
AtStage asks M stood stage.ReadMap = Unit {0}
AtStage asks M stood stage.SaveCode = Unit {0}
AtStage asks M stood stage.SaveStack = Unit {0}
AtStage asks M stood (stage.Trace kind) = Unit {0}
AtStage asks M stood stage.MakeAgent = Unit {0}
AtStage asks M stood (stage.Restore kind) = Unit {0}
AtStage asks M stood stage.Release = Unit {0}
AtStage asks M stood stage.Close = (asks ≡ false) ⊎ ((stood ≡ true) ⊎ M)
AtStage asks M stood _ = M

abbrev AtNow : Bool → Type 0 → ProbeState → Type 0
AtNow asks M p = AtStage asks M p.stood p.stage

-- a process that did not stand is released
release-next : (asks : Bool) (M : Type 0) (u : ProbeState) → AtNow asks M (with_run_next u stage.Release)
unfolding AtStage
release-next asks M u =
    run-next-by (AtNow asks M) u stage.Release (λ stood. inr (inl stood)) (λ going. tt)

at-still : (asks : Bool) (M N : Type 0) → (M → N) → (stood : Bool) (g : ProbeStage) → AtStage asks M stood g
    → AtStage asks N stood g
unfolding AtStage
at-still asks M N on stood (stage.Open Control) so = so
at-still asks M N on stood (stage.Open Status) so = so
at-still asks M N on stood (stage.Open Lstatus) so = so
at-still asks M N on stood (stage.Open Map) so = so
at-still asks M N on stood (stage.Open AgentControl) so = on so
at-still asks M N on stood (stage.Open AgentStatus) so = on so
at-still asks M N on stood stage.ReadFirst so = so
at-still asks M N on stood stage.Stop so = so
at-still asks M N on stood stage.AwaitStop so = tt
at-still asks M N on stood stage.ReadStatus so = tt
at-still asks M N on stood stage.ReadMap so = tt
at-still asks M N on stood stage.SaveCode so = tt
at-still asks M N on stood stage.SaveStack so = tt
at-still asks M N on stood (stage.Trace kind) so = tt
at-still asks M N on stood stage.MakeAgent so = tt
at-still asks M N on stood (stage.Restore kind) so = tt
at-still asks M N on stood stage.Release so = tt
at-still asks M N on stood stage.Close (inl asked) = inl asked
at-still asks M N on stood stage.Close (inr (inl stands)) = inr (inl stands)
at-still asks M N on stood stage.Close (inr (inr made)) = inr (inr (on made))
at-still asks M N on stood _ so = on so

module _ (c : Call) (r : Reply) (asks : Bool) (M N : Type 0) (on : M → N) where
  abbrev later : Bool
  later = asks_after asks c r

  -- a call that is no message
  other : (d : Call) → Some d ≡ Some c → is_message d ≡ false → later ≡ asks
  other d same plain = other-asks asks c r (ap is_message (sym (same_Some d c same)) ∙ plain)

  close-other : (o : Option ℕ) → option_map call.Close o ≡ Some c → later ≡ asks
  close-other None same = absurd (none-some c same)
  close-other (Some number) same = other (call.Close number) same refl

  -- PCRUN
  run-later : (handle : ℕ) → Some (call.Ctl handle run_bytes) ≡ Some c → later ≡ false
  run-later handle same =
      ap (λ (d : Call). asks_after asks d r) (sym (same_Some (call.Ctl handle run_bytes) c same))
      ∙ run-asks asks handle r

  -- PCSTOP that is refused
  stop-later : (handle : ℕ) (e : Errno) → r ≡ reply.Fail e → Some (call.Ctl handle stop_bytes) ≡ Some c → later ≡ asks
  stop-later handle e is same =
      ap (λ (d : Call). asks_after asks d r) (sym (same_Some (call.Ctl handle stop_bytes) c same))
      ∙ ap (asks_after asks (call.Ctl handle stop_bytes)) is ∙ stop-asks asks handle e

  abbrev Next : ProbeState → Type 0
  Next u = AtNow later N u

  refused-at : (p : ProbeState) (g : ProbeStage) → AtStage asks M p.stood g → call_of (at_stage p g) g ≡ Some c
      → (e : Errno) → is_passed_over g e ≡ false → r ≡ reply.Fail e → (q : ProbeState) → q.stood ≡ p.stood
      → Next (with_next q (way_out g))
  unfolding AtStage call_of asking_call with_next way_out way_out_of_trace is_passed_over
  refused-at p (stage.Open Control) so same e counts is q stood = inl (other _ same refl ∙ so)
  refused-at p (stage.Open Status) so same e counts is q stood = inl (other _ same refl ∙ so)
  refused-at p (stage.Open Lstatus) so same e counts is q stood = inl (other _ same refl ∙ so)
  refused-at p (stage.Open Map) so same e counts is q stood = inl (other _ same refl ∙ so)
  refused-at p (stage.Open AgentControl) so same e counts is q stood = inr (inr (on so))
  refused-at p (stage.Open AgentStatus) so same e counts is q stood = inr (inr (on so))
  refused-at p stage.ReadFirst so same e counts is q stood = inl (other _ same refl ∙ so)
  refused-at p stage.Stop so same e counts is q stood = inl (stop-later _ e is same ∙ so)
  refused-at p stage.AwaitStop so same e counts is q stood = release-next later N q
  refused-at p stage.ReadStatus so same e counts is q stood = release-next later N q
  refused-at p stage.ReadMap so same e counts is q stood = release-next later N q
  refused-at p stage.SaveCode so same e counts is q stood = release-next later N q
  refused-at p stage.SaveStack so same e counts is q stood = release-next later N q
  refused-at p (stage.Trace Signals) so same e counts is q stood = release-next later N q
  refused-at p (stage.Trace Faults) so same e counts is q stood = tt
  refused-at p (stage.Trace Entries) so same e counts is q stood = tt
  refused-at p (stage.Trace Exits) so same e counts is q stood = tt
  refused-at p stage.MakeAgent so same e counts is q stood = tt
  refused-at p (stage.Restore kind) so same e counts is q stood = absurd (false≢true (sym counts))
  refused-at p stage.Release so same e counts is q stood = absurd (false≢true (sym counts))
  refused-at p stage.Close so same e counts is q stood = absurd (false≢true (sym counts))
  refused-at p _ so same e counts is q stood = inr (inr (on so))

  accepted-at : (p : ProbeState) (g : ProbeStage) → AtStage asks M p.stood g → call_of (at_stage p g) g ≡ Some c
      → (g ≡ stage.MakeAgent → ((e : Errno) → r ≢ reply.Fail e) → N) → refusal_in g r ≡ None
      → Next (accepted (at_stage p g) r g)
  unfolding AtStage call_of asking_call accepted asking_accepted advanced with_next with_status stage_after stage_opened
      asking_after kind_after refused is_passed_over way_out
  accepted-at p (stage.Open Control) so same made right = other _ same refl ∙ so
  accepted-at p (stage.Open Status) so same made right = other _ same refl ∙ so
  accepted-at p (stage.Open Lstatus) so same made right = other _ same refl ∙ so
  accepted-at p (stage.Open Map) so same made right = other _ same refl ∙ so
  accepted-at p (stage.Open AgentControl) so same made right = on so
  accepted-at p (stage.Open AgentStatus) so same made right = on so
  accepted-at p stage.ReadFirst so same made right = other _ same refl ∙ so
  accepted-at p stage.Stop so same made right = tt
  accepted-at p stage.AwaitStop so same made right = tt
  accepted-at p stage.ReadStatus so same made right = tt
  accepted-at p stage.ReadMap so same made right =
      map-by Next (at_stage p stage.ReadMap) (bytes_read r)
      (λ e. release-next later N (record (at_stage p stage.ReadMap) { refusal = Some e })) tt
  accepted-at p stage.SaveCode so same made right = tt
  accepted-at p stage.SaveStack so same made right = tt
  accepted-at p (stage.Trace Signals) so same made right = tt
  accepted-at p (stage.Trace Faults) so same made right = tt
  accepted-at p (stage.Trace Entries) so same made right = tt
  accepted-at p (stage.Trace Exits) so same made right = tt
  accepted-at p stage.MakeAgent so same made right = made refl (granted stage.MakeAgent r (λ e. refl) right)
  accepted-at p (stage.Asking d Await) so same made right =
      poll-by Next (at_stage p (stage.Asking d Await)) r (on so) (on so)
  accepted-at p (stage.Asking d ReadAgent) so same made right =
      let q : ProbeState = at_stage p (stage.Asking d ReadAgent) in
      answer-by Next q d (bytes_read r) (on so)
      (asked-next (λ (h : ProbeStage). AtStage later N q.stood h) (λ f step. on so) (on so) d)
  accepted-at p (stage.Asking d ReadKind) so same made right =
      let q : ProbeState = with_kind (at_stage p (stage.Asking d ReadKind)) d (kind_in (bytes_read r)) in
      asked-next (λ (h : ProbeStage). AtStage later N q.stood h) (λ f step. on so) (on so) d
  accepted-at p (stage.Asking d SetRegisters) so same made right = on so
  accepted-at p (stage.Asking d RunAgent) so same made right = on so
  accepted-at p stage.AwaitExit so same made right = poll-by Next (at_stage p stage.AwaitExit) r (on so) (on so)
  accepted-at p (stage.Retrace Signals) so same made right = on so
  accepted-at p (stage.Retrace Faults) so same made right = on so
  accepted-at p (stage.Retrace Entries) so same made right = on so
  accepted-at p (stage.Retrace Exits) so same made right =
      run-next-by Next (at_stage p (stage.Retrace Exits)) stage.Run (λ stood. inr (inr (on so))) (λ going. on so)
  accepted-at p stage.Run so same made right = inr (inr (on so))
  accepted-at p (stage.Restore Signals) so same made right = tt
  accepted-at p (stage.Restore Faults) so same made right = tt
  accepted-at p (stage.Restore Entries) so same made right = tt
  accepted-at p (stage.Restore Exits) so same made right = release-next later N (at_stage p (stage.Restore Exits))
  accepted-at p stage.Release so same made right = inl (run-later _ same)
  accepted-at p stage.Close (inl asked) same made right = inl (close-other (last_open p.opened) same ∙ asked)
  accepted-at p stage.Close (inr (inl stands)) same made right = inr (inl stands)
  accepted-at p stage.Close (inr (inr has)) same made right = inr (inr (on has))
  accepted-at p _ so same made right = on so

  fed-at : (p : ProbeState) → next_call_of p ≡ Some c
      → (p.stage ≡ stage.MakeAgent → ((e : Errno) → r ≢ reply.Fail e) → N) → AtNow asks M p → Next (fed p r)
  unfolding refused next_call_of
  fed-at p next made so =
      fed-by Next p r
      (λ e is.
      let it = refusal-counts p.stage r e is in
      refused-at p p.stage so next e it.counts it.reply (record p { refusal = Some e }) refl)
      (λ right. accepted-at p p.stage so next made right)

-- ---- whether every lwp stood

abbrev is_first : ProbeStage → Bool
is_first stage.ReadFirst = true
is_first _ = false

-- it is noted at the first look alone
same-stood : (p : ProbeState) (g : ProbeStage) (r : Reply) → (g ≡ stage.ReadFirst → ⊥)
    → (accepted p r g).stood ≡ p.stood
unfolding accepted asking_accepted with_status refused
same-stood p stage.ReadFirst r apart = absurd (apart refl)
same-stood p stage.ReadMap r apart =
    map-by (λ u. u.stood ≡ p.stood) p (bytes_read r)
    (λ e. next-kept (λ t. t.stood) (λ t g. refl) (record p { refusal = Some e }) (way_out p.stage))
    (advanced-kept (λ t. t.stood) (λ t g. refl) p)
same-stood p (stage.Asking d Await) r apart =
    poll-by (λ u. u.stood ≡ p.stood) p r refl (advanced-kept (λ t. t.stood) (λ t g. refl) p)
same-stood p (stage.Asking d ReadAgent) r apart =
    answer-by (λ u. u.stood ≡ p.stood) p d (bytes_read r) refl refl
same-stood p (stage.Asking d ReadKind) r apart =
    kind-kept (λ t. t.stood) (λ t lines. refl) p d (kind_in (bytes_read r))
same-stood p (stage.Asking d SetRegisters) r apart = advanced-kept (λ t. t.stood) (λ t g. refl) _
same-stood p (stage.Asking d RunAgent) r apart = advanced-kept (λ t. t.stood) (λ t g. refl) _
same-stood p stage.AwaitExit r apart =
    poll-by (λ u. u.stood ≡ p.stood) p r refl (advanced-kept (λ t. t.stood) (λ t g. refl) p)
same-stood p stage.Close r apart = refl
same-stood p _ r apart = advanced-kept (λ t. t.stood) (λ t g. refl) _

-- ---- along a history

module _ (k pid : ℕ) (first : TracedState) where
  -- its agent was made
  record HasMade (h : List Entry) : Type 0 where
    before : List Entry
    call : Call
    reply_is : Reply
    after : List Entry
    place : h ≡ before ++ call_entry k call reply_is ∷ after
    sends : SendsTo k pid (message.Agent (agent_registers 0 text_base)) [] (state_after first before) call
    accepts : (e : Errno) → reply_is ≢ reply.Fail e

  made-still : (h : List Entry) (e : Entry) → HasMade h → HasMade (h ++ e ∷ [])
  made-still h e it = record {
    before = it.before;
    call = it.call;
    reply_is = it.reply_is;
    after = it.after ++ e ∷ [];
    place = place-still h it.before (call_entry k it.call it.reply_is) it.after e it.place;
    sends = it.sends;
    accepts = it.accepts;
  }

  abbrev asks_in : List Entry → Bool
  asks_in h = asks_still false (exchanges k h)

  -- what is so of it, refused or not
  record IsTaking (h : List Entry) (p : ProbeState) : Type 0 where
    asked : AtNow (asks_in h) (HasMade h) p
    noted : p.stood ≡ true → HasNoted k pid true first h

  module _ (h : List Entry) (c : Call) (r : Reply) (p : ProbeState) (next : next_call_of p ≡ Some c)
      (holds : HasFirst k pid (needs p.stage) (state_after first h).opens p.opened) where
    abbrev longer : List Entry
    longer = h ++ call_entry k c r ∷ []

    made-now : p.stage ≡ stage.MakeAgent → ((e : Errno) → r ≢ reply.Fail e) → HasMade longer
    unfolding next_call_of call_of needs place_of file_of lwp_of mode_of
    made-now at accepts =
        let its : call_of p stage.MakeAgent ≡ Some c = ap (call_of p) (sym at) ∙ next in
        let first_files : HasFirst k pid 4 (state_after first h).opens p.opened =
        subst (λ (g : ProbeStage). HasFirst k pid (needs g) (state_after first h).opens p.opened) at holds in
        let file = first_files.each Control (omega arith) in
        record {
          before = h;
          call = c;
          reply_is = r;
          after = [];
          place = refl;
          sends = record {
            handle = file.number;
            held = held_of k pid Control;
            sends =
                sym (same_Some _ c its)
                ∙ ap (λ (o : Option ℕ).
                call.Ctl (number_of o) (spelling (message.Agent (agent_registers 0 text_base)) [])) file.at;
            there = file.stands;
            of = refl;
            file = refl;
          };
          accepts = accepts;
        }

    noted-now : p.stage ≡ stage.ReadFirst → ((e : Errno) → r ≢ reply.Fail e) → process_stands (bytes_read r) ≡ true
        → HasNoted k pid true first longer
    unfolding next_call_of call_of needs place_of file_of lwp_of mode_of
    noted-now at accepts stood =
        let its : call_of p stage.ReadFirst ≡ Some c = ap (call_of p) (sym at) ∙ next in
        let first_files : HasFirst k pid 4 (state_after first h).opens p.opened =
        subst (λ (g : ProbeStage). HasFirst k pid (needs g) (state_after first h).opens p.opened) at holds in
        let file = first_files.each Lstatus (omega arith) in
        record {
          before = h;
          call = c;
          reply = r;
          after = [];
          place = refl;
          handle = file.number;
          is_read =
              sym (same_Some _ c its) ∙ ap (λ (o : Option ℕ). call.Read (number_of o) 0 read_limit) file.at;
          there = file.stands;
          granted = accepts;
          noted = stood;
        }

    -- an entry later
    noted-on : (p.stood ≡ true → HasNoted k pid true first h) → (fed p r).stood ≡ true
        → HasNoted k pid true first longer
    unfolding refused accepted is_passed_over
    noted-on so =
        fed-by (λ u. u.stood ≡ true → HasNoted k pid true first longer) p r
        (λ e is stood.
        still
        (sym (next-kept (λ t. t.stood) (λ t g. refl) (record p { refusal = Some e }) (way_out p.stage)) ∙ stood))
        (λ right. of p.stage refl right)
      where
        still : p.stood ≡ true → HasNoted k pid true first longer
        still stood = noted-still k pid true first h (call_entry k c r) (so stood)

        of : (g : ProbeStage) → p.stage ≡ g → refusal_in g r ≡ None → (accepted p r g).stood ≡ true
            → HasNoted k pid true first longer
        of stage.ReadFirst at right stood =
            noted-now at (granted stage.ReadFirst r (λ e. refl) right)
            (sym (advanced-kept (λ t. t.stood) (λ t g. refl) (record p { stood = process_stands (bytes_read r) }))
            ∙ stood)
        of g at right stood =
            still (sym (same-stood p g r (λ same. false≢true (ap is_first same))) ∙ stood)

    taking-on : IsTaking h p → IsTaking longer (fed p r)
    taking-on so = record {
      asked =
          subst (λ (b : Bool). AtNow b (HasMade longer) (fed p r))
          (sym (ap (asks_still false) (own-made k h c r (exchanges k h) refl)
          ∙ asks-push false (exchanges k h) (exchange c r)))
          (fed-at c r (asks_in h) (HasMade h) (HasMade longer) (made-still h (call_entry k c r)) p next made-now
          so.asked);
      noted = noted-on so.noted;
    }

module _ (n k pid : ℕ) (first : TracedState) where
  Takes : List Entry → ControllerState → Type 0
  Takes h (Probe p) = rows.Owns n k pid first h (Probe p) × IsTaking k pid first h p
  Takes h _ = ⊥

  others-take : KeptByOthers n k first Takes
  unfolding Takes
  others-take h (Probe p) actor it legal other kept =
      let e : Entry = record { actor = actor; act = it } in (
        rows.others-owning n k pid first h (Probe p) actor it legal other kept.0,
        record {
          asked =
              subst (λ (xs : List Exchange). AtNow (asks_still false xs) (HasMade k pid first (h ++ e ∷ [])) p)
              (sym (others-made k h actor it (exchanges k h) other refl))
              (at-still (asks_in k pid first h) (HasMade k pid first h) (HasMade k pid first (h ++ e ∷ []))
              (made-still k pid first h e) p.stood p.stage kept.1.asked);
          noted = λ stood. noted-still k pid true first h e (kept.1.noted stood);
        },
      )
  others-take h _ actor it legal other kept = absurd kept

  calls-take : KeptByCalls n k first Takes
  unfolding Takes rows.Owns next_call after_reply
  calls-take h (Probe p) c a next given kept = (
    rows.calls-owning n k pid first h (Probe p) c a next given kept.0,
    taking-on k pid first h c a.reply p next kept.0.1.owns.holds kept.1,
  )
  calls-take h _ c a next given kept = absurd kept

  begins : IsTaking k pid first [] (first_probe pid)
  unfolding first_probe AtStage exchanges
  begins = record { asked = refl; noted = λ is. absurd (false≢true is) }

  -- who closes, and made no agent
  closes-so : (h : List Entry) (p : ProbeState) → p.stage ≡ stage.Close → IsTaking k pid first h p
      → StaysInRange first h → IsLegal n first h → TakesBack k pid first h
  unfolding AtStage
  closes-so h p closing it stays legal none =
      by (subst (AtStage (asks_in k pid first h) (HasMade k pid first h) p.stood) closing it.asked)
    where
      denied : (r : Reply) → is_failure r ≡ true → ((e : Errno) → r ≢ reply.Fail e) → ⊥
      denied (reply.Fail e) is accepts = accepts e refl
      denied _ is accepts = false≢true is

      by : (asks_in k pid first h ≡ false) ⊎ ((p.stood ≡ true) ⊎ HasMade k pid first h)
          → (asks_in k pid first h ≡ false) ⊎ HasLooked k pid true first h
      by (inl asked) = inl asked
      by (inr (inl stood)) =
          inr (looks n k pid true first h stays.lawful stays.in_range stays.bytes legal (it.noted stood)
          (λ es. Unit {0}) tt).0
      by (inr (inr m)) =
          absurd (denied m.reply_is
          (none.each m.before m.after m.call m.reply_is (agent_registers 0 text_base) m.place m.sends) m.accepts)

-- In the end it has done so, unless it made an agent.
pub probe-takes-back : (controllers : List ControllerState) (n k pid : ℕ) (s : TracedState) (h : List Entry)
    (p : ProbeState) → StaysInRange s h → IsRunOf n k (Probe (first_probe pid)) controllers s h
    → slice_get (controllers_at controllers h) k ≡ Some (Probe p) → has_ended p ≡ true → TakesBack k pid s h
unfolding Takes
probe-takes-back controllers n k pid s h p stays run ends ended =
    let kept =
    own-keeps n k s (Takes n k pid s) (others-take n k pid s) (calls-take n k pid s) controllers h
    (Probe (first_probe pid)) (Probe p) run ends (rows.first-owning n k pid s, begins n k pid s) in
    closes-so n k pid s h p (ended-closes p ended) kept.1 stays run.legal
