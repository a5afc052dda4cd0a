use Rattle.std.proofs.Common.{◌≡◌, ◌⊎◌, ◌-◌, ◌+◌, ◌∷◌, ◌++◌, ℕ, Bool, true, false, cond, List, [], Option, Some, None, nat_lt, option_map, slice_get, refl, sym, ap, ◌∙◌, inl, inr, arith}
use Rattle.std.proofs.lemmas.Bool.{false≢true}
use Rattle.std.proofs.lemmas.Option.{none-some, same_Some}
use Rattle.pr_api.specs.Entries.{call_entry}
use Rattle.pr_model.specs.Handles.{handle_of as handle_in}
use Rattle.pr_model.specs.Legal.{state_after}
use Rattle.pr_model.specs.Replies.{number_of}
use Rattle.pr_model.specs.State.{TracedState}
use Rattle.pr_model.specs.declared.calls.Call.{Call}
use Rattle.pr_model.specs.declared.calls.Call.TheVariants as call
use Rattle.pr_model.specs.declared.calls.File.TheVariants as file
use Rattle.pr_model.specs.declared.calls.Reply.{Reply}
use Rattle.pr_model.specs.declared.events.Entry.{Entry}
use Rattle.pr_model.specs.declared.handles.Held.{Held}
use Rattle.pr_num.specs.Limits.{descriptor_limit}
use Rattle.pr_num.specs.Messages.{message_code, spelling}
use Rattle.pr_num.specs.Words.{word_bytes}
use Rattle.pr_num.specs.declared.messages.Message.TheVariants as message
use Rattle.pr_probe.proofs.FedLemmas.{answer-by, fed-by, kind-kept, map-by, poll-by, run-next-by}
use Rattle.pr_probe.specs.DescriptorLines.{kind_in}
use Rattle.pr_probe.specs.ProbeStages.{asking_after, file_of, lwp_of, mode_of, place_of, stage_after, stage_asked, stage_opened, way_out, way_out_of_trace}
use Rattle.pr_probe.specs.Probes.{ProbeState, accepted, advanced, asking_accepted, asking_call, at_stage, call_of, fed, first_probe, next_call_of, refused, with_kind, with_next, with_run_next, with_status}
use Rattle.pr_probe.specs.TracedSets.{kind_after, trace_message}
use Rattle.pr_probe.specs.declared.probe_stages.AskingStep.TheVariants.{SetRegisters, Run as RunAgent, Await, ReadAgent, ReadKind}
use Rattle.pr_probe.specs.declared.probe_stages.ProbeFile.TheVariants.{Control, Status, Lstatus, Map, AgentControl, AgentStatus}
use Rattle.pr_probe.specs.declared.probe_stages.ProbeStage.{ProbeStage}
use Rattle.pr_probe.specs.declared.probe_stages.ProbeStage.TheVariants as stage
use Rattle.pr_probe.specs.declared.traced_sets.SetKind.{SetKind}
use Rattle.pr_probe.specs.declared.traced_sets.SetKind.TheVariants.{Signals, Faults, Entries, Exits}
use Rattle.pr_tool_laws.proofs.Stages.ProtocolLemmas.{KeptByCalls, KeptByOthers, own-keeps}
use Rattle.pr_tool_laws.specs.Runs.{IsRunOf}
use Rattle.pr_tools.specs.Handles.{handle_at, last_open}
use Rattle.pr_tools.specs.Replies.{bytes_read}
use Rattle.pr_world.specs.Controllers.{after_reply, next_call}
use Rattle.pr_world.specs.ControllerStates.{ControllerState, Probe}
use Rattle.pr_world.specs.Protocol.{controllers_at}
use Rattle.pr_probe_laws.proofs.Files.FilePlaces.{HasFirst, held_of}
use Rattle.pr_probe_laws.proofs.Files.OwnCallRows as rows
use Rattle.pr_probe_laws.proofs.Files.OwnFiles.{needs}
use Rattle.pr_probe_laws.proofs.Sets.SetStages.{others-call}
use Rattle.pr_tool_laws.proofs.RunningAgain.NoRunLemmas.{IsNoRun, another, call-none, no-message, nobody-yet, runs-nobody-on}
use Rattle.pr_tool_laws.specs.Leaving.{RunsNobody}

-- An apfiles that found every lwp standing runs its process never.

-- ---- the stages

-- whether a stage runs the process
abbrev is_run : ProbeStage → Bool
is_run stage.Run = true
is_run stage.Release = true
is_run _ = false

-- whether a stage comes before the first look at the process is noted
abbrev is_coming : ProbeStage → Bool
is_coming (stage.Open Control) = true
is_coming (stage.Open Status) = true
is_coming (stage.Open Lstatus) = true
is_coming (stage.Open Map) = true
is_coming stage.ReadFirst = true
is_coming _ = false

-- What comes after a stage: before the first look only what came before it, and the process is run only where not every
-- lwp stood. Whether every one stood is noted at the first look alone.
record Follows (p u : ProbeState) : Type 0 where
  coming : is_coming u.stage ≡ true → is_coming p.stage ≡ true
  runs : is_run u.stage ≡ true → u.stood ≡ false
  noted : (is_coming p.stage ≡ true) ⊎ (u.stood ≡ p.stood)

-- it goes to a stage that neither comes before the look nor runs the process
further : (p u : ProbeState) → is_coming u.stage ≡ false → is_run u.stage ≡ false
    → (is_coming p.stage ≡ true) ⊎ (u.stood ≡ p.stood) → Follows p u
further p u not_coming not_run noted = record {
  coming = λ is. absurd (false≢true (sym not_coming ∙ is));
  runs = λ is. absurd (false≢true (sym not_run ∙ is));
  noted = noted;
}

-- or runs it, unless it stood
run-follows : (p s : ProbeState) (run : ProbeStage) → is_coming run ≡ false
    → (is_coming p.stage ≡ true) ⊎ (s.stood ≡ p.stood) → Follows p (with_run_next s run)
run-follows p s run not_coming noted =
    run-next-by (Follows p) s run (λ stood. further p (at_stage s stage.Close) refl refl noted)
    (λ going. record {
      coming = λ is. absurd (false≢true (sym not_coming ∙ is));
      runs = λ is. going;
      noted = noted;
    })

out-follows : (p s : ProbeState) (g : ProbeStage) → (is_coming p.stage ≡ true) ⊎ (s.stood ≡ p.stood)
    → Follows p (with_next s (way_out g))
unfolding way_out way_out_of_trace with_next
out-follows p s stage.AwaitStop noted = run-follows p s stage.Release refl noted
out-follows p s stage.ReadStatus noted = run-follows p s stage.Release refl noted
out-follows p s stage.ReadMap noted = run-follows p s stage.Release refl noted
out-follows p s stage.SaveCode noted = run-follows p s stage.Release refl noted
out-follows p s stage.SaveStack noted = run-follows p s stage.Release refl noted
out-follows p s (stage.Trace Signals) noted = run-follows p s stage.Release refl noted
out-follows p s (stage.Trace Faults) noted = further p (at_stage s (stage.Restore Signals)) refl refl noted
out-follows p s (stage.Trace Entries) noted = further p (at_stage s (stage.Restore Signals)) refl refl noted
out-follows p s (stage.Trace Exits) noted = further p (at_stage s (stage.Restore Signals)) refl refl noted
out-follows p s stage.MakeAgent noted = further p (at_stage s (stage.Restore Signals)) refl refl noted
out-follows p s _ noted = further p (at_stage s stage.Close) refl refl noted

asked-follows : (p s : ProbeState) (d : ℕ) → s.stood ≡ p.stood → Follows p (at_stage s (stage_asked d))
unfolding stage_asked
asked-follows p s d same = by (nat_lt d (descriptor_limit - 1))
  where
    by : (b : Bool)
        → Follows p (at_stage s (cond b (stage.Asking (d + 1) SetRegisters) stage.UntraceExits))
    by true = further p (at_stage s (stage.Asking (d + 1) SetRegisters)) refl refl (inr same)
    by false = further p (at_stage s stage.UntraceExits) refl refl (inr same)

-- before the look it goes on to a stage before the look
comes-on : (p u : ProbeState) → is_coming p.stage ≡ true → is_run u.stage ≡ false → Follows p u
comes-on p u coming not_run = record {
  coming = λ is. coming;
  runs = λ is. absurd (false≢true (sym not_run ∙ is));
  noted = inl coming;
}

next-follows : (p : ProbeState) (g : ProbeStage) (r : Reply) → Follows (at_stage p g) (accepted (at_stage p g) r g)
unfolding refused accepted asking_accepted advanced with_next with_status stage_after stage_opened asking_after
    kind_after
next-follows p (stage.Open Control) r = comes-on _ _ refl refl
next-follows p (stage.Open Status) r = comes-on _ _ refl refl
next-follows p (stage.Open Lstatus) r = comes-on _ _ refl refl
next-follows p (stage.Open Map) r = comes-on _ _ refl refl
next-follows p (stage.Open AgentControl) r = further _ _ refl refl (inr refl)
next-follows p (stage.Open AgentStatus) r = further _ _ refl refl (inr refl)
next-follows p stage.ReadFirst r = comes-on _ _ refl refl
next-follows p stage.ReadMap r =
    map-by (Follows (at_stage p stage.ReadMap)) (at_stage p stage.ReadMap) (bytes_read r)
    (λ e.
    out-follows (at_stage p stage.ReadMap) (record (at_stage p stage.ReadMap) { refusal = Some e }) stage.ReadMap
    (inr refl))
    (further _ _ refl refl (inr refl))
next-follows p (stage.Trace Signals) r = further _ _ refl refl (inr refl)
next-follows p (stage.Trace Faults) r = further _ _ refl refl (inr refl)
next-follows p (stage.Trace Entries) r = further _ _ refl refl (inr refl)
next-follows p (stage.Trace Exits) r = further _ _ refl refl (inr refl)
next-follows p (stage.Asking d SetRegisters) r = further _ _ refl refl (inr refl)
next-follows p (stage.Asking d RunAgent) r = further _ _ refl refl (inr refl)
next-follows p (stage.Asking d Await) r =
    poll-by (Follows (at_stage p (stage.Asking d Await))) (at_stage p (stage.Asking d Await)) r
    (further _ _ refl refl (inr refl)) (further _ _ refl refl (inr refl))
next-follows p (stage.Asking d ReadAgent) r =
    answer-by (Follows (at_stage p (stage.Asking d ReadAgent))) (at_stage p (stage.Asking d ReadAgent)) d
    (bytes_read r) (further _ _ refl refl (inr refl))
    (asked-follows (at_stage p (stage.Asking d ReadAgent)) (at_stage p (stage.Asking d ReadAgent)) d refl)
next-follows p (stage.Asking d ReadKind) r =
    asked-follows (at_stage p (stage.Asking d ReadKind))
    (with_kind (at_stage p (stage.Asking d ReadKind)) d (kind_in (bytes_read r))) d
    (kind-kept (λ t. t.stood) (λ t lines. refl) (at_stage p (stage.Asking d ReadKind)) d (kind_in (bytes_read r)))
next-follows p stage.AwaitExit r =
    poll-by (Follows (at_stage p stage.AwaitExit)) (at_stage p stage.AwaitExit) r (further _ _ refl refl (inr refl))
    (further _ _ refl refl (inr refl))
next-follows p (stage.Retrace Signals) r = further _ _ refl refl (inr refl)
next-follows p (stage.Retrace Faults) r = further _ _ refl refl (inr refl)
next-follows p (stage.Retrace Entries) r = further _ _ refl refl (inr refl)
next-follows p (stage.Retrace Exits) r =
    run-follows (at_stage p (stage.Retrace Exits)) (at_stage p (stage.Retrace Exits)) stage.Run refl (inr refl)
next-follows p (stage.Restore Signals) r = further _ _ refl refl (inr refl)
next-follows p (stage.Restore Faults) r = further _ _ refl refl (inr refl)
next-follows p (stage.Restore Entries) r = further _ _ refl refl (inr refl)
next-follows p (stage.Restore Exits) r =
    run-follows (at_stage p (stage.Restore Exits)) (at_stage p (stage.Restore Exits)) stage.Release refl (inr refl)
next-follows p _ r = further _ _ refl refl (inr refl)

fed-follows : (p : ProbeState) (r : Reply) → Follows p (fed p r)
unfolding refused
fed-follows p r =
    fed-by (Follows p) p r (λ e is. out-follows p (record p { refusal = Some e }) p.stage (inr refl))
    (λ right. next-follows p p.stage r)

-- ---- the messages

module _ (k pid : ℕ) (s : TracedState) (c : Call) where
  sets : (to : ℕ) (kind : SetKind) (word : ℕ)
      → Some (call.Ctl to (spelling (trace_message kind word) [])) ≡ Some c → IsNoRun k pid s c
  unfolding trace_message message_code word_bytes
  sets to Signals word same = another k pid s c to _ same refl
  sets to Faults word same = another k pid s c to _ same refl
  sets to Entries word same = another k pid s c to _ same refl
  sets to Exits word same = another k pid s c to _ same refl

  module _ (p : ProbeState) where
    -- what goes to the agent's file goes to no control file of the process
    to-agent : HasFirst k pid 6 s.opens p.opened → (bytes : List ℕ)
        → Some (call.Ctl (number_of (handle_at p.opened (place_of AgentControl))) bytes) ≡ Some c → IsNoRun k pid s c
    unfolding place_of file_of lwp_of mode_of
    to-agent holds bytes same flags tail it =
        let its = holds.each AgentControl (omega arith) in
        let calls : call.Ctl (number_of (handle_at p.opened (place_of AgentControl))) bytes
        ≡ call.Ctl it.handle (spelling (message.Run flags) tail) = same_Some _ c same ∙ it.sends in
        let number : number_of (handle_at p.opened (place_of AgentControl)) ≡ it.handle = cc in
        let is : its.number ≡ it.handle = sym (ap number_of its.at) ∙ number in
        let both : Some (held_of k pid AgentControl) ≡ Some it.held =
        sym its.stands ∙ ap (handle_in s.opens k) is ∙ it.there in
        let files : file.Lwpctl ≡ file.Ctl =
        ap (λ (x : Held). x.file) (same_Some (held_of k pid AgentControl) it.held both) ∙ it.file in
        absurd cc

    shuts : (o : Option ℕ) → option_map call.Close o ≡ Some c → IsNoRun k pid s c
    shuts None same = absurd (none-some c same)
    shuts (Some number) same = no-message k pid s c (call.Close number) same refl

    no-run : (g : ProbeStage) → is_run g ≡ false → HasFirst k pid (needs g) s.opens p.opened
        → call_of p g ≡ Some c → IsNoRun k pid s c
    unfolding needs call_of asking_call message_code word_bytes
    no-run (stage.Open f) still holds same = no-message k pid s c _ same refl
    no-run stage.ReadFirst still holds same = no-message k pid s c _ same refl
    no-run stage.Stop still holds same = another k pid s c _ _ same refl
    no-run stage.AwaitStop still holds same = no-message k pid s c _ same refl
    no-run stage.ReadStatus still holds same = no-message k pid s c _ same refl
    no-run stage.ReadMap still holds same = no-message k pid s c _ same refl
    no-run stage.SaveCode still holds same = another k pid s c _ _ same refl
    no-run stage.SaveStack still holds same = another k pid s c _ _ same refl
    no-run (stage.Trace kind) still holds same = sets _ kind _ same
    no-run stage.MakeAgent still holds same = another k pid s c _ _ same refl
    no-run stage.PlantCode still holds same = another k pid s c _ _ same refl
    no-run (stage.Asking d SetRegisters) still holds same = to-agent holds _ same
    no-run (stage.Asking d RunAgent) still holds same = to-agent holds _ same
    no-run (stage.Asking d Await) still holds same = no-message k pid s c _ same refl
    no-run (stage.Asking d ReadAgent) still holds same = no-message k pid s c _ same refl
    no-run (stage.Asking d ReadKind) still holds same = another k pid s c _ _ same refl
    no-run stage.UntraceExits still holds same = sets _ Exits _ same
    no-run stage.SetExit still holds same = to-agent holds _ same
    no-run stage.RunExit still holds same = to-agent holds _ same
    no-run stage.AwaitExit still holds same = no-message k pid s c _ same refl
    no-run stage.WriteCode still holds same = another k pid s c _ _ same refl
    no-run stage.WriteStack still holds same = another k pid s c _ _ same refl
    no-run (stage.Retrace kind) still holds same = sets _ kind _ same
    no-run (stage.Restore kind) still holds same = sets _ kind _ same
    no-run stage.Close still holds same = shuts (last_open p.opened) same
    no-run _ still holds same = absurd (false≢true (sym still))

-- ---- an entry later

module _ (k pid : ℕ) (first : TracedState) where
  -- where every lwp stood it has run nobody
  record IsLetting (h : List Entry) (p : ProbeState) : Type 0 where
    comes : is_coming p.stage ≡ true → RunsNobody k pid first h
    lets : p.stood ≡ true → RunsNobody k pid first h
    runs : is_run p.stage ≡ true → p.stood ≡ false

  letting-on : (h : List Entry) (c : Call) (r : Reply) (p : ProbeState) → next_call_of p ≡ Some c
      → HasFirst k pid (needs p.stage) (state_after first h).opens p.opened → IsLetting h p
      → IsLetting (h ++ call_entry k c r ∷ []) (fed p r)
  unfolding next_call_of
  letting-on h c r p next holds so = record {
    comes = λ coming. more (coming-still (follows.coming coming)) (so.comes (follows.coming coming));
    lets = λ stood. by stood follows.noted;
    runs = follows.runs;
  }
    where
      follows : Follows p (fed p r)
      follows = fed-follows p r

      coming-still : is_coming p.stage ≡ true → is_run p.stage ≡ false
      coming-still coming = of p.stage coming
        where
          of : (g : ProbeStage) → is_coming g ≡ true → is_run g ≡ false
          of stage.Run is = absurd (false≢true is)
          of stage.Release is = absurd (false≢true is)
          of _ is = refl

      standing-still : p.stood ≡ true → is_run p.stage ≡ false
      standing-still stood = of (is_run p.stage) refl
        where
          of : (b : Bool) → is_run p.stage ≡ b → is_run p.stage ≡ false
          of true is = absurd (false≢true (sym (so.runs is) ∙ stood))
          of false is = is

      more : is_run p.stage ≡ false → RunsNobody k pid first h → RunsNobody k pid first (h ++ call_entry k c r ∷ [])
      more still nobody =
          runs-nobody-on k pid first h (call_entry k c r)
          (call-none k pid first h c r (no-run k pid (state_after first h) c p p.stage still holds next)) nobody

      by : (fed p r).stood ≡ true → (is_coming p.stage ≡ true) ⊎ ((fed p r).stood ≡ p.stood)
          → RunsNobody k pid first (h ++ call_entry k c r ∷ [])
      by stood (inl coming) = more (coming-still coming) (so.comes coming)
      by stood (inr same) = let was : p.stood ≡ true = sym same ∙ stood in more (standing-still was) (so.lets was)

-- ---- along a history

module _ (n k pid : ℕ) (first : TracedState) where
  Lets : List Entry → ControllerState → Type 0
  Lets h (Probe p) = rows.Owns n k pid first h (Probe p) × IsLetting k pid first h p
  Lets h _ = ⊥

  others-let : KeptByOthers n k first Lets
  unfolding Lets
  others-let h (Probe p) actor it legal other kept =
      let e : Entry = record { actor = actor; act = it } in
      let on = runs-nobody-on k pid first h e (λ c r is. absurd (others-call k pid first actor it other c r is)) in (
        rows.others-owning n k pid first h (Probe p) actor it legal other kept.0,
        record {
          comes = λ coming. on (kept.1.comes coming);
          lets = λ stood. on (kept.1.lets stood);
          runs = kept.1.runs;
        },
      )
  others-let h _ actor it legal other kept = absurd kept

  calls-let : KeptByCalls n k first Lets
  unfolding Lets rows.Owns next_call after_reply
  calls-let h (Probe p) c a next given kept = (
    rows.calls-owning n k pid first h (Probe p) c a next given kept.0,
    letting-on k pid first h c a.reply p next kept.0.1.owns.holds kept.1,
  )
  calls-let h _ c a next given kept = absurd kept

  begins : IsLetting k pid first [] (first_probe pid)
  unfolding first_probe
  begins = record {
    comes = λ coming. nobody-yet k pid first;
    lets = λ stood. nobody-yet k pid first;
    runs = λ is. absurd (false≢true is);
  }

-- at any time
pub lets-be : (controllers : List ControllerState) (n k pid : ℕ) (s : TracedState) (h : List Entry) (p : ProbeState)
    → IsRunOf n k (Probe (first_probe pid)) controllers s h
    → slice_get (controllers_at controllers h) k ≡ Some (Probe p) → p.stood ≡ true → RunsNobody k pid s h
unfolding Lets
lets-be controllers n k pid s h p run ends stood =
    let kept =
    own-keeps n k s (Lets n k pid s) (others-let n k pid s) (calls-let n k pid s) controllers h
    (Probe (first_probe pid)) (Probe p) run ends (rows.first-owning n k pid s, begins n k pid s) in
    kept.1.lets stood
