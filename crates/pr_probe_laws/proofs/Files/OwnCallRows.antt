use Rattle.std.proofs.Common.{◌≡◌, ◌<◌, ◌∷◌, ℕ, true, false, List, [], Option, Some, None, length, option_map, slice_get, refl, sym, subst, ap, ◌∙◌, arith}
use Rattle.std.proofs.lemmas.Bool.{false≢true}
use Rattle.std.proofs.lemmas.Option.{none-some, same_Some}
use Rattle.pr_api.specs.Entries.{call_entry}
use Rattle.pr_model.proofs.HistoryLemmas.{state_after-push}
use Rattle.pr_model.specs.Legal.{IsLegal, state_after}
use Rattle.pr_model.specs.Replies.{number_of}
use Rattle.pr_model.specs.State.{TracedState}
use Rattle.pr_model.specs.declared.calls.Call.{Call}
use Rattle.pr_model.specs.declared.calls.Call.TheVariants as call
use Rattle.pr_model.specs.declared.calls.File.TheVariants as file
use Rattle.pr_model.specs.declared.calls.Mode.TheVariants as mode
use Rattle.pr_model.specs.declared.events.Entry.{Entry}
use Rattle.pr_num.specs.Limits.{read_limit}
use Rattle.pr_num.specs.Messages.{spelling}
use Rattle.pr_num.specs.declared.messages.Message.{Message}
use Rattle.pr_num.specs.declared.messages.Message.TheVariants as message
use Rattle.pr_num.specs.declared.errnos.Errno.{Errno}
use Rattle.pr_probe.proofs.CloseLemmas.{IsPlaced, first-placed}
use Rattle.pr_probe.specs.AgentCode.{code_size, planted, stack_size}
use Rattle.pr_probe.specs.ProbeStages.{file_of, lwp_of, mode_of, place_of}
use Rattle.pr_probe.specs.Probes.{ProbeState, asking_call, call_of, fed, first_probe, has_ended, next_call_of}
use Rattle.pr_probe.specs.TracedSets.{trace_message}
use Rattle.pr_probe.specs.declared.probe_stages.AskingStep.TheVariants.{SetRegisters, Run as RunAgent, Await, ReadAgent, ReadKind}
use Rattle.pr_probe.specs.declared.probe_stages.ProbeFile.{ProbeFile}
use Rattle.pr_probe.specs.declared.probe_stages.ProbeFile.TheVariants.{Control, Status, Lstatus, Map, AgentControl, AgentStatus}
use Rattle.pr_probe.specs.declared.probe_stages.ProbeStage.{ProbeStage}
use Rattle.pr_probe.specs.declared.probe_stages.ProbeStage.TheVariants as stage
use Rattle.pr_probe.specs.declared.traced_sets.SetKind.{SetKind}
use Rattle.pr_probe.specs.declared.traced_sets.SetKind.TheVariants.{Signals, Faults, Entries, Exits}
use Rattle.pr_tool_laws.proofs.Stages.ProtocolLemmas.{KeptByCalls, KeptByOthers, own-keeps}
use Rattle.pr_tool_laws.proofs.Stages.StageLemmas.{state-called}
use Rattle.pr_tool_laws.proofs.Records.WholeLemmas.{front-legal}
use Rattle.pr_tool_laws.specs.FileHandles.{HasHandleOf}
use Rattle.pr_tool_laws.specs.OwnCalls.{AreOwnCalls}
use Rattle.pr_tool_laws.specs.Runs.{IsRunOf}
use Rattle.pr_tool_laws.specs.ToolHandles.{HoldsOnly}
use Rattle.pr_tools.specs.Handles.{handle_at, last_open, last_place}
use Rattle.pr_truss_laws.specs.Handles.{HasNothingOpen}
use Rattle.pr_world.specs.ControllerStates.{ControllerState, Probe}
use Rattle.pr_world.specs.Controllers.{after_reply, next_call}
use Rattle.pr_world.specs.Protocol.{controllers_at}
use Rattle.pr_probe_laws.proofs.Files.FilePlaces.{HasFirst, at-file, file_at, held_of}
use Rattle.pr_probe_laws.proofs.Hiding.HiddenFacts.{next-is, own-front, own-there, probe-at}
use Rattle.pr_probe_laws.proofs.Hiding.HiddenPlain.{IsInOrder, first-order, is_over, order-fed}
use Rattle.pr_probe_laws.proofs.Files.OwnFiles.{IsSmall, OwnsFiles, called-owns, fed-placed, first-owns, holds-only, last-file, needs, nothing-open, others-own}
use Rattle.pr_probe_laws.proofs.PuttingBack.ProbeLaw as saves
use Rattle.pr_probe_laws.proofs.PuttingBack.ProbeStages.{So}
use Rattle.pr_probe_laws.proofs.OneState.TextMessages.{planted-size}
use Rattle.pr_probe_laws.specs.ProbeCalls.{IsItsFile, IsProbeCall, IsToAgent, IsToProcess, MakesProbeCalls, agent_control, agent_status, asks, closes, control, exits, instructs, lstatus, makes_agent, mappings, opens, polls, reads, reads_code, reads_kind, reads_stack, runs, runs_agent, sends, status, stops, traces_entries, traces_exits, traces_faults, traces_signals, waits, writes_code, writes_stack}

-- Each call of apfiles is one of its own.

its-file : (f : ProbeFile) → IsItsFile (lwp_of f) (file_of f) (mode_of f)
unfolding lwp_of file_of mode_of
its-file Control = control
its-file Status = status
its-file Lstatus = lstatus
its-file Map = mappings
its-file AgentControl = agent_control
its-file AgentStatus = agent_status

module _ (k pid : ℕ) (first s : TracedState) (c : Call) (p : ProbeState) (owns : OwnsFiles k pid first s p)
    (placed : IsPlaced p.opened p.stage) where
  -- ---- a handle of a file

  has-at : (f : ProbeFile) (number : ℕ) → handle_at p.opened (place_of f) ≡ Some number
      → HasHandleOf k pid (lwp_of f) (file_of f) number s
  has-at f number at = record {
    held = held_of k pid f;
    there = owns.stands f number at;
    of = refl;
    lwp = refl;
    file = refl;
  }

  has : (many : ℕ) → HasFirst k pid many s.opens p.opened → (f : ProbeFile) → place_of f < many
      → HasHandleOf k pid (lwp_of f) (file_of f) (number_of (handle_at p.opened (place_of f))) s
  has many holds f below =
      let file = holds.each f below in
      has-at f (number_of (handle_at p.opened (place_of f)))
      (file.at ∙ ap (λ (o : Option ℕ). Some (number_of o)) (sym file.at))

  module _ (many : ℕ) (holds : HasFirst k pid many s.opens p.opened) where
    abbrev handle_for : ProbeFile → ℕ
    handle_for f = number_of (handle_at p.opened (place_of f))

    sends-it : 0 < many → (m : Message) (tail : List ℕ) → IsToProcess m tail
        → Some (call.Ctl (handle_for Control) (spelling m tail)) ≡ Some c → IsProbeCall k pid s c
    unfolding lwp_of file_of place_of
    sends-it some m tail to same =
        subst (IsProbeCall k pid s) (same_Some _ c same) (sends (has many holds Control some) to)

    sets-it : 0 < many → (kind : SetKind) (word : ℕ)
        → Some (call.Ctl (handle_for Control) (spelling (trace_message kind word) [])) ≡ Some c
        → IsProbeCall k pid s c
    unfolding trace_message
    sets-it some Signals word same = sends-it some (message.Strace word) [] traces_signals same
    sets-it some Faults word same = sends-it some (message.Sfault word) [] traces_faults same
    sets-it some Entries word same = sends-it some (message.Sentry word) [] traces_entries same
    sets-it some Exits word same = sends-it some (message.Sexit word) [] traces_exits same

    instructs-it : 4 < many → (m : Message) → IsToAgent m
        → Some (call.Ctl (handle_for AgentControl) (spelling m [])) ≡ Some c → IsProbeCall k pid s c
    unfolding lwp_of file_of place_of
    instructs-it more m to same =
        subst (IsProbeCall k pid s) (same_Some _ c same) (instructs (has many holds AgentControl more) to)

    polls-it : 4 < many → Some (call.Poll (handle_for AgentControl ∷ [])) ≡ Some c → IsProbeCall k pid s c
    unfolding lwp_of file_of place_of
    polls-it more same =
        subst (IsProbeCall k pid s) (same_Some _ c same) (polls (has many holds AgentControl more))

    reads-it : (f : ProbeFile) → place_of f < many → mode_of f ≡ mode.Read
        → Some (call.Read (handle_for f) 0 read_limit) ≡ Some c → IsProbeCall k pid s c
    reads-it f below way same =
        subst (IsProbeCall k pid s) (same_Some _ c same)
        (reads (subst (IsItsFile (lwp_of f) (file_of f)) way (its-file f)) (has many holds f below))

  -- ---- a stage

  module _ (code : p.stage ≡ stage.WriteCode → length p.code ≡ code_size)
      (stack : p.stage ≡ stage.WriteStack → length p.stack ≡ stack_size) where
    shuts : (o : Option ℕ) → last_open p.opened ≡ o → option_map call.Close o ≡ Some c → IsProbeCall k pid s c
    unfolding last_open
    shuts None last same = absurd (none-some c same)
    shuts (Some number) last same =
        let few = last-file p.opened p.stage number placed last in
        let f : ProbeFile = file_at (last_place p.opened) in
        subst (IsProbeCall k pid s) (same_Some (call.Close number) c same)
        (closes (its-file f) (has-at f number (ap (handle_at p.opened) (at-file (last_place p.opened) few) ∙ last)))

    call-is : (g : ProbeStage) → p.stage ≡ g → HasFirst k pid (needs g) s.opens p.opened → IsSmall g
        → call_of p g ≡ Some c → IsProbeCall k pid s c
    unfolding needs IsSmall call_of asking_call place_of file_of lwp_of mode_of
    call-is (stage.Open f) at holds small same =
        subst (IsProbeCall k pid s)
        (ap (λ (q : ℕ). call.Open q (lwp_of f) (file_of f) (mode_of f)) (sym owns.its) ∙ same_Some _ c same)
        (opens (its-file f))
    call-is stage.ReadFirst at holds small same = reads-it 4 holds Lstatus (omega arith) refl same
    call-is stage.Stop at holds small same = sends-it 4 holds (omega arith) message.Stop [] stops same
    call-is stage.AwaitStop at holds small same =
        subst (IsProbeCall k pid s) (same_Some _ c same) (waits (has 4 holds Control (omega arith)))
    call-is stage.ReadStatus at holds small same = reads-it 4 holds Status (omega arith) refl same
    call-is stage.ReadMap at holds small same = reads-it 4 holds Map (omega arith) refl same
    call-is stage.SaveCode at holds small same = sends-it 4 holds (omega arith) _ [] reads_code same
    call-is stage.SaveStack at holds small same = sends-it 4 holds (omega arith) _ [] reads_stack same
    call-is (stage.Trace kind) at holds small same = sets-it 4 holds (omega arith) kind _ same
    call-is stage.MakeAgent at holds small same = sends-it 4 holds (omega arith) _ [] makes_agent same
    call-is stage.PlantCode at holds small same =
        sends-it 6 holds (omega arith) _ planted (writes_code planted-size) same
    call-is (stage.Asking d SetRegisters) at holds small same =
        instructs-it 6 holds (omega arith) _ (asks small) same
    call-is (stage.Asking d RunAgent) at holds small same =
        instructs-it 6 holds (omega arith) (message.Run 0) runs_agent same
    call-is (stage.Asking d Await) at holds small same = polls-it 6 holds (omega arith) same
    call-is (stage.Asking d ReadAgent) at holds small same = reads-it 6 holds AgentStatus (omega arith) refl same
    call-is (stage.Asking d ReadKind) at holds small same = sends-it 6 holds (omega arith) _ [] reads_kind same
    call-is stage.UntraceExits at holds small same = sets-it 6 holds (omega arith) Exits _ same
    call-is stage.SetExit at holds small same = instructs-it 6 holds (omega arith) _ exits same
    call-is stage.RunExit at holds small same =
        instructs-it 6 holds (omega arith) (message.Run 0) runs_agent same
    call-is stage.AwaitExit at holds small same = polls-it 6 holds (omega arith) same
    call-is stage.WriteCode at holds small same =
        sends-it 6 holds (omega arith) _ p.code (writes_code (code at)) same
    call-is stage.WriteStack at holds small same =
        sends-it 6 holds (omega arith) _ p.stack (writes_stack (stack at)) same
    call-is (stage.Retrace kind) at holds small same = sets-it 6 holds (omega arith) kind _ same
    call-is stage.Run at holds small same = sends-it 6 holds (omega arith) (message.Run 0) [] runs same
    call-is (stage.Restore kind) at holds small same = sets-it 4 holds (omega arith) kind _ same
    call-is stage.Release at holds small same = sends-it 4 holds (omega arith) (message.Run 0) [] runs same
    call-is stage.Close at holds small same = shuts (last_open p.opened) refl same

-- ---- along a history

module _ (n k pid : ℕ) (first : TracedState) where
  -- what is so of it, refused or not
  pub record IsOwning (h : List Entry) (p : ProbeState) : Type 0 where
    pub owns : OwnsFiles k pid first (state_after first h) p
    pub placed : IsPlaced p.opened p.stage
    pub order : IsInOrder p

  unfoldable pub Owns : List Entry → ControllerState → Type 0
  Owns h (Probe p) = saves.IsProbeKept n k pid first h (Probe p) × IsOwning h p
  Owns h _ = ⊥

  pub others-owning : KeptByOthers n k first Owns
  unfolding Owns
  others-owning h (Probe p) actor it legal other kept =
      let e : Entry = record { actor = actor; act = it } in (
        saves.others-kept n k pid first h (Probe p) actor it legal other kept.0,
        record {
          owns =
              subst (λ (s : TracedState). OwnsFiles k pid first s p) (sym (state_after-push first h e))
              (others-own k pid first n (state_after first h) p actor it legal other kept.1.owns);
          placed = kept.1.placed;
          order = kept.1.order;
        },
      )
  others-owning h _ actor it legal other kept = absurd kept

  pub calls-owning : KeptByCalls n k first Owns
  unfolding Owns next_call after_reply
  calls-owning h (Probe p) c a next given kept = (
    saves.calls-kept n k pid first h (Probe p) c a next given kept.0,
    record {
      owns =
          subst (λ (s : TracedState). OwnsFiles k pid first s (fed p a.reply))
          (sym (state-called first h k c a given))
          (called-owns k pid first (state_after first h) c a given p next kept.1.owns kept.1.placed);
      placed = fed-placed p a.reply kept.1.placed;
      order = order-fed p a.reply kept.1.order;
    },
  )
  calls-owning h _ c a next given kept = absurd kept

  pub first-owning : Owns [] (Probe (first_probe pid))
  unfolding Owns saves.IsProbeKept
  first-owning = (
    λ none. saves.at_first n k pid first,
    record {
      owns = first-owns k pid first;
      placed = first-placed pid;
      order = first-order pid;
    },
  )

  pub owning-at : (controllers : List ControllerState) (h : List Entry) (p : ProbeState)
      → IsRunOf n k (Probe (first_probe pid)) controllers first h
      → slice_get (controllers_at controllers h) k ≡ Some (Probe p)
      → saves.IsProbeKept n k pid first h (Probe p) × IsOwning h p
  unfolding Owns
  owning-at controllers h p run ends =
      own-keeps n k first Owns others-owning calls-owning controllers h (Probe (first_probe pid)) (Probe p) run ends
      first-owning

  -- what it writes back is as long as what it read
  module _ (h : List Entry) (p : ProbeState) (order : IsInOrder p)
      (kept : p.refusal ≡ None → So k pid first h (state_after first h) p p.stage) where
    accepted-at : (g : ProbeStage) → p.stage ≡ g → is_over g ≡ false
        → So k pid first h (state_after first h) p g
    accepted-at g at going = by p.refusal refl
      where
        by : (o : Option Errno) → p.refusal ≡ o → So k pid first h (state_after first h) p g
        by None none = subst (So k pid first h (state_after first h) p) at (kept none)
        by (Some e) refused = absurd (false≢true (sym going ∙ ap is_over (sym at) ∙ order.refused e refused))

    whole-code : p.stage ≡ stage.WriteCode → length p.code ≡ code_size
    unfolding So
    whole-code at = (accepted-at stage.WriteCode at refl).1.whole

    whole-stack : p.stage ≡ stage.WriteStack → length p.stack ≡ stack_size
    unfolding So
    whole-stack at = (accepted-at stage.WriteStack at refl).2.whole

pub makes-its-calls : (controllers : List ControllerState) (n k pid : ℕ) (s : TracedState) (h : List Entry)
    → IsRunOf n k (Probe (first_probe pid)) controllers s h → MakesProbeCalls k pid s h
unfolding saves.IsProbeKept next_call_of
makes-its-calls controllers n k pid s h run = record {
  each = λ front back c r place.
      let its_legal = subst (λ (es : List Entry). IsLegal n s es) place run.legal in
      let its_own = subst (AreOwnCalls controllers) place run.own_calls in
      let rest : List Entry = call_entry k c r ∷ back in
      let now = probe-at k controllers front (first_probe pid, run.begins) in
      let p : ProbeState = now.0 in
      let front_run : IsRunOf n k (Probe (first_probe pid)) controllers s front = record {
        begins = run.begins;
        legal = front-legal n s front rest its_legal;
        own_calls = own-front controllers front rest its_own;
      } in
      let kept = owning-at n k pid s controllers front p front_run now.1 in
      let next =
      next-is k (controllers_at controllers front) p c r now.1
      (own-there controllers front (call_entry k c r) back its_own) in
      call-is k pid s (state_after s front) c p kept.1.owns kept.1.placed
      (whole-code n k pid s front p kept.1.order kept.0) (whole-stack n k pid s front p kept.1.order kept.0) p.stage
      refl kept.1.owns.holds kept.1.owns.small next;
}

-- At any time it has files of its process alone open, and none once it has finished.
module _ (controllers : List ControllerState) (n k pid : ℕ) (s : TracedState) (h : List Entry) (p : ProbeState)
    (nothing : HasNothingOpen k s) (run : IsRunOf n k (Probe (first_probe pid)) controllers s h)
    (ends : slice_get (controllers_at controllers h) k ≡ Some (Probe p)) where
  kept : IsOwning n k pid s h p
  kept = (owning-at n k pid s controllers h p run ends).1

  pub probe-holds : HoldsOnly k pid (state_after s h)
  probe-holds = holds-only k pid s (state_after s h) p nothing kept.owns kept.placed

  pub probe-closes : has_ended p ≡ true → HasNothingOpen k (state_after s h)
  probe-closes ended = nothing-open k pid s (state_after s h) p nothing kept.owns ended
