use Rattle.std.proofs.Common.{◌≡◌, ◌≢◌, ◌⊎◌, ◌∷◌, ◌<◌, ◌-◌, ◌+◌, ◌%◌, ◌^◌, ℕ, Bool, true, false, cond, is_some, nat_lt, length, option_map, List, [], Option, Some, None, Ok, refl, sym, subst, ap, ◌∙◌, inl, inr, arith}
use Rattle.std.proofs.lemmas.Bool.{false≢true}
use Rattle.std.proofs.lemmas.Option.{same_Some}
use Rattle.std.proofs.lemmas.Slice.Eq.{bytes_eq-Decides}
use Rattle.std.specs.Str.{bytes_eq}
use Rattle.pr_hidden.specs.Covers.{Cover, Covers}
use Rattle.pr_hidden.specs.Hiders.{Hiders, cover_sent, covers_called, covers_controlled, saved_in}
use Rattle.pr_hidden.specs.Hiding.{with_own_agent}
use Rattle.pr_model.specs.Calls.{Answer, answer_to}
use Rattle.pr_model.specs.Changes.{with_space}
use Rattle.pr_model.specs.ControlMessages.{aim_of, tail_of, target_of}
use Rattle.pr_model.specs.Handles.{handle_of as handle_in}
use Rattle.pr_model.specs.Lawful.{IsLawful}
use Rattle.pr_model.specs.Legal.{state_after}
use Rattle.pr_model.specs.Messages.{tracing_exits, with_agent, with_control, with_registers}
use Rattle.pr_model.specs.Replies.{number_of}
use Rattle.pr_model.specs.Running.{let_go, run_lwp}
use Rattle.pr_model.specs.State.{TracedLwp, TracedProcess, TracedState, TracedSystem, live_process, lwp_of as lwp_in, with_lwp}
use Rattle.pr_model.specs.declared.calls.Call.{Call}
use Rattle.pr_model.specs.declared.calls.Call.TheVariants as call
use Rattle.pr_model.specs.declared.calls.Reply.{Reply}
use Rattle.pr_model.specs.declared.calls.Reply.TheVariants as reply
use Rattle.pr_model.specs.declared.events.Entry.{Entry}
use Rattle.pr_model.specs.declared.handles.Held.{Held}
use Rattle.pr_num.proofs.ByIdLaws.{under-change_under, under-change_under_other}
use Rattle.pr_num.specs.Agents.{agent_id}
use Rattle.pr_num.specs.Layout.{stack_base, text_base}
use Rattle.pr_num.specs.Limits.{descriptor_limit, read_limit}
use Rattle.pr_num.specs.Messages.{first_message, spelling}
use Rattle.pr_num.specs.Spaces.{IsSpace, Space}
use Rattle.pr_num.specs.declared.errnos.Errno.{Errno}
use Rattle.pr_num.specs.declared.files.FdKind.{FdKind}
use Rattle.pr_num.specs.declared.messages.Message.{Message}
use Rattle.pr_num.specs.declared.messages.Message.TheVariants as message
use Rattle.pr_parts.proofs.ByteLemmas.{length-bytes_for}
use Rattle.pr_parts.specs.AddressSpaces.{with_bytes}
use Rattle.pr_probe.proofs.FedLemmas.{answer-by, kind-kept, poll-by}
use Rattle.pr_probe.specs.AgentCode.{code_size, planted, stack_size}
use Rattle.pr_probe.specs.DescriptorLines.{kind_in}
use Rattle.pr_probe.specs.ProbeStages.{asking_after, file_of, is_passed_over, lwp_of, mode_of, place_of, stage_after, stage_asked, stage_opened}
use Rattle.pr_probe.specs.Probes.{ProbeState, accepted, advanced, after_poll, asked, asking_accepted, asking_call, at_stage, call_of, refusal_in, set_call, with_kind, with_next}
use Rattle.pr_probe.specs.TracedSets.{kind_after, no_sets, set_word, trace_message}
use Rattle.pr_probe.specs.declared.probe_stages.AskingStep.{AskingStep}
use Rattle.pr_probe.specs.declared.probe_stages.AskingStep.TheVariants.{SetRegisters, Run as RunAgent, Await, ReadAgent, ReadKind}
use Rattle.pr_probe.specs.declared.probe_stages.ProbeFile.{ProbeFile}
use Rattle.pr_probe.specs.declared.probe_stages.ProbeFile.TheVariants.{Control, AgentControl, AgentStatus}
use Rattle.pr_probe.specs.declared.probe_stages.ProbeStage.{ProbeStage}
use Rattle.pr_probe.specs.declared.probe_stages.ProbeStage.TheVariants as stage
use Rattle.pr_probe.specs.declared.traced_sets.SetKind.TheVariants.{Exits}
use Rattle.pr_report_laws.proofs.Machine.ControlLaws.{exits-read, run-reads}
use Rattle.pr_report_laws.proofs.Machine.PollLaws.{FindsReady, IsRefusal, poll-replies}
use Rattle.pr_tools.specs.Handles.{handle_at}
use Rattle.pr_tools.specs.Replies.{bytes_read}
use Rattle.pr_truss_laws.proofs.Machine.TakenLemmas.{ReadsAs, target-live}
use Rattle.pr_probe_laws.proofs.Agents.AgentMemory.{still-allowed}
use Rattle.pr_probe_laws.proofs.Agents.AgentCalls.{agent_writer, polled, registered, run}
use Rattle.pr_probe_laws.proofs.Agents.AgentTurns.{IsAgent, IsPlanted, IsReadyFor, asks}
use Rattle.pr_probe_laws.proofs.Files.FilePlaces.{HasFile, HasFirst}
use Rattle.pr_probe_laws.proofs.Hiding.HiddenCovers.{AreAlike, call-still, ctl-still, is_still, reads-same, taken-cover}
use Rattle.pr_probe_laws.proofs.Hiding.HiddenMessages.{agent-used, exit-reads, was-read, write-used}
use Rattle.pr_probe_laws.proofs.Hiding.HiddenPlain.{is_special}
use Rattle.pr_probe_laws.proofs.Hiding.HiddenTidy.{code-tidy, plant-tidy, registers-tidy, stack-tidy}
use Rattle.pr_hidden.specs.Tidiness.{IsTidyMessage}
use Rattle.pr_probe_laws.proofs.Hiding.HiddenStages.{Hides, HidesAgent, HidesBoth, HidesOut, HidesStack, StandsOut, saved_patches}
use Rattle.pr_probe_laws.proofs.Agents.LeavingRows.{GoesOut, IsGone, Leaving, at_exit, exit_registers, in_exit, out_of_call}
use Rattle.pr_probe_laws.proofs.PuttingBack.MemoryMessages.{code-written, stack-written, write_bytes, writer_of}
use Rattle.pr_probe_laws.proofs.Sets.SetCalls.{control, control-stands, its, open-system, sent-by, taken}
use Rattle.pr_probe_laws.proofs.Sets.SetMessages.{set-done, setting, still-lives}
use Rattle.pr_probe_laws.proofs.Sets.SetStages.{Knows}
use Rattle.pr_probe_laws.proofs.Sets.StatusSets.{same-system}
use Rattle.pr_probe_laws.proofs.OneState.TextCalls.{agent, agent-polled, agent-sent, agent-stands}
use Rattle.pr_probe_laws.proofs.OneState.TextMessages.{agent-made, agent-read, code-planted, kind-reads, planted-size, registers-read, run-agent, runs-on}
use Rattle.pr_probe_laws.proofs.Room.RoomStages.{Where}
use Rattle.pr_probe_laws.proofs.OneState.TextStages.{IsAsking, Making, Reads, Rests, Stands, WithAgent, in_program, on_its_way}
use Rattle.pr_probe_laws.specs.HiddenProbes.{StandsSaved, is_hiding}

-- What a call of apfiles makes of what it hides, a row a stage.

-- ---- an agent that is sent to its end

pub exit-agent : (l : TracedLwp) → IsAgent l → IsAgent (with_registers exit_registers l)
unfolding with_registers
exit-agent l is = record {
  held = is.held;
  goes = is.goes;
  not_directed = is.not_directed;
  no_step = is.no_step;
  no_abort = is.no_abort;
  current = is.current;
}

pub exit-so : (l : TracedLwp) → Rests l → Leaving (with_registers exit_registers l)
unfolding with_registers
exit-so l (in_program is) = at_exit is refl
exit-so l (on_its_way call args result is) = out_of_call call args result is refl

-- a process in which the agent alone is changed
changed-ready : (f : TracedLwp → TracedLwp) (p : TracedProcess) → IsReadyFor 0 IsPlanted p
    → IsReadyFor 0 IsPlanted (with_lwp agent_id f p)
unfolding with_lwp
changed-ready f p ready = record {
  no_signals = ready.no_signals;
  no_entries = ready.no_entries;
  exits = ready.exits;
  unwatched = ready.unwatched;
  own = ready.own;
  code = ready.code;
  stack = ready.stack;
  others = λ id k apart there.
      ready.others id k apart
      (sym (under-change_under_other agent_id id f (λ same. apart (sym same)) p.lwps) ∙ there);
}

changed-there : (f : TracedLwp → TracedLwp) (p : TracedProcess) (l : TracedLwp) → lwp_in p agent_id ≡ Some l
    → lwp_in (with_lwp agent_id f p) agent_id ≡ Some (f l)
unfolding with_lwp
changed-there f p l there =
    under-change_under agent_id f p.lwps ∙ ap (option_map f) there

set-out : (p : TracedProcess) → StandsOut Rests p → StandsOut Leaving
    (with_lwp agent_id (with_registers exit_registers) p)
unfolding with_registers
set-out p it =
    let f = with_registers exit_registers in
    record {
      ready = changed-ready f p it.ready;
      agent = f it.agent;
      there = changed-there f p it.agent it.there;
      is = exit-agent it.agent it.is;
      stands = it.stands;
      so = exit-so it.agent it.so;
    }

run-out : (p : TracedProcess) → StandsOut Leaving p → GoesOut (with_lwp agent_id (run_lwp 0) p)
unfolding let_go
run-out p it =
    let f = run_lwp 0 in
    let goes = going it.agent it.so in
    record {
      ready = changed-ready f p it.ready;
      agent = f it.agent;
      there = changed-there f p it.agent it.there;
      is = run-agent it.agent it.is;
      running = goes.0;
      at = goes.1;
    }
  where
    going : (l : TracedLwp) → Leaving l → ((run_lwp 0 l).control.stop ≡ None) × Leaving (run_lwp 0 l)
    going l at =
        subst (λ (k : TracedLwp). (k.control.stop ≡ None) × Leaving k) (sym (runs-on l)) (refl, by at)
      where
        by : Leaving l → Leaving (record l { control = record l.control { stop = None; directed = false } })
        by (out_of_call call args result is asked) = out_of_call call args result is asked
        by (at_exit is asked) = at_exit is asked
        by (in_exit is) = in_exit is

-- the exits are traced no more
untraced-out : (p : TracedProcess) → WithAgent IsPlanted Stands p → StandsOut Rests (with_control (setting Exits 0) p)
unfolding with_control tracing_exits
untraced-out p w = record {
  ready = record {
    no_signals = w.ready.no_signals;
    no_entries = w.ready.no_entries;
    exits = refl;
    unwatched = w.ready.unwatched;
    own = w.ready.own;
    code = w.ready.code;
    stack = w.ready.stack;
    others = w.ready.others;
  };
  agent = w.agent;
  there = w.there;
  is = w.is;
  stands = w.so.stands;
  so = w.so.rests;
}

-- memory is written, which nobody but the agent would do
written-gone : (at : ℕ) (bytes : List ℕ) (p : TracedProcess) → IsGone p
    → IsGone (with_space (with_bytes at bytes p.space) p)
unfolding with_space
written-gone at bytes p gone = record {
  none = gone.none;
  halts = record { each = gone.halts.each };
  own = gone.own;
  text = still-allowed 0 p.space at bytes text_base code_size ∙ gone.text;
  answer = still-allowed 0 p.space at bytes stack_base stack_size ∙ gone.answer;
}

-- ---- what is written over

saved-is : (p : ProbeState) (space : Space) → StandsSaved p space → saved_in space ≡ saved_patches p
saved-is p space it = rw (it.code, it.stack) refl

same-bytes : (bytes : List ℕ) → bytes_eq bytes bytes ≡ true
same-bytes bytes = (bytes_eq-Decides bytes bytes).1 refl

module _ (who : Hiders) (none : (k : ℕ) → who.functions k ≡ []) (k : ℕ) (hider : who.probes k ≡ true) where
  -- its code is planted
  plant-cover : (p : ProbeState) (q : TracedProcess) (size : ℕ) (tail : List ℕ) (c : Cover) → c.patches ≡ []
      → StandsSaved p q.space → c.agent ≡ true
      → HidesBoth true (cover_sent who k q (message.Write text_base size) tail c) p
  unfolding cover_sent
  plant-cover p q size tail c bare saved agent = record {
    patches =
        rw (hider, bare) (saved-is p q.space saved);
    agent_is = agent;
    code = length-bytes_for 0 q.space text_base code_size p.code saved.code;
    stack = length-bytes_for 0 q.space stack_base stack_size p.stack saved.stack;
  }

  -- the bytes of the text are written back, and those of the stack
  lift-code : (p : ProbeState) (q : TracedProcess) (size : ℕ) (c : Cover) → HidesBoth false c p
      → HidesStack (cover_sent who k q (message.Write text_base size) p.code c) p
  unfolding cover_sent
  lift-code p q size c it = record {
    patches = rw (hider, it.patches, same-bytes p.code) refl;
    agent_is = it.agent_is;
    stack = it.stack;
  }

  lift-stack : (p : ProbeState) (q : TracedProcess) (size : ℕ) (c : Cover) → HidesStack c p
      → ((cover_sent who k q (message.Write stack_base size) p.stack c).patches ≡ [])
      × ((cover_sent who k q (message.Write stack_base size) p.stack c).agent ≡ false)
  unfolding cover_sent
  lift-stack p q size c it = (rw (hider, it.patches, same-bytes p.stack) refl, it.agent_is)

  module _ (pid : ℕ) (first : TracedState) (h : List Entry) (c : Call) (a : Answer)
      (lawful : IsLawful (state_after first h)) (given : answer_to (state_after first h) k c ≡ Some a)
      (covers : Covers) where
    abbrev s : TracedState
    s = state_after first h

    abbrev now : Cover
    now = covers_called who covers s k c a.reply pid

    -- what is so after it: something is hidden still, or nothing is any more
    pub record IsBareAfter (p : ProbeState) : Type 0 where
      pub patches : now.patches ≡ []
      pub agent : now.agent ≡ false
      pub past : is_hiding p.stage ≡ false

    abbrev pub Next : ProbeState → Type 0
    Next u = Hides pid now a.state.system u u.stage ⊎ IsBareAfter u

    -- ---- what is hidden stays

    agent-alike : (p u : ProbeState) → u.code ≡ p.code → u.stack ≡ p.stack → AreAlike (covers pid) now
        → a.state.system ≡ s.system → HidesAgent pid (covers pid) s.system p → HidesAgent pid now a.state.system u
    agent-alike p u code stack alike same it = record {
      none = alike.patches ∙ it.none;
      agent_is = alike.agent ∙ it.agent_is;
      stands = λ q live.
          let saved = it.stands q (ap (λ (x : TracedSystem). live_process x pid) (sym same) ∙ live) in
          record {
            code = saved.code ∙ ap (λ (bs : List ℕ). Ok bs) (sym code);
            stack = saved.stack ∙ ap (λ (bs : List ℕ). Ok bs) (sym stack);
          };
    }

    both-alike : (agent : Bool) (p u : ProbeState) → u.code ≡ p.code → u.stack ≡ p.stack → AreAlike (covers pid) now
        → HidesBoth agent (covers pid) p → HidesBoth agent now u
    both-alike agent p u code stack alike it = record {
      patches =
          alike.patches ∙ it.patches
          ∙ ap (λ (bs : List ℕ).
          record { at = text_base; bytes = bs } ∷ record { at = stack_base; bytes = p.stack } ∷ []) (sym code)
          ∙ ap (λ (bs : List ℕ).
          record { at = text_base; bytes = u.code } ∷ record { at = stack_base; bytes = bs } ∷ []) (sym stack);
      agent_is = alike.agent ∙ it.agent_is;
      code = ap (λ (bs : List ℕ). length bs) code ∙ it.code;
      stack = ap (λ (bs : List ℕ). length bs) stack ∙ it.stack;
    }

    -- ---- the agent's files are opened

    opens : (f : ProbeFile) (p u : ProbeState) → p.pid ≡ pid → u.code ≡ p.code → u.stack ≡ p.stack
        → Some (call.Open p.pid (lwp_of f) (file_of f) (mode_of f)) ≡ Some c → ((e : Errno) → a.reply ≢ reply.Fail e)
        → HidesAgent pid (covers pid) s.system p → HidesAgent pid now a.state.system u
    opens f p u its_pid code stack same accepts it =
        agent-alike p u code stack
        (subst (λ (d : Call). AreAlike (covers pid) (covers_called who covers s k d a.reply pid)) (same_Some _ c same)
        (call-still who none covers s k pid (call.Open p.pid (lwp_of f) (file_of f) (mode_of f)) a.reply refl))
        (open-system k pid first h c a lawful given f p its_pid same accepts) it

    -- ---- by its control file

    module _ (p : ProbeState) (many : ℕ) (some : 0 < many) (holds : HasFirst k pid many s.opens p.opened) where
      abbrev file : HasFile k pid s.opens p.opened Control
      file = control k pid first h c a lawful given p many some holds

      stands : handle_in s.opens k file.number ≡ Some (writer_of k pid)
      stands = control-stands k pid first h c a lawful given p many some holds

      target : (q : TracedProcess) → live_process s.system pid ≡ Some q → target_of s.system (writer_of k pid) ≡ Some q
      target q live = target-live s k file.number (writer_of k pid) stands refl ∙ live

      -- a message that was taken
      sent-cover : (bytes : List ℕ) (m : Message)
          → Some (call.Ctl (number_of (handle_at p.opened (place_of Control))) bytes) ≡ Some c
          → ((e : Errno) → a.reply ≢ reply.Fail e) → ReadsAs m (first_message bytes) → (used : ℕ)
          → a.reply ≡ reply.Used used
          → (q : TracedProcess) × ((live_process s.system pid ≡ Some q)
          × (now ≡ cover_sent who k q m (tail_of m bytes) (covers pid)))
      unfolding covers_called
      sent-cover bytes m same accepts reads used is =
          let sent = sent-by k pid first h c a lawful given p many some holds bytes same in
          let it = was-read s k file.number pid a stands accepts bytes m reads sent in
          let call_is : c ≡ call.Ctl file.number bytes =
          sym (same_Some _ c same)
          ∙ ap (λ (o : Option ℕ). call.Ctl (number_of o) bytes) file.at in (
            it.process,
            (
              it.live,
              ap (λ (d : Call). covers_called who covers s k d a.reply pid) call_is
                  ∙ ap (λ (r : Reply). covers_called who covers s k (call.Ctl file.number bytes) r pid) is
                  ∙ ap (λ (o : Option Held). covers_controlled who k s.system o bytes covers pid) stands
                  ∙ taken-cover who none covers s.system k (writer_of k pid) it.process bytes m it.len
                  (target it.process it.live) it.read,
            ),
          )

      still-cover : (bytes : List ℕ) (m : Message) (number : ℕ) → Some (call.Ctl number bytes) ≡ Some c
          → ReadsAs m (first_message bytes) → is_still m ≡ true
          → AreAlike (covers pid) now
      still-cover bytes m number same reads still =
          ctl-still who none covers s k pid c number bytes m same reads still a.reply

    -- ---- the stages

    both-as : (agent : Bool) (d : Cover) (p u : ProbeState) → u.code ≡ p.code → u.stack ≡ p.stack → HidesBoth agent d p
        → HidesBoth agent d u
    both-as agent d p u code stack it = record {
      patches =
          it.patches
          ∙ ap (λ (bs : List ℕ).
          record { at = text_base; bytes = bs } ∷ record { at = stack_base; bytes = p.stack } ∷ []) (sym code)
          ∙ ap (λ (bs : List ℕ).
          record { at = text_base; bytes = u.code } ∷ record { at = stack_base; bytes = bs } ∷ []) (sym stack);
      agent_is = it.agent_is;
      code = ap (λ (bs : List ℕ). length bs) code ∙ it.code;
      stack = ap (λ (bs : List ℕ). length bs) stack ∙ it.stack;
    }

    -- after a descriptor
    hides-asked : (d : ℕ) (u : ProbeState) → HidesBoth true now u → Hides pid now a.state.system u (stage_asked d)
    unfolding Hides stage_asked
    hides-asked d u it = by (nat_lt d (descriptor_limit - 1))
      where
        by : (b : Bool)
            → Hides pid now a.state.system u (cond b (stage.Asking (d + 1) SetRegisters) stage.UntraceExits)
        by true = it
        by false = it

    plants : (p u : ProbeState) → u.code ≡ p.code → u.stack ≡ p.stack → HasFirst k pid 6 s.opens p.opened
        → Some (call.Ctl (number_of (handle_at p.opened (place_of Control))) (write_bytes text_base planted)) ≡ Some c
        → ((e : Errno) → a.reply ≢ reply.Fail e) → HidesAgent pid (covers pid) s.system p → HidesBoth true now u
    plants p u code stack holds same accepts it =
        let some : 0 < 6 = omega arith in
        let writes = code-written planted planted-size in
        let sent = sent-by k pid first h c a lawful given p 6 some holds _ same in
        let number = (file p 6 some holds).number in
        let used = write-used s k number pid a (stands p 6 some holds) accepts text_base planted writes sent in
        let is =
        sent-cover p 6 some holds _ (message.Write text_base (length planted)) same accepts writes.reads used.0
        used.1 in
        both-as true now p u code stack
        (subst (λ (d : Cover). HidesBoth true d p) (sym is.1.1)
        (plant-cover p is.0 (length planted) _ (covers pid) it.none (it.stands is.0 is.1.0) it.agent_is))

    -- its agent is made
    pub makes : (p u : ProbeState) → u.code ≡ p.code → u.stack ≡ p.stack → HasFirst k pid 4 s.opens p.opened
        → Some (call.Ctl (number_of (handle_at p.opened (place_of Control))) (spelling (message.Agent (asks 0)) []))
        ≡ Some c
        → ((e : Errno) → a.reply ≢ reply.Fail e) → (covers pid).patches ≡ []
        → Where pid (λ q. StandsSaved p q.space) s.system → HidesAgent pid now a.state.system u
    unfolding cover_sent with_agent
    makes p u code stack holds same accepts bare saved =
        let some : 0 < 4 = omega arith in
        let sent = sent-by k pid first h c a lawful given p 4 some holds _ same in
        let number = (file p 4 some holds).number in
        let used = agent-used s k number pid a (stands p 4 some holds) accepts _ (asks 0) agent-read sent in
        let is = sent-cover p 4 some holds _ (message.Agent (asks 0)) same accepts agent-read used.0 used.1 in
        let made = agent-made s k number pid a (stands p 4 some holds) accepts _ (asks 0) agent-read sent in
        let cover : now ≡ with_own_agent true (covers pid) = is.1.1 ∙ rw hider refl in
        record {
          none = ap (λ (d : Cover). d.patches) cover ∙ bare;
          agent_is = ap (λ (d : Cover). d.agent) cover;
          stands = λ q live.
              let x : TracedProcess = made.process in
              let its : with_agent (asks 0) x ≡ q = same_Some (with_agent (asks 0) x) q (sym made.now ∙ live) in
              let here = saved x made.live in
              subst (λ (y : TracedProcess). StandsSaved u y.space) its
              (record {
                code = here.code ∙ ap (λ (bs : List ℕ). Ok bs) (sym code);
                stack = here.stack ∙ ap (λ (bs : List ℕ). Ok bs) (sym stack);
              });
        }

    -- nothing of its own is asked about the reply: no set, but that of the exits
    untraces : (p u : ProbeState) → u.code ≡ p.code → u.stack ≡ p.stack → HasFirst k pid 6 s.opens p.opened
        → Where pid (WithAgent IsPlanted Stands) s.system → Some (set_call p Exits no_sets) ≡ Some c
        → ((e : Errno) → a.reply ≢ reply.Fail e) → HidesBoth true (covers pid) p
        → HidesBoth true now u × Where pid (StandsOut Rests) a.state.system
    unfolding trace_message set_word no_sets
    untraces p u code stack holds agent same accepts it =
        let some : 0 < 6 = omega arith in
        let sent = sent-by k pid first h c a lawful given p 6 some holds _ same in
        let number = (file p 6 some holds).number in
        let lives = still-lives s k number pid a (stands p 6 some holds) accepts _ sent in
        let x : TracedProcess = lives.process in
        let done =
        set-done s k number pid a (stands p 6 some holds) accepts x lives.live Exits 0 (omega arith) sent in (
          both-alike true p u code stack
              (ctl-still who none covers s k pid c _ _ (message.Sexit (0 % 2 ^ 64)) same
              (exits-read 0) refl a.reply) it,
          λ q live.
              subst (StandsOut Rests) (same_Some (with_control (setting Exits 0) x) q (sym done ∙ live))
              (untraced-out x (agent x lives.live)),
        )

    sets-exit : (p u : ProbeState) → u.code ≡ p.code → u.stack ≡ p.stack → HasFirst k pid 6 s.opens p.opened
        → Some (call.Ctl (number_of (handle_at p.opened (place_of AgentControl)))
        (spelling (message.Sreg exit_registers) [])) ≡ Some c
        → ((e : Errno) → a.reply ≢ reply.Fail e)
        → HidesBoth true (covers pid) p × Where pid (StandsOut Rests) s.system
        → HidesBoth true now u × Where pid (StandsOut Leaving) a.state.system
    sets-exit p u code stack holds same accepts it =
        let sent = agent-sent k pid first h c a lawful given p holds _ same in
        let n : ℕ = (agent k pid first h c a lawful given p holds).number in
        let r =
        registered s k n pid a (agent-stands k pid first h c a lawful given p holds) accepts _ exit_registers exit-reads
        sent in (
          both-alike true p u code stack
              (ctl-still who none covers s k pid c _ _ (message.Sreg exit_registers) same exit-reads refl a.reply) it.0,
          λ q live.
              subst (StandsOut Leaving)
              (same_Some (with_lwp agent_id (with_registers exit_registers) r.process) q (sym r.now ∙ live))
              (set-out r.process (it.1 r.process r.live)),
        )

    runs-exit : (p u : ProbeState) → u.code ≡ p.code → u.stack ≡ p.stack → HasFirst k pid 6 s.opens p.opened
        → Some (call.Ctl (number_of (handle_at p.opened (place_of AgentControl)))
        (spelling (message.Run 0) [])) ≡ Some c
        → ((e : Errno) → a.reply ≢ reply.Fail e)
        → HidesBoth true (covers pid) p × Where pid (StandsOut Leaving) s.system
        → HidesBoth true now u × Where pid GoesOut a.state.system
    runs-exit p u code stack holds same accepts it =
        let sent = agent-sent k pid first h c a lawful given p holds _ same in
        let n : ℕ = (agent k pid first h c a lawful given p holds).number in
        let r = run s k n pid a (agent-stands k pid first h c a lawful given p holds) accepts _ run-reads sent in (
          both-alike true p u code stack
              (ctl-still who none covers s k pid c _ _ (message.Run 0) same run-reads refl a.reply) it.0,
          λ q live.
              subst GoesOut (same_Some (with_lwp agent_id (run_lwp 0) r.process) q (sym r.now ∙ live))
              (run-out r.process (it.1 r.process r.live)),
        )

    -- the wait for its end leaves all as it is, and comes to an end where it is gone
    poll-alike : (p : ProbeState)
        → Some (call.Poll (number_of (handle_at p.opened (place_of AgentControl)) ∷ [])) ≡ Some c
        → AreAlike (covers pid) now
    poll-alike p same =
        subst (λ (d : Call). AreAlike (covers pid) (covers_called who covers s k d a.reply pid)) (same_Some _ c same)
        (call-still who none covers s k pid
        (call.Poll (number_of (handle_at p.opened (place_of AgentControl)) ∷ [])) a.reply refl)

    where-same : (P : TracedProcess → Type 0) → a.state.system ≡ s.system → Where pid P s.system
        → Where pid P a.state.system
    where-same P same so q live = so q (ap (λ (x : TracedSystem). live_process x pid) (sym same) ∙ live)

    waits-out : (p u : ProbeState) → u.code ≡ p.code → u.stack ≡ p.stack → HasFirst k pid 6 s.opens p.opened
        → Some (call.Poll (number_of (handle_at p.opened (place_of AgentControl)) ∷ [])) ≡ Some c
        → HidesOut pid (covers pid) s.system p → HidesOut pid now a.state.system u
    waits-out p u code stack holds same it = by it
      where
        system : a.state.system ≡ s.system
        system = same-system s k _ a refl (agent-polled k pid first h c a lawful given p holds same)

        by : HidesOut pid (covers pid) s.system p → HidesOut pid now a.state.system u
        by (inl goes) =
            inl (both-alike true p u code stack (poll-alike p same) goes.0, where-same GoesOut system goes.1)
        by (inr gone) =
            inr (both-alike false p u code stack (poll-alike p same) gone.0, where-same IsGone system gone.1)

    finds-gone : (p u : ProbeState) → u.code ≡ p.code → u.stack ≡ p.stack → HasFirst k pid 6 s.opens p.opened
        → Some (call.Poll (number_of (handle_at p.opened (place_of AgentControl)) ∷ [])) ≡ Some c
        → (m : ℕ) → a.reply ≡ reply.Ready m → (x : TracedProcess) → live_process s.system pid ≡ Some x
        → HidesOut pid (covers pid) s.system p → HidesBoth false now u × Where pid IsGone a.state.system
    finds-gone p u code stack holds same m ready x live it = by it
      where
        polls : answer_to s k (call.Poll ((agent k pid first h c a lawful given p holds).number ∷ [])) ≡ Some a
        polls = agent-polled k pid first h c a lawful given p holds same

        by : HidesOut pid (covers pid) s.system p → HidesBoth false now u × Where pid IsGone a.state.system
        by (inl goes) =
            let out = goes.1 x live in
            let n : ℕ = (agent k pid first h c a lawful given p holds).number in
            let stops =
            polled s k n pid a (agent-stands k pid first h c a lawful given p holds) x live out.agent out.there polls m
            ready in
            absurd (false≢true (sym (ap is_some out.running) ∙ stops))
        by (inr gone) = (
          both-alike false p u code stack (poll-alike p same) gone.0,
          where-same IsGone (same-system s k _ a refl polls) gone.1,
        )

    -- ---- what was written over is written back

    writes-code : (p u : ProbeState) → u.code ≡ p.code → u.stack ≡ p.stack → HasFirst k pid 6 s.opens p.opened
        → Some (call.Ctl (number_of (handle_at p.opened (place_of Control))) (write_bytes text_base p.code)) ≡ Some c
        → ((e : Errno) → a.reply ≢ reply.Fail e) → HidesBoth false (covers pid) p → Where pid IsGone s.system
        → HidesStack now u × Where pid IsGone a.state.system
    writes-code p u code stack holds same accepts it gone =
        let some : 0 < 6 = omega arith in
        let writes = code-written p.code it.code in
        let m : Message = message.Write text_base (length p.code) in
        let sent = sent-by k pid first h c a lawful given p 6 some holds _ same in
        let number = (file p 6 some holds).number in
        let used = write-used s k number pid a (stands p 6 some holds) accepts text_base p.code writes sent in
        let is = sent-cover p 6 some holds _ m same accepts writes.reads used.0 used.1 in
        let written = code-planted s k number pid a (stands p 6 some holds) accepts p.code it.code sent in
        let x : TracedProcess = written.process in
        let space : Space = with_bytes text_base p.code x.space in
        let lifted = lift-code p is.0 (length p.code) (covers pid) it in
        let cover : now ≡ cover_sent who k is.0 m p.code (covers pid) =
        is.1.1 ∙ ap (λ (tail : List ℕ). cover_sent who k is.0 m tail (covers pid)) writes.tail in
        let here = subst (λ (d : Cover). HidesStack d p) (sym cover) lifted in (
          record {
            patches =
                here.patches ∙ ap (λ (bs : List ℕ). record { at = stack_base; bytes = bs } ∷ []) (sym stack);
            agent_is = here.agent_is;
            stack = ap (λ (bs : List ℕ). length bs) stack ∙ here.stack;
          },
          λ q live.
              subst IsGone (same_Some (with_space space x) q (sym written.now ∙ live))
              (written-gone text_base p.code x (gone x written.live)),
        )

    writes-stack : (p u : ProbeState) → HasFirst k pid 6 s.opens p.opened
        → Some (call.Ctl (number_of (handle_at p.opened (place_of Control))) (write_bytes stack_base p.stack)) ≡ Some c
        → ((e : Errno) → a.reply ≢ reply.Fail e) → is_hiding u.stage ≡ false → HidesStack (covers pid) p → IsBareAfter u
    writes-stack p u holds same accepts past it =
        let some : 0 < 6 = omega arith in
        let writes = stack-written p.stack it.stack in
        let m : Message = message.Write stack_base (length p.stack) in
        let sent = sent-by k pid first h c a lawful given p 6 some holds _ same in
        let number = (file p 6 some holds).number in
        let used = write-used s k number pid a (stands p 6 some holds) accepts stack_base p.stack writes sent in
        let is = sent-cover p 6 some holds _ m same accepts writes.reads used.0 used.1 in
        let cover : now ≡ cover_sent who k is.0 m p.stack (covers pid) =
        is.1.1 ∙ ap (λ (tail : List ℕ). cover_sent who k is.0 m tail (covers pid)) writes.tail in
        let lifted = lift-stack p is.0 (length p.stack) (covers pid) it in
        record {
          patches = ap (λ (d : Cover). d.patches) cover ∙ lifted.0;
          agent = ap (λ (d : Cover). d.agent) cover ∙ lifted.1;
          past = past;
        }

    -- ---- a row a stage

    module _ (ask : (m : Making k pid first h) → IsAsking k pid first h m) (x : TracedProcess)
        (live : live_process s.system pid ≡ Some x) where
      read-alike : (p : ProbeState) (f : ProbeFile)
          → Some (call.Read (number_of (handle_at p.opened (place_of f))) 0 read_limit) ≡ Some c
          → AreAlike (covers pid) now
      read-alike p f same =
          subst (λ (d : Call). AreAlike (covers pid) (covers_called who covers s k d a.reply pid)) (same_Some _ c same)
          (call-still who none covers s k pid
          (call.Read (number_of (handle_at p.opened (place_of f))) 0 read_limit) a.reply refl)

      after-poll-asks : (p : ProbeState) (d : ℕ) → HidesBoth true now p
          → Next (after_poll (at_stage p (stage.Asking d Await)) a.reply)
      unfolding Hides advanced with_next stage_after asking_after
      after-poll-asks p d it =
          poll-by Next (at_stage p (stage.Asking d Await)) a.reply
          (inl (both-as true now p (at_stage p (stage.Asking d Await)) refl refl it))
          (inl (both-as true now p (at_stage p (stage.Asking d ReadAgent)) refl refl it))

      asks-row : (p : ProbeState) (d : ℕ) (step : AskingStep)
          → HasFirst k pid 6 s.opens p.opened
          → Reads k pid first h s (at_stage p (stage.Asking d step)) (stage.Asking d step)
          → HidesBoth true (covers pid) p → Some (asking_call (at_stage p (stage.Asking d step)) d step) ≡ Some c
          → Next (asking_accepted (at_stage p (stage.Asking d step)) a.reply d step)
      unfolding Reads Hides asking_call asking_accepted advanced with_next stage_after asking_after
      asks-row p d SetRegisters holds reads it same =
          let small : d < descriptor_limit = (reads.so (ask reads.making) x live).1.0 in
          inl (both-alike true p (at_stage p (stage.Asking d RunAgent)) refl refl
          (ctl-still who none covers s k pid c _ _ (message.Sreg (asks d)) same
          (registers-read d small) refl a.reply) it)
      asks-row p d RunAgent holds reads it same =
          inl (both-alike true p (at_stage p (stage.Asking d Await)) refl refl
          (ctl-still who none covers s k pid c _ _ (message.Run 0) same run-reads refl a.reply) it)
      asks-row p d Await holds reads it same =
          after-poll-asks p d (both-alike true p p refl refl (poll-alike p same) it)
      asks-row p d ReadAgent holds reads it same =
          let here = both-alike true p p refl refl (read-alike p AgentStatus same) it in
          answer-by Next (at_stage p (stage.Asking d ReadAgent)) d (bytes_read a.reply)
          (inl (both-as true now p (at_stage p (stage.Asking d ReadKind)) refl refl here))
          (inl (hides-asked d (at_stage p (stage_asked d))
          (both-as true now p (at_stage p (stage_asked d)) refl refl here)))
      asks-row p d ReadKind holds reads it same =
          let at : ProbeState = at_stage p (stage.Asking d ReadKind) in
          let seen : Option FdKind = kind_in (bytes_read a.reply) in
          let u : ProbeState = asked (with_kind at d seen) d in
          inl (hides-asked d u
          (both-alike true p u (kind-kept (λ t. t.code) (λ t lines. refl) at d seen)
          (kind-kept (λ t. t.stack) (λ t lines. refl) at d seen)
          (ctl-still who none covers s k pid c _ _ (message.Read stack_base 8) same kind-reads refl a.reply) it))

      exit-polled : (p : ProbeState) → HasFirst k pid 6 s.opens p.opened
          → Some (call.Poll (number_of (handle_at p.opened (place_of AgentControl)) ∷ [])) ≡ Some c
          → HidesOut pid (covers pid) s.system p
          → FindsReady s k (number_of (handle_at p.opened (place_of AgentControl)) ∷ []) a.reply ⊎ IsRefusal a.reply
          → Next (after_poll (at_stage p stage.AwaitExit) a.reply)
      unfolding Hides after_poll advanced with_next stage_after
      exit-polled p holds same it (inl finds) =
          subst (λ (r : Reply). Next (after_poll (at_stage p stage.AwaitExit) r)) (sym finds.reply)
          (inl (finds-gone p (at_stage p stage.WriteCode) refl refl holds same finds.handle finds.reply x live it))
      exit-polled p holds same it (inr denied) =
          subst (λ (r : Reply). Next (after_poll (at_stage p stage.AwaitExit) r)) (sym denied.reply)
          (inl (waits-out p (at_stage p stage.AwaitExit) refl refl holds same it))

      pub step-hides : (p : ProbeState) (g : ProbeStage) → Knows k pid first h s (at_stage p g) g
          → Reads k pid first h s (at_stage p g) g → Hides pid (covers pid) s.system (at_stage p g) g
          → call_of (at_stage p g) g ≡ Some c → refusal_in g a.reply ≡ None → Next (accepted (at_stage p g) a.reply g)
      unfolding Hides Knows Reads call_of accepted advanced with_next stage_after stage_opened place_of kind_after
          is_passed_over is_hiding
      step-hides p (stage.Open AgentControl) knows reads it same right =
          inl (opens AgentControl (at_stage p (stage.Open AgentControl)) _ knows.its refl refl same
          (taken k pid first h c a lawful given (stage.Open AgentControl) (λ e. refl) right) it)
      step-hides p (stage.Open AgentStatus) knows reads it same right =
          inl (opens AgentStatus (at_stage p (stage.Open AgentStatus)) _ knows.its refl refl same
          (taken k pid first h c a lawful given (stage.Open AgentStatus) (λ e. refl) right) it)
      step-hides p stage.PlantCode knows reads it same right =
          inl (plants (at_stage p stage.PlantCode) _ refl refl knows.holds same
          (taken k pid first h c a lawful given stage.PlantCode (λ e. refl) right) it)
      step-hides p (stage.Asking d step) knows reads it same right =
          asks-row p d step knows.holds reads (both-as true (covers pid)
          (at_stage p (stage.Asking d step)) p refl refl it)
          same
      step-hides p stage.UntraceExits knows reads it same right =
          inl (untraces (at_stage p stage.UntraceExits) _ refl refl knows.holds
          (λ q here. (reads.so (ask reads.making) q here).0) same
          (taken k pid first h c a lawful given stage.UntraceExits (λ e. refl) right) it)
      step-hides p stage.SetExit knows reads it same right =
          inl (sets-exit (at_stage p stage.SetExit) _ refl refl knows.holds same
          (taken k pid first h c a lawful given stage.SetExit (λ e. refl) right) it)
      step-hides p stage.RunExit knows reads it same right =
          inl (inl (runs-exit (at_stage p stage.RunExit) _ refl refl knows.holds same
          (taken k pid first h c a lawful given stage.RunExit (λ e. refl) right) it))
      step-hides p stage.AwaitExit knows reads it same right =
          exit-polled (at_stage p stage.AwaitExit) knows.holds same it
          (poll-replies s k (number_of (handle_at p.opened (place_of AgentControl)) ∷ []) a
          (its k pid first h c a lawful given _ same))
      step-hides p stage.WriteCode knows reads it same right =
          inl (writes-code (at_stage p stage.WriteCode) _ refl refl knows.holds same
          (taken k pid first h c a lawful given stage.WriteCode (λ e. refl) right) it.0 it.1)
      step-hides p stage.WriteStack knows reads it same right =
          inr (writes-stack (at_stage p stage.WriteStack) _ knows.holds same
          (taken k pid first h c a lawful given stage.WriteStack (λ e. refl) right) refl it.0)
      step-hides p _ knows reads it same right = absurd it

    -- ---- the handle that a special call names, and its message

    abbrev aims : Held → Type 0
    aims held = held.pid ≡ pid

    named-control : (p : ProbeState) (many : ℕ) (some : 0 < many) → HasFirst k pid many s.opens p.opened
        → (bytes : List ℕ) (number : ℕ) (sent : List ℕ)
        → Some (call.Ctl (number_of (handle_at p.opened (place_of Control))) bytes) ≡ Some (call.Ctl number sent)
        → (handle_in s.opens k number ≡ Some (writer_of k pid)) × (sent ≡ bytes)
    named-control p many some holds bytes number sent same =
        let it = control k pid first h c a lawful given p many some holds in
        let both : call.Ctl (number_of (handle_at p.opened (place_of Control))) bytes ≡ call.Ctl number sent =
        same_Some _ (call.Ctl number sent) same in
        let numbers : number_of (handle_at p.opened (place_of Control)) ≡ number = cc in
        let its_bytes : bytes ≡ sent = cc in (
          ap (handle_in s.opens k) (sym numbers ∙ ap number_of it.at)
              ∙ control-stands k pid first h c a lawful given p many some holds,
          sym its_bytes,
        )

    named-agent : (p : ProbeState) → HasFirst k pid 6 s.opens p.opened → (bytes : List ℕ) (number : ℕ) (sent : List ℕ)
        → Some (call.Ctl (number_of (handle_at p.opened (place_of AgentControl))) bytes) ≡ Some (call.Ctl number sent)
        → (handle_in s.opens k number ≡ Some (agent_writer k pid)) × (sent ≡ bytes)
    named-agent p holds bytes number sent same =
        let it = agent k pid first h c a lawful given p holds in
        let both : call.Ctl (number_of (handle_at p.opened (place_of AgentControl))) bytes ≡ call.Ctl number sent =
        same_Some _ (call.Ctl number sent) same in
        let numbers : number_of (handle_at p.opened (place_of AgentControl)) ≡ number = cc in
        let its_bytes : bytes ≡ sent = cc in (
          ap (handle_in s.opens k) (sym numbers ∙ ap number_of it.at)
              ∙ agent-stands k pid first h c a lawful given p holds,
          sym its_bytes,
        )

    -- such a handle is one of its process
    pub record IsNamed (number : ℕ) : Type 0 where
      pub held : Held
      pub there : handle_in s.opens k number ≡ Some held
      pub its : held.pid ≡ pid

    by-control : (p : ProbeState) (many : ℕ) (some : 0 < many) → HasFirst k pid many s.opens p.opened
        → (bytes : List ℕ) (number : ℕ) (sent : List ℕ)
        → Some (call.Ctl (number_of (handle_at p.opened (place_of Control))) bytes) ≡ Some (call.Ctl number sent)
        → IsNamed number
    by-control p many some holds bytes number sent same = record {
      held = writer_of k pid;
      there = (named-control p many some holds bytes number sent same).0;
      its = refl;
    }

    by-agent : (p : ProbeState) → HasFirst k pid 6 s.opens p.opened → (bytes : List ℕ) (number : ℕ) (sent : List ℕ)
        → Some (call.Ctl (number_of (handle_at p.opened (place_of AgentControl))) bytes) ≡ Some (call.Ctl number sent)
        → IsNamed number
    by-agent p holds bytes number sent same =
        record { held = agent_writer k pid; there = (named-agent p holds bytes number sent same).0; its = refl }

    pub special-names : (p : ProbeState) (g : ProbeStage) → is_special g ≡ true → Knows k pid first h s (at_stage p g) g
        → (number : ℕ) (sent : List ℕ) → call_of (at_stage p g) g ≡ Some (call.Ctl number sent) → IsNamed number
    unfolding is_special Knows call_of asking_call
    special-names p stage.MakeAgent special knows number sent same =
        by-control (at_stage p stage.MakeAgent) 4 (omega arith) knows.holds _ number sent same
    special-names p stage.PlantCode special knows number sent same =
        by-control (at_stage p stage.PlantCode) 6 (omega arith) knows.holds _ number sent same
    special-names p (stage.Asking d SetRegisters) special knows number sent same =
        by-agent (at_stage p (stage.Asking d SetRegisters)) knows.holds _ number sent same
    special-names p stage.SetExit special knows number sent same =
        by-agent (at_stage p stage.SetExit) knows.holds _ number sent same
    special-names p stage.WriteCode special knows number sent same =
        by-control (at_stage p stage.WriteCode) 6 (omega arith) knows.holds _ number sent same
    special-names p stage.WriteStack special knows number sent same =
        by-control (at_stage p stage.WriteStack) 6 (omega arith) knows.holds _ number sent same
    special-names p _ special knows number sent same = absurd (false≢true special)

    -- ---- its special messages are tidy

    module _ (spaces : (q : TracedProcess) → live_process s.system pid ≡ Some q → IsSpace q.space)
        (number : ℕ) (sent : List ℕ) (held : Held) (q : TracedProcess) (m : Message) (len : ℕ)
        (there : handle_in s.opens k number ≡ Some held) (target_is : target_of s.system held ≡ Some q)
        (read : first_message sent ≡ Ok (m, len)) where
      abbrev Goal : Type 0
      Goal = IsTidyMessage who k covers s.system held.pid q (aim_of held) m (tail_of m sent)

      sent-tidy : (to : Held) (bytes : List ℕ) (msg : Message) → ReadsAs msg (first_message bytes)
          → (handle_in s.opens k number ≡ Some to) × (sent ≡ bytes)
          → IsTidyMessage who k covers s.system to.pid q (aim_of to) msg (tail_of msg bytes) → Goal
      sent-tidy to bytes msg reads named base =
          let held_is : held ≡ to = same_Some held to (sym there ∙ named.0) in
          let msg_is : m ≡ msg =
          reads-same who none bytes msg m len reads
          (subst (λ (bs : List ℕ). first_message bs ≡ Ok (m, len)) named.1 read) in
          subst (λ (hd : Held). IsTidyMessage who k covers s.system hd.pid q (aim_of hd) m (tail_of m sent))
          (sym held_is)
          (subst (λ (x : Message). IsTidyMessage who k covers s.system to.pid q (aim_of to) x (tail_of x sent))
          (sym msg_is)
          (subst (λ (bs : List ℕ). IsTidyMessage who k covers s.system to.pid q (aim_of to) msg (tail_of msg bs))
          (sym named.1) base))

      -- the process, where the handle is that of the control file
      its-live : handle_in s.opens k number ≡ Some (writer_of k pid) → live_process s.system pid ≡ Some q
      its-live named =
          sym (target-live s k number (writer_of k pid) named refl)
          ∙ ap (target_of s.system) (sym (same_Some held (writer_of k pid) (sym there ∙ named))) ∙ target_is

      pub special-tidy : (p : ProbeState) (g : ProbeStage) → is_special g ≡ true
          → Knows k pid first h s (at_stage p g) g
          → ((d : ℕ) → g ≡ stage.Asking d SetRegisters → d < descriptor_limit)
          → (g ≡ stage.MakeAgent) ⊎ Hides pid (covers pid) s.system (at_stage p g) g
          → call_of (at_stage p g) g ≡ Some (call.Ctl number sent) → Goal
      unfolding is_special Knows Hides call_of asking_call
      special-tidy p stage.MakeAgent special knows small hides same =
          sent-tidy (writer_of k pid) _ (message.Agent (asks 0)) agent-read
          (named-control (at_stage p stage.MakeAgent) 4 (omega arith) knows.holds _ number sent same) tt
      special-tidy p stage.PlantCode special knows small (inr hides) same =
          let at : ProbeState = at_stage p stage.PlantCode in
          let writes = code-written planted planted-size in
          let named = named-control at 6 (omega arith) knows.holds _ number sent same in
          let here = its-live named.0 in
          sent-tidy (writer_of k pid) _ (message.Write text_base (length planted)) writes.reads named
          (plant-tidy who k hider covers s.system pid q at (aim_of (writer_of k pid)) (length planted)
          (tail_of (message.Write text_base (length planted)) (write_bytes text_base planted)) hides.none
          (hides.stands q here)
          (spaces q here) (ap (λ (bs : List ℕ). length bs) writes.tail ∙ planted-size))
      special-tidy p (stage.Asking d SetRegisters) special knows small (inr hides) same =
          let at : ProbeState = at_stage p (stage.Asking d SetRegisters) in
          sent-tidy (agent_writer k pid) _ (message.Sreg (asks d)) (registers-read d (small d refl))
          (named-agent at knows.holds _ number sent same)
          (registers-tidy who k hider covers s.system pid q (asks d)
          (tail_of (message.Sreg (asks d)) (spelling (message.Sreg (asks d)) [])) hides.agent_is)
      special-tidy p stage.SetExit special knows small (inr hides) same =
          sent-tidy (agent_writer k pid) _ (message.Sreg exit_registers) exit-reads
          (named-agent (at_stage p stage.SetExit) knows.holds _ number sent same)
          (registers-tidy who k hider covers s.system pid q exit_registers
          (tail_of (message.Sreg exit_registers) (spelling (message.Sreg exit_registers) [])) hides.0.agent_is)
      special-tidy p stage.WriteCode special knows small (inr hides) same =
          let at : ProbeState = at_stage p stage.WriteCode in
          let writes = code-written p.code hides.0.code in
          let msg : Message = message.Write text_base (length p.code) in
          sent-tidy (writer_of k pid) _ msg writes.reads
          (named-control at 6 (omega arith) knows.holds _ number sent same)
          (subst (λ (tail : List ℕ). IsTidyMessage who k covers s.system pid q (aim_of (writer_of k pid)) msg tail)
          (sym writes.tail) (code-tidy who k hider covers s.system pid q false at (aim_of (writer_of k pid))
          (length p.code) hides.0))
      special-tidy p stage.WriteStack special knows small (inr hides) same =
          let at : ProbeState = at_stage p stage.WriteStack in
          let writes = stack-written p.stack hides.0.stack in
          let msg : Message = message.Write stack_base (length p.stack) in
          sent-tidy (writer_of k pid) _ msg writes.reads
          (named-control at 6 (omega arith) knows.holds _ number sent same)
          (subst (λ (tail : List ℕ). IsTidyMessage who k covers s.system pid q (aim_of (writer_of k pid)) msg tail)
          (sym writes.tail) (stack-tidy who k hider covers s.system pid q at (aim_of (writer_of k pid))
          (length p.stack) hides.0))
      special-tidy p _ special knows small (inl make) same = absurd (cc)
      special-tidy p _ special knows small (inr hides) same = absurd (false≢true special)
