use Rattle.std.proofs.Common.{cond, nat_lt, is_some, ◌≡◌, ◌≢◌, ◌⊎◌, ◌<◌, ◌≤◌, ◌+◌, ◌-◌, ◌∷◌, ◌++◌, ℕ, Bool, true, false, List, [], Option, Some, None, Ok, length, take, refl, sym, subst, ap, ◌∙◌, inl, inr, arith}
use Rattle.std.proofs.lemmas.Bool.{false≢true, ltb-false, ltb-true}
use Rattle.std.proofs.lemmas.List.{append_assoc}
use Rattle.std.proofs.lemmas.Option.{same_Some}
use Rattle.std.specs.List.{All}
use Rattle.pr_api.specs.Entries.{call_entry}
use Rattle.pr_keeps.proofs.LoanLemmas.{own-space}
use Rattle.pr_model.specs.Readers.{space_seen}
use Rattle.pr_lawful.proofs.LawfulTurns.EndLemmas.{found-live}
use Rattle.pr_model.specs.Calls.{Answer, answer_to, answered}
use Rattle.pr_model.specs.Changes.{with_space}
use Rattle.pr_model.specs.Handles.{handle_of as handle_in}
use Rattle.pr_model.specs.Lawful.{IsLawful}
use Rattle.pr_model.specs.Legal.{state_after}
use Rattle.pr_model.specs.Messages.{with_agent, with_control, with_registers}
use Rattle.pr_model.specs.Reads.{file_read, part_read}
use Rattle.pr_model.specs.Replies.{number_of, opened_in}
use Rattle.pr_model.specs.Running.{run_lwp}
use Rattle.pr_model.specs.State.{TracedLwp, TracedProcess, TracedState, TracedSystem, live_process, with_lwp}
use Rattle.pr_model.specs.Statuses.{errno_in, error_of, lwpstatus_of}
use Rattle.pr_model.specs.declared.lwps.Phase.{Phase}
use Rattle.pr_model.specs.declared.lwps.Phase.TheVariants as phase
use Rattle.pr_num.specs.declared.messages.Message.{Message}
use Rattle.pr_probe_laws.specs.SetsBack.{IsSoleIn}
use Rattle.pr_model.specs.declared.calls.Call.{Call}
use Rattle.pr_model.specs.declared.calls.Call.TheVariants as call
use Rattle.pr_model.specs.declared.calls.File.TheVariants as file
use Rattle.pr_model.specs.declared.calls.Reply.{Reply}
use Rattle.pr_model.specs.declared.calls.Reply.TheVariants as reply
use Rattle.pr_model.specs.declared.events.Entry.{Entry}
use Rattle.pr_model.specs.declared.events.Res.{Res}
use Rattle.pr_num.specs.Agents.{agent_id}
use Rattle.pr_num.specs.Files.{fd_kind_number}
use Rattle.pr_num.specs.Layout.{stack_base, text_base}
use Rattle.pr_num.specs.Limits.{descriptor_limit, read_limit}
use Rattle.pr_num.specs.Messages.{spelling}
use Rattle.pr_num.specs.Records.{lwpstatus_ranges}
use Rattle.pr_num.specs.Spaces.{Space, bytes_for}
use Rattle.pr_num.specs.Words.{word_bytes}
use Rattle.pr_num.specs.declared.errnos.Errno.{Errno}
use Rattle.pr_num.specs.declared.errnos.Errno.TheVariants.{Busy, Fault}
use Rattle.pr_num.specs.declared.files.FdKind.{FdKind}
use Rattle.pr_num.specs.declared.messages.Message.TheVariants as message
use Rattle.pr_num.specs.declared.syscalls.Sysno.TheVariants.{Fstat}
use Rattle.pr_parts.specs.AddressSpaces.{with_bytes}
use Rattle.pr_probe.proofs.FedLemmas.{fed-back, fed-by, kind-kept, not-refused, poll-by, run-next-by}
use Rattle.pr_probe.specs.AgentCode.{code_size, planted, stack_size}
use Rattle.pr_probe.specs.DescriptorLines.{kind_in}
use Rattle.pr_probe.specs.ProbeStages.{asking_after, file_of, is_asking_passed_over, is_passed_over, lwp_of, mode_of, place_of, stage_after, stage_asked, stage_opened}
use Rattle.pr_probe.specs.Probes.{ProbeState, accepted, advanced, after_poll, asked, asking_accepted, asking_call, at_stage, call_of, fed, next_call_of, refusal_in, refused, set_call, shows_open, with_answer, with_kind, with_map, with_next, with_status}
use Rattle.pr_probe.specs.Regions.{has_room}
use Rattle.pr_probe.specs.TracedSets.{agent_sets, kind_after, no_sets, set_word, trace_message}
use Rattle.pr_probe.specs.declared.descriptor_lines.OpenDescriptor.{OpenDescriptor}
use Rattle.pr_probe.specs.declared.probe_stages.AskingStep.{AskingStep}
use Rattle.pr_probe.specs.declared.probe_stages.AskingStep.TheVariants.{SetRegisters, Run as RunAgent, Await, ReadAgent, ReadKind}
use Rattle.pr_probe.specs.declared.probe_stages.ProbeFile.{ProbeFile}
use Rattle.pr_probe.specs.declared.probe_stages.ProbeFile.TheVariants.{Control, Status, Lstatus, Map, AgentControl, AgentStatus}
use Rattle.pr_probe.specs.declared.probe_stages.ProbeStage.{ProbeStage}
use Rattle.pr_probe.specs.declared.probe_stages.ProbeStage.TheVariants as stage
use Rattle.pr_probe.specs.declared.traced_sets.SetKind.{SetKind}
use Rattle.pr_probe.specs.declared.traced_sets.SetKind.TheVariants.{Signals, Faults, Entries, Exits}
use Rattle.pr_probe.specs.declared.traced_sets.TracedSets.{TracedSets}
use Rattle.pr_reached.proofs.RecordsInRange.EntryRanges.{records-range}
use Rattle.pr_rec.specs.Reading.{record_read}
use Rattle.pr_rec.specs.RecordBytes.{lwpstatus_bytes}
use Rattle.pr_report_laws.proofs.Machine.ControlLaws.{run-reads}
use Rattle.pr_report_laws.proofs.Machine.PollLaws.{FindsReady, IsRefusal, poll-replies}
use Rattle.pr_tool_laws.proofs.Pstack.StackReads.{read-answer}
use Rattle.pr_tools.specs.Handles.{handle_at, nothing_open, with_handle}
use Rattle.pr_tools.specs.Replies.{bytes_read}
use Rattle.pr_tools.specs.declared.handles.Opened.{Opened}
use Rattle.pr_truss_laws.proofs.Files.OpensLemmas.{keeps_handles}
use Rattle.pr_truss_laws.specs.Stills.{IsHalting}
use Rattle.pr_probe_laws.proofs.Agents.AgentCalls.{agent-lives, agent_writer, polled, registered, run}
use Rattle.pr_probe_laws.proofs.Agents.AgentTurns.{IsFetchable, IsPlanted, asks}
use Rattle.pr_lawful.proofs.LawfulStates.CallLemmas.{call-state}
use Rattle.pr_probe_laws.proofs.Files.FileEntries.{call-stay, kinds-stay}
use Rattle.pr_probe_laws.proofs.Files.FilePlaces.{HasFile, HasFirst, held_of, none-first}
use Rattle.pr_probe_laws.proofs.PuttingBack.MemoryMessages.{read-given, read_bytes, write_bytes, writer_of}
use Rattle.pr_probe_laws.proofs.Room.RoomCalls.{agent-proper, looks, rooms, saves-code, saves-stack, sets, stops, where-same}
use Rattle.pr_probe_laws.proofs.Room.RoomStages.{HasBoth, HasCode, IsLooked, IsRoomy, Unlent, Where}
use Rattle.pr_probe_laws.proofs.Sets.SetCalls.{back-on, control, control-stands, entries-on, exits-on, faults-on, handles-stay, its, its-open, open-first, open-system, sent-by, signals-on, taken, word-proper}
use Rattle.pr_probe_laws.proofs.Sets.SetMessages.{set-done, setting, still-lives}
use Rattle.pr_probe_laws.proofs.Sets.SetStages.{AllBack, Began, EntriesBack, FaultsBack, IsFair, NoneBack, SignalsBack, began-still, fair-front, since}
use Rattle.pr_probe_laws.proofs.Sets.StatusSets.{bytes-given, same-system}
use Rattle.pr_probe_laws.proofs.Hiding.HiddenMessages.{agent-used}
use Rattle.pr_probe_laws.proofs.OneState.TextMessages.{agent-made, agent-read, asked-agent, asked-so, changed-fds, changed-with, code-planted, kind-reads, made-with, planted-size, planted-with, read-stays, registers-read, run-agent, run-so}
use Rattle.pr_probe_laws.proofs.OneState.TextReads.{agent-shows, agent-there, found-all, found-first, found-open, found-shut, kind-back, kind-noted, shows}
use Rattle.pr_probe_laws.proofs.OneState.TextStages.{Asks, Comes, HasFound, HasShown, IsAll, IsAnsweredOf, IsAsked, IsAsking, IsBack, IsFree, IsKnown, IsMade, IsOut, IsRanged, IsToAsk, Making, Nothing, Reads, Runs, SameKinds, Stands, TellsKind, TracesSo, TracesWith, WithAgent, asking-front, found-still, making-still, on_its_way, ranged-now, shown-still}
use Rattle.pr_probe_laws.specs.SetsBack.{sets_on}
use Rattle.pr_probe_laws.specs.ShownDescriptors.{HasRoom, WasUnlent, kind_at}
use Rattle.pr_tool_laws.specs.Leaving.{IsNoCall, SendsTo}

-- What a call of apfiles makes of what its agent was answered.

-- one descriptor after another
module _ (pid : ℕ) where
  -- a descriptor was done with
  abbrev pub IsDone : List OpenDescriptor → ℕ → TracedSystem → TracedProcess → Type 0
  IsDone lines d s q = WithAgent IsPlanted Stands q × ((d < descriptor_limit) × HasFound lines (d + 1) s.files q.fds)

module _ (k pid : ℕ) (first : TracedState) (h : List Entry) (c : Call) (a : Answer)
    (lawful : IsLawful (state_after first h)) (given : answer_to (state_after first h) k c ≡ Some a) where
  abbrev s : TracedState
  s = state_after first h

  abbrev it : Entry
  it = call_entry k c a.reply

  abbrev longer : List Entry
  longer = h ++ it ∷ []

  -- what is known once the reply was fed
  abbrev pub Next : ProbeState → Type 0
  Next u = u.refusal ≡ None → Reads k pid first longer a.state u u.stage

  abbrev more : Making k pid first h → Making k pid first longer
  more m = making-still k pid first h it m

  files-stay : (d : Call) → Some d ≡ Some c → keeps_handles d ≡ true → (many : ℕ) (o : Opened)
      → HasFirst k pid many s.opens o → HasFirst k pid many a.state.opens o
  files-stay = handles-stay k pid first h c a lawful given

  -- ---- before the agent

  comes-called : (p u : ProbeState) (many now : ℕ) (F G : TracedSystem → Type 0) → u.pid ≡ p.pid → u.lines ≡ p.lines
      → HasFirst k pid now a.state.opens u.opened
      → ((b : Began k pid first h) → IsFair k pid first h b → F s.system → G a.state.system)
      → Comes k pid first h s p many F → Comes k pid first longer a.state u now G
  comes-called p u many now F G same lines holds on before = record {
    began = began-still k pid first h it before.began;
    its = same ∙ before.its;
    none = lines ∙ before.none;
    holds = holds;
    so = λ fair.
        let front : IsFair k pid first h before.began = fair-front k pid first h it before.began fair in
        on before.began front (before.so front);
  }

  comes-as : (p u : ProbeState) (many : ℕ) (F : TracedSystem → Type 0) → u.pid ≡ p.pid → u.opened ≡ p.opened
      → u.lines ≡ p.lines → Comes k pid first longer a.state p many F → Comes k pid first longer a.state u many F
  comes-as p u many F its_pid files lines before = record {
    began = before.began;
    its = its_pid ∙ before.its;
    none = lines ∙ before.none;
    holds = subst (λ (o : Opened). HasFirst k pid many a.state.opens o) (sym files) before.holds;
    so = before.so;
  }

  abbrev opened_by : ProbeFile → ProbeState → ProbeState
  opened_by f p = record p { opened = with_handle p.opened (place_of f) (opened_in a.reply) }

  begins : (p : ProbeState) → (p.pid ≡ pid) × (p.opened ≡ nothing_open) × (p.lines ≡ [])
      × All (IsNoCall k) h → Some (call.Open p.pid (lwp_of Control) (file_of Control) (mode_of Control)) ≡ Some c
      → ((e : Errno) → a.reply ≢ reply.Fail e)
      → Comes k pid first longer a.state (opened_by Control p) 1 (Nothing k pid first)
  unfolding place_of lwp_of file_of mode_of
  begins p so same accepts = record {
    began = record {
      before = h;
      opened = a.reply;
      later = [];
      place =
          ap (λ (d : Call). h ++ call_entry k d a.reply ∷ [])
          (its-open k pid first h c a lawful given Control p so.0 same accepts);
      first_call = so.3;
    };
    its = so.0;
    none = so.2;
    holds = open-first k pid first h c a lawful given Control p so.0 same accepts
        (subst (λ (o : Opened). HasFirst k pid 0 s.opens o) (sym so.1) (none-first k pid s.opens));
    so = λ fair. tt;
  }

  comes-open : (f : ProbeFile) (p : ProbeState) → Comes k pid first h s p (place_of f) (Nothing k pid first)
      → Some (call.Open p.pid (lwp_of f) (file_of f) (mode_of f)) ≡ Some c
      → ((e : Errno) → a.reply ≢ reply.Fail e)
      → Comes k pid first longer a.state (opened_by f p) (place_of f + 1) (Nothing k pid first)
  comes-open f p before same accepts =
      comes-called p (opened_by f p) (place_of f) (place_of f + 1) (Nothing k pid first) (Nothing k pid first) refl refl
      (open-first k pid first h c a lawful given f p before.its same accepts before.holds) (λ b fair so. tt) before

  comes-plain : (d : Call) → Some d ≡ Some c → keeps_handles d ≡ true → (p u : ProbeState) (many : ℕ)
      (G : TracedSystem → Type 0) → G a.state.system → u.pid ≡ p.pid → u.opened ≡ p.opened → u.lines ≡ p.lines
      → Comes k pid first h s p many (Nothing k pid first) → Comes k pid first longer a.state u many G
  comes-plain d same keeps p u many G so its_pid files lines before =
      comes-called p u many many (Nothing k pid first) G its_pid lines
      (subst (λ (o : Opened). HasFirst k pid many a.state.opens o) (sym files)
      (files-stay d same keeps many p.opened before.holds))
      (λ b fair nothing. so) before

  -- with what becomes known of the process
  comes-with : (d : Call) → Some d ≡ Some c → keeps_handles d ≡ true → (p u : ProbeState)
      (F G : TracedSystem → Type 0) → u.pid ≡ p.pid → u.opened ≡ p.opened → u.lines ≡ p.lines
      → ((b : Began k pid first h) → IsFair k pid first h b → F s.system → G a.state.system)
      → Comes k pid first h s p 4 F → Comes k pid first longer a.state u 4 G
  comes-with d same keeps p u F G its_pid files lines on before =
      comes-called p u 4 4 F G its_pid lines
      (subst (λ (o : Opened). HasFirst k pid 4 a.state.opens o) (sym files)
      (files-stay d same keeps 4 p.opened before.holds)) on before

  -- one of the sets is set for the agent
  comes-traced : (R S : TracedSets → TracedSets → Type 0) (kind : SetKind) → back-on R S kind → (p u : ProbeState)
      → u.pid ≡ p.pid → u.opened ≡ p.opened → u.lines ≡ p.lines
      → u.code ≡ p.code → u.stack ≡ p.stack → Comes k pid first h s p 4 (TracesWith k pid first h p R)
      → Some (set_call p kind agent_sets) ≡ Some c → ((e : Errno) → a.reply ≢ reply.Fail e)
      → Comes k pid first longer a.state u 4 (TracesWith k pid first longer u S)
  unfolding with_control
  comes-traced R S kind on p u its_pid files lines code stack before same accepts =
      comes-called p u 4 4 (TracesWith k pid first h p R) (TracesWith k pid first longer u S) its_pid lines
      (subst (λ (o : Opened). HasFirst k pid 4 a.state.opens o) (sym files)
      (files-stay _ same refl 4 p.opened before.holds))
      (λ b fair known. (
        traced known.0,
        sets k pid first h c a lawful given p u kind code stack before.holds same accepts known.1,
      )) before
    where
      traced : TracesSo k pid first R s.system → TracesSo k pid first S a.state.system
      traced so q live =
          let some : 0 < 4 = omega arith in
          let file = control k pid first h c a lawful given p 4 some before.holds in
          let stands = control-stands k pid first h c a lawful given p 4 some before.holds in
          let sent = sent-by k pid first h c a lawful given p 4 some before.holds _ same in
          let lives = still-lives s k file.number pid a stands accepts _ sent in
          let x : TracedProcess = lives.process in
          let w : ℕ = set_word agent_sets kind in
          let proper = word-proper kind agent_sets agent-proper in
          let now = set-done s k file.number pid a stands accepts x lives.live kind w proper sent in
          let is : with_control (setting kind w) x ≡ q =
          same_Some (with_control (setting kind w) x) q (sym now ∙ live) in
          subst (λ (y : TracedProcess). S agent_sets (sets_on y)) is (on agent_sets x agent-proper (so x lives.live))

  -- ---- the agent is made

  -- a message to the control file
  sends : (p : ProbeState) (many : ℕ) (some : 0 < many) (holds : HasFirst k pid many s.opens p.opened)
      (m : Message) → Some (call.Ctl (number_of (handle_at p.opened (place_of Control))) (spelling m [])) ≡ Some c
      → SendsTo k pid m [] s c
  sends p many some holds m same =
      let file = control k pid first h c a lawful given p many some holds in
      record {
        handle = file.number;
        held = writer_of k pid;
        sends =
            sym (same_Some _ c same) ∙ ap (λ (o : Option ℕ). call.Ctl (number_of o) (spelling m [])) file.at;
        there = control-stands k pid first h c a lawful given p many some holds;
        of = refl;
        file = refl;
      }

  -- the conditions are those of its front
  fair-here : (b : Began k pid first h) (sole : IsSoleIn k pid first b.before (since k pid first h b ++ it ∷ []))
      → ((front back : List Entry) → longer ≡ front ++ back → IsRanged k pid first (state_after first front).system)
      → IsFair k pid first h b
  fair-here b sole ranged = record {
    sole = record {
      each = λ front back split.
          sole.each front (back ++ it ∷ []) (split-here (since k pid first h b) front back split);
    };
    ranged = λ front back split. (ranged front (back ++ it ∷ []) (split-here h front back split)).range;
  }
    where
      split-here : (all front back : List Entry) → all ≡ front ++ back → all ++ it ∷ [] ≡ front ++ (back ++ it ∷ [])
      split-here all front back split =
          ap (λ (es : List Entry). es ++ it ∷ []) split ∙ append_assoc front back (it ∷ [])

  agent-made-here : (p u : ProbeState) → u.pid ≡ p.pid → u.opened ≡ p.opened → u.lines ≡ p.lines
      → Comes k pid first h s p 4 (TracesWith k pid first h p AllBack)
      → Some (call.Ctl (number_of (handle_at p.opened (place_of Control))) (spelling (message.Agent (asks 0)) []))
      ≡ Some c
      → ((e : Errno) → a.reply ≢ reply.Fail e) → Asks k pid first longer a.state u 4 (IsMade k pid first u.lines)
  agent-made-here p u its_pid files lines before same accepts =
      let some : 0 < 4 = omega arith in
      let file = control k pid first h c a lawful given p 4 some before.holds in
      let stands = control-stands k pid first h c a lawful given p 4 some before.holds in
      let sent = sent-by k pid first h c a lawful given p 4 some before.holds _ same in
      let made = agent-made s k file.number pid a stands accepts _ (asks 0) agent-read sent in
      record {
        making = record {
          front = h;
          began = before.began;
          make = c;
          made = a.reply;
          granted = agent-used s k file.number pid a stands accepts _ (asks 0) agent-read sent;
          asked = [];
          place = refl;
          makes = sends p 4 some before.holds (message.Agent (asks 0)) same;
          process = made.process;
          lives = made.live;
        };
        its = its_pid ∙ before.its;
        holds = subst (λ (o : Opened). HasFirst k pid 4 a.state.opens o) (sym files)
            (files-stay _ same refl 4 p.opened before.holds);
        so = λ ask q live.
            let fair = fair-here before.began ask.sole ask.ranged in
            let is : with_agent (asks 0) made.process ≡ q = same_Some (with_agent (asks 0) made.process) q
            (sym made.now ∙ live) in
            let known = before.so fair in
            let back = known.0 made.process made.live in (
              lines ∙ before.none,
              subst (WithAgent IsFetchable Stands) is
                  (made-with made.process (roomy known.1 made.process made.live ask.room) back made.own made.lets),
            );
      }
    where
      -- there is room for it
      roomy : Unlent k pid first h (HasBoth p) s.system → (q : TracedProcess) → live_process s.system pid ≡ Some q
          → WasUnlent k pid first h ⊎ HasRoom q → HasRoom q
      roomy so q live (inl was) = (so was q live).roomy.room
      roomy so q live (inr room) = room

  -- ---- with the agent

  asks-called : (p u : ProbeState) (many now : ℕ) (X Y : TracedSystem → TracedProcess → Type 0) → u.pid ≡ p.pid
      → HasFirst k pid now a.state.opens u.opened
      → ((m : Making k pid first h) → IsAsking k pid first longer (more m)
      → ((x : TracedProcess) → live_process s.system pid ≡ Some x → X s.system x) → (q : TracedProcess)
      → live_process a.state.system pid ≡ Some q → Y a.state.system q)
      → Asks k pid first h s p many X → Asks k pid first longer a.state u now Y
  asks-called p u many now X Y its_pid holds on before = record {
    making = more before.making;
    its = its_pid ∙ before.its;
    holds = holds;
    so = λ ask q live.
        let front = asking-front k pid first h it before.making ask in
        on before.making ask (before.so front) q live;
  }

  stay-open : (p u : ProbeState) → u.opened ≡ p.opened → (d : Call) → Some d ≡ Some c → keeps_handles d ≡ true
      → HasFirst k pid 6 s.opens p.opened → HasFirst k pid 6 a.state.opens u.opened
  stay-open p u files d same keeps holds =
      subst (λ (o : Opened). HasFirst k pid 6 a.state.opens o) (sym files) (files-stay d same keeps 6 p.opened holds)

  -- where the system is left
  left-so : (X Y : TracedSystem → TracedProcess → Type 0) → a.state.system ≡ s.system
      → ((m : Making k pid first h) → IsAsking k pid first longer (more m) → (x : TracedProcess)
      → live_process s.system pid ≡ Some x → X s.system x → Y s.system x)
      → (m : Making k pid first h) → IsAsking k pid first longer (more m)
      → ((x : TracedProcess) → live_process s.system pid ≡ Some x → X s.system x) → (q : TracedProcess)
      → live_process a.state.system pid ≡ Some q → Y a.state.system q
  left-so X Y same on m ask before q live =
      let there : live_process s.system pid ≡ Some q =
      ap (λ (x : TracedSystem). live_process x pid) (sym same) ∙ live in
      subst (λ (x : TracedSystem). Y x q) (sym same) (on m ask q there (before q there))

  asks-open : (f : ProbeFile) (p : ProbeState) (X : TracedSystem → TracedProcess → Type 0)
      → Asks k pid first h s p (place_of f) X
      → Some (call.Open p.pid (lwp_of f) (file_of f) (mode_of f)) ≡ Some c
      → ((e : Errno) → a.reply ≢ reply.Fail e) → Asks k pid first longer a.state (opened_by f p) (place_of f + 1) X
  asks-open f p X before same accepts =
      asks-called p (opened_by f p) (place_of f) (place_of f + 1) X X refl
      (open-first k pid first h c a lawful given f p before.its same accepts before.holds)
      (left-so X X (open-system k pid first h c a lawful given f p before.its same accepts)
      (λ m ask x live so. so)) before

  asks-as : (p u : ProbeState) (many : ℕ) (X Y : TracedSystem → TracedProcess → Type 0) → u.pid ≡ p.pid
      → u.opened ≡ p.opened → ((x : TracedSystem) (q : TracedProcess) → X x q → Y x q)
      → Asks k pid first longer a.state p many X → Asks k pid first longer a.state u many Y
  asks-as p u many X Y its_pid files on before = record {
    making = before.making;
    its = its_pid ∙ before.its;
    holds = subst (λ (o : Opened). HasFirst k pid many a.state.opens o) (sym files) before.holds;
    so = λ ask q live. on a.state.system q (before.so ask q live);
  }

  -- what the descriptors stand for stays
  kinds-here : (x q : TracedProcess) → live_process s.system pid ≡ Some x → live_process a.state.system pid ≡ Some q
      → q.fds ≡ x.fds → SameKinds s.system.files x.fds a.state.system.files q.fds
  kinds-here x q before later same =
      kinds-stay s.system a.state.system pid x q lawful.system (call-state s lawful k c a given).system before later
      same (call-stay s k c a given)

  found-here : (lines : List OpenDescriptor) (d : ℕ) (x q : TracedProcess)
      → live_process s.system pid ≡ Some x → live_process a.state.system pid ≡ Some q → q.fds ≡ x.fds
      → HasFound lines d s.system.files x.fds → HasFound lines d a.state.system.files q.fds
  found-here lines d x q before later same found =
      found-still lines d s.system.files a.state.system.files x.fds q.fds
      (kinds-here x q before later same) found

  -- PCWRITE of the code
  plants : (p u : ProbeState) → u.pid ≡ p.pid → u.opened ≡ p.opened → u.lines ≡ p.lines
      → Asks k pid first h s p 6 (IsMade k pid first p.lines)
      → Some (call.Ctl (number_of (handle_at p.opened (place_of Control))) (write_bytes text_base planted)) ≡ Some c
      → ((e : Errno) → a.reply ≢ reply.Fail e) → Asks k pid first longer a.state u 6 (IsFree k pid first u.lines 0)
  unfolding with_space
  plants p u its_pid files lines before same accepts =
      let some : 0 < 6 = omega arith in
      let file = control k pid first h c a lawful given p 6 some before.holds in
      let stands = control-stands k pid first h c a lawful given p 6 some before.holds in
      let sent = sent-by k pid first h c a lawful given p 6 some before.holds _ same in
      let written = code-planted s k file.number pid a stands accepts planted planted-size sent in
      asks-called p u 6 6 (IsMade k pid first p.lines) (IsFree k pid first u.lines 0) its_pid
      (stay-open p u files _ same refl before.holds)
      (λ m ask so q live.
      let x : TracedProcess = written.process in
      let was = so x written.live in
      let is : with_space (with_bytes text_base planted x.space) x ≡ q =
      same_Some (with_space (with_bytes text_base planted x.space) x) q (sym written.now ∙ live) in (
        subst (WithAgent IsPlanted Stands) is (planted-with x was.1),
        (
          omega arith,
          subst (λ (ls : List OpenDescriptor). HasFound ls 0 a.state.system.files q.fds) (sym (lines ∙ was.0))
              (found-first a.state.system.files q.fds),
        ),
      )) before

  -- ---- by the agent's control file

  module _ (p : ProbeState) (holds : HasFirst k pid 6 s.opens p.opened) where
    pub agent : HasFile k pid s.opens p.opened AgentControl
    unfolding place_of
    agent = holds.each AgentControl (omega arith)

    pub agent-stands : handle_in s.opens k agent.number ≡ Some (agent_writer k pid)
    unfolding lwp_of file_of mode_of
    agent-stands = agent.stands

    pub agent-sent : (bytes : List ℕ)
        → Some (call.Ctl (number_of (handle_at p.opened (place_of AgentControl))) bytes) ≡ Some c
        → answer_to s k (call.Ctl agent.number bytes) ≡ Some a
    agent-sent bytes same =
        ap (λ (x : Option ℕ). answer_to s k (call.Ctl (number_of x) bytes)) (sym agent.at)
        ∙ its k pid first h c a lawful given _ same

    pub agent-polled : Some (call.Poll (number_of (handle_at p.opened (place_of AgentControl)) ∷ [])) ≡ Some c
        → answer_to s k (call.Poll (agent.number ∷ [])) ≡ Some a
    agent-polled same =
        ap (λ (x : Option ℕ). answer_to s k (call.Poll (number_of x ∷ []))) (sym agent.at)
        ∙ its k pid first h c a lawful given _ same

    status : HasFile k pid s.opens p.opened AgentStatus
    unfolding place_of
    status = holds.each AgentStatus (omega arith)

    status-answer : Some (call.Read (number_of (handle_at p.opened (place_of AgentStatus))) 0 read_limit) ≡ Some c
        → a ≡ answered s (file_read s.system pid agent_id 0 read_limit file.Lwpstatus)
    unfolding lwp_of file_of mode_of
    status-answer same =
        read-answer s status.number 0 read_limit (held_of k pid AgentStatus) a refl status.stands
        (ap (λ (x : Option ℕ). answer_to s k (call.Read (number_of x) 0 read_limit)) (sym status.at)
        ∙ its k pid first h c a lawful given _ same)

  -- PCSREG
  sets-registers : (p u : ProbeState) (d : ℕ) → u.pid ≡ p.pid → u.opened ≡ p.opened
      → Asks k pid first h s p 6 (IsFree k pid first p.lines d)
      → Some (call.Ctl (number_of (handle_at p.opened (place_of AgentControl))) (spelling (message.Sreg (asks d)) []))
      ≡ Some c
      → ((e : Errno) → a.reply ≢ reply.Fail e) → Asks k pid first longer a.state u 6 (IsToAsk k pid first p.lines d)
  sets-registers p u d its_pid files before same accepts =
      let sent = agent-sent p before.holds _ same in
      let n : ℕ = (agent p before.holds).number in
      let stands = agent-stands p before.holds in
      asks-called p u 6 6 (IsFree k pid first p.lines d) (IsToAsk k pid first p.lines d) its_pid
      (stay-open p u files _ same refl before.holds)
      (λ m ask so q live.
      let lives = agent-lives s k n pid a stands accepts _ sent in
      let small : d < descriptor_limit = (so lives.0 lives.1).1.0 in
      let r = registered s k n pid a stands accepts _ (asks d) (registers-read d small) sent in
      let x : TracedProcess = r.process in
      let was = so x r.live in
      let f = with_registers (asks d) in
      let is : with_lwp agent_id f x ≡ q = same_Some (with_lwp agent_id f x) q (sym r.now ∙ live) in
      let fds : q.fds ≡ x.fds =
      ap (λ (y : TracedProcess). y.fds) (sym is)
      ∙ changed-fds IsPlanted f x Stands (IsAsked d) (asked-agent d) (asked-so d) in (
        subst (WithAgent IsPlanted (IsAsked d)) is
            (changed-with IsPlanted f x Stands (IsAsked d) (asked-agent d) (asked-so d) was.0),
        (small, found-here p.lines d x q r.live live fds was.1.1),
      )) before

  -- PCRUN
  runs-agent : (p u : ProbeState) (d : ℕ) → u.pid ≡ p.pid → u.opened ≡ p.opened
      → Asks k pid first h s p 6 (IsToAsk k pid first p.lines d)
      → Some (call.Ctl (number_of (handle_at p.opened (place_of AgentControl))) (spelling (message.Run 0) [])) ≡ Some c
      → ((e : Errno) → a.reply ≢ reply.Fail e) → Asks k pid first longer a.state u 6 (IsOut k pid first p.lines d)
  runs-agent p u d its_pid files before same accepts =
      let sent = agent-sent p before.holds _ same in
      let n : ℕ = (agent p before.holds).number in
      let stands = agent-stands p before.holds in
      let r = run s k n pid a stands accepts _ run-reads sent in
      asks-called p u 6 6 (IsToAsk k pid first p.lines d) (IsOut k pid first p.lines d) its_pid
      (stay-open p u files _ same refl before.holds)
      (λ m ask so q live.
      let x : TracedProcess = r.process in
      let was = so x r.live in
      let f = run_lwp 0 in
      let is : with_lwp agent_id f x ≡ q = same_Some (with_lwp agent_id f x) q (sym r.now ∙ live) in
      let fds : q.fds ≡ x.fds =
      ap (λ (y : TracedProcess). y.fds) (sym is)
      ∙ changed-fds IsPlanted f x (IsAsked d) (Runs d) run-agent (run-so d) in (
        inl (subst (WithAgent IsPlanted (Runs d)) is
            (changed-with IsPlanted f x (IsAsked d) (Runs d) run-agent (run-so d) was.0)),
        (was.1.0, found-here p.lines d x q r.live live fds was.1.1),
      )) before

  -- the wait for the agent
  waits : (p u : ProbeState) (d : ℕ) → u.pid ≡ p.pid → u.opened ≡ p.opened
      → Asks k pid first h s p 6 (IsOut k pid first p.lines d)
      → Some (call.Poll (number_of (handle_at p.opened (place_of AgentControl)) ∷ [])) ≡ Some c
      → Asks k pid first longer a.state u 6 (IsOut k pid first p.lines d)
  waits p u d its_pid files before same =
      asks-called p u 6 6 (IsOut k pid first p.lines d) (IsOut k pid first p.lines d) its_pid
      (stay-open p u files _ same refl before.holds)
      (left-so (IsOut k pid first p.lines d) (IsOut k pid first p.lines d)
      (same-system s k _ a refl (agent-polled p before.holds same)) (λ m ask x live so. so)) before

  comes-back : (p u : ProbeState) (d : ℕ) → u.pid ≡ p.pid → u.opened ≡ p.opened
      → Asks k pid first h s p 6 (IsOut k pid first p.lines d)
      → Some (call.Poll (number_of (handle_at p.opened (place_of AgentControl)) ∷ [])) ≡ Some c
      → (n : ℕ) → a.reply ≡ reply.Ready n
      → Asks k pid first longer a.state u 6 (IsAnsweredOf k pid first p.lines d)
  comes-back p u d its_pid files before same n ready =
      asks-called p u 6 6 (IsOut k pid first p.lines d) (IsAnsweredOf k pid first p.lines d) its_pid
      (stay-open p u files _ same refl before.holds)
      (left-so (IsOut k pid first p.lines d) (IsAnsweredOf k pid first p.lines d)
      (same-system s k _ a refl (agent-polled p before.holds same)) (λ m ask x live so. (by x live so.0, so.1))) before
    where
      by : (x : TracedProcess) → live_process s.system pid ≡ Some x
          → WithAgent IsPlanted (Runs d) x ⊎ IsBack k pid first d s.system x → IsBack k pid first d s.system x
      by x live (inr back) = back
      by x live (inl runs) =
          let stands =
          polled s k (agent p before.holds).number pid a (agent-stands p before.holds) x live runs.agent runs.there
          (agent-polled p before.holds same) n ready in
          absurd (false≢true (sym (ap is_some runs.so.running) ∙ stands))

  -- ---- what the agent shows

  stands-there : (x : TracedProcess) (d : ℕ) → IsBack k pid first d s.system x → WithAgent IsPlanted Stands x
  stands-there x d back = record {
    ready = back.ready;
    agent = back.agent;
    there = back.there;
    is = back.is;
    so = record { stands = back.so.stands; rests = on_its_way Fstat back.so.args back.so.result back.so.way_out };
  }

  -- whether the answer shows a descriptor open
  shown-so : (p : ProbeState) (holds : HasFirst k pid 6 s.opens p.opened)
      → Some (call.Read (number_of (handle_at p.opened (place_of AgentStatus))) 0 read_limit) ≡ Some c
      → (m : Making k pid first h) → IsAsking k pid first longer (more m) → (x : TracedProcess)
      → live_process s.system pid ≡ Some x → (d : ℕ) → IsBack k pid first d s.system x
      → shows_open (record_read lwpstatus_ranges (bytes_read a.reply)) ≡ is_some (kind_at s.system.files x.fds d)
  unfolding errno_in
  shown-so p holds same m ask x live d back =
      let front = asking-front k pid first h it m ask in
      let l : TracedLwp = back.agent in
      let bytes : List ℕ = part_read (lwpstatus_bytes (lwpstatus_of x agent_id l)) 0 read_limit in
      let reply-is : a.reply ≡ reply.Bytes bytes =
      ap (λ (y : Answer). y.reply) (status-answer p holds same) ∙ agent-there s.system pid x l live back.there in
      let records = records-range s.system lawful.system (ranged-now k pid first h m front).range in
      let ranged = (records.processes pid x (found-live s.system pid x live).0).lwpstatus agent_id l back.there in
      ap (λ (bs : List ℕ). shows_open (record_read lwpstatus_ranges bs)) (bytes-given bytes a.reply reply-is)
      ∙ agent-shows x l ranged ∙ ap (λ (ph : Phase). shows (errno_in ph)) back.so.way_out
      ∙ told (kind_at s.system.files x.fds d) back.so.result back.so.tells
    where
      told : (o : Option FdKind) (result : Res) → TellsKind x.space result o
          → shows (errno_in (phase.Exiting Fstat back.so.args result)) ≡ is_some o
      told None result tells = ap (λ (r : Res). shows (error_of r)) tells.1
      told (Some kind) result tells = ap (λ (r : Res). shows (error_of r)) tells.0

  -- ---- a descriptor after another

  -- the next one is asked for, or all were
  asked-on : (p u : ProbeState) (d : ℕ) → u.pid ≡ p.pid → u.opened ≡ p.opened → u.lines ≡ p.lines
      → Asks k pid first longer a.state p 6 (IsDone pid p.lines d) → Reads k pid first longer a.state u (stage_asked d)
  unfolding Reads stage_asked
  asked-on p u d its_pid files lines done = by (nat_lt d (descriptor_limit - 1)) refl
    where
      Goal : List OpenDescriptor → Bool → Type 0
      Goal ls true = Asks k pid first longer a.state u 6 (IsFree k pid first ls (d + 1))
      Goal ls false = Asks k pid first longer a.state u 6 (IsAll k pid first ls)

      by : (b : Bool) → nat_lt d (descriptor_limit - 1) ≡ b
          → Reads k pid first longer a.state u (cond b (stage.Asking (d + 1) SetRegisters) stage.UntraceExits)
      by true less =
          let small : d < descriptor_limit - 1 = ltb-true d (descriptor_limit - 1) less in
          subst (λ (ls : List OpenDescriptor). Goal ls true) (sym lines)
          (asks-as p u 6 (IsDone pid p.lines d) (IsFree k pid first p.lines (d + 1)) its_pid files
          (λ x q so. (so.0, (omega (arith, small), so.1.1))) done)
      by false past =
          let high : descriptor_limit - 1 ≤ d = ltb-false d (descriptor_limit - 1) past in
          subst (λ (ls : List OpenDescriptor). Goal ls false) (sym lines)
          (asks-as p u 6 (IsDone pid p.lines d) (IsAll k pid first p.lines) its_pid files
          (λ x q so. (so.0, found-all x.files q.fds p.lines (d + 1) (omega (arith, high, so.1.0)) so.1.1)) done)

  -- an answer that shows it open, and one that does not
  answers : (p : ProbeState) (d : ℕ) → Asks k pid first h s p 6 (IsAnsweredOf k pid first p.lines d)
      → Some (call.Read (number_of (handle_at p.opened (place_of AgentStatus))) 0 read_limit) ≡ Some c
      → Next (with_answer p d (bytes_read a.reply))
  unfolding Reads with_answer
  answers p d before same = by (shows_open (record_read lwpstatus_ranges (bytes_read a.reply))) refl
    where
      -- a descriptor with a kind, and one without
      open-so : (o : Option FdKind) → true ≡ is_some o → (kind : FdKind) × (o ≡ Some kind)
      open-so None is = absurd (false≢true (sym is))
      open-so (Some kind) is = (kind, refl)

      shut-so : (o : Option FdKind) → false ≡ is_some o → o ≡ None
      shut-so None is = refl
      shut-so (Some kind) is = absurd (false≢true is)

      stays : a.state.system ≡ s.system
      stays =
          same-system s k (call.Read (number_of (handle_at p.opened (place_of AgentStatus))) 0 read_limit) a refl
          (its k pid first h c a lawful given _ same)

      by : (b : Bool) → shows_open (record_read lwpstatus_ranges (bytes_read a.reply)) ≡ b
          → Next (cond b (at_stage p (stage.Asking d ReadKind)) (asked p d))
      by true is none =
          asks-called p (at_stage p (stage.Asking d ReadKind)) 6 6 (IsAnsweredOf k pid first p.lines d)
          (IsKnown k pid first p.lines d) refl (files-stay _ same refl 6 p.opened before.holds)
          (left-so (IsAnsweredOf k pid first p.lines d) (IsKnown k pid first p.lines d) stays
          (λ m ask x live so.
          let shown = shown-so p before.holds same m ask x live d so.0 in
          let open_kind = open-so (kind_at s.system.files x.fds d) (sym is ∙ shown) in
          record { kind = open_kind.0; is_open = open_kind.1; back = so.0; found = so.1 })) before
      by false is none =
          asked-on p (asked p d) d refl refl refl
          (asks-called p p 6 6 (IsAnsweredOf k pid first p.lines d) (IsDone pid p.lines d) refl
          (files-stay _ same refl 6 p.opened before.holds)
          (left-so (IsAnsweredOf k pid first p.lines d) (IsDone pid p.lines d) stays
          (λ m ask x live so.
          let shown = shown-so p before.holds same m ask x live d so.0 in
          let shut = shut-so (kind_at s.system.files x.fds d) (sym is ∙ shown) in (
            stands-there x d so.0,
            (so.1.0, found-shut s.system.files x.fds p.lines d so.1.0 so.1.1 shut),
          ))) before)

  -- the word of the kind that the agent's call wrote
  kind-given : (p : ProbeState) (holds : HasFirst k pid 6 s.opens p.opened)
      → Some (call.Ctl (number_of (handle_at p.opened (place_of Control))) (read_bytes stack_base 8)) ≡ Some c
      → ((e : Errno) → a.reply ≢ reply.Fail e) → (x : TracedProcess) → live_process s.system pid ≡ Some x → (d : ℕ)
      → (kind : FdKind) → kind_at s.system.files x.fds d ≡ Some kind → IsBack k pid first d s.system x
      → kind_in (bytes_read a.reply) ≡ Some kind
  kind-given p holds same accepts x live d kind is_open back =
      let some : 0 < 6 = omega arith in
      let file = control k pid first h c a lawful given p 6 some holds in
      let stands = control-stands k pid first h c a lawful given p 6 some holds in
      let sent = sent-by k pid first h c a lawful given p 6 some holds _ same in
      let r = read-given s k file.number pid a stands accepts stack_base 8 kind-reads sent in
      let its_own : r.stood.process ≡ x = same_Some r.stood.process x (sym r.stood.lives ∙ live) in
      let there : bytes_for 0 (space_seen s.system x) stack_base (length r.bytes) ≡ Ok r.bytes =
      ap (λ (y : TracedProcess). bytes_for 0 (space_seen s.system y) stack_base (length r.bytes)) (sym its_own)
      ∙ r.stood.there in
      let read : bytes_for 0 x.space stack_base 8 ≡ Ok r.bytes =
      ap (λ (m : Space). bytes_for 0 m stack_base 8) (sym (own-space s.system x back.ready.own))
      ∙ ap (bytes_for 0 (space_seen s.system x) stack_base) (sym r.size_is) ∙ there in
      let tells : TellsKind x.space back.so.result (Some kind) =
      subst (TellsKind x.space back.so.result) is_open back.so.tells in
      let both : Ok r.bytes ≡ Ok (word_bytes (fd_kind_number kind)) = sym read ∙ tells.1 in
      let word : r.bytes ≡ word_bytes (fd_kind_number kind) = cc in
      ap kind_in (bytes-given r.bytes a.reply r.reply) ∙ ap kind_in word ∙ kind-back kind

  kinds-read : (p : ProbeState) (d : ℕ) → Asks k pid first h s p 6 (IsKnown k pid first p.lines d)
      → Some (call.Ctl (number_of (handle_at p.opened (place_of Control))) (read_bytes stack_base 8)) ≡ Some c
      → ((e : Errno) → a.reply ≢ reply.Fail e)
      → Next (asked (with_kind p d (kind_in (bytes_read a.reply))) d)
  kinds-read p d before same accepts none =
      let some : 0 < 6 = omega arith in
      let file = control k pid first h c a lawful given p 6 some before.holds in
      let stands = control-stands k pid first h c a lawful given p 6 some before.holds in
      let sent = sent-by k pid first h c a lawful given p 6 some before.holds _ same in
      let seen : Option FdKind = kind_in (bytes_read a.reply) in
      let u : ProbeState = with_kind p d seen in
      let files : u.opened ≡ p.opened = kind-kept (λ t. t.opened) (λ t lines. refl) p d seen in
      asked-on u (asked u d) d refl refl refl
      (asks-called p u 6 6 (IsKnown k pid first p.lines d) (IsDone pid u.lines d)
      (kind-kept (λ t. t.pid) (λ t lines. refl) p d seen) (stay-open p u files _ same refl before.holds)
      (left-so (IsKnown k pid first p.lines d) (IsDone pid u.lines d)
      (read-stays s k file.number pid a stands accepts _ stack_base 8 kind-reads sent)
      (λ m ask x live so.
      let is : seen ≡ Some so.kind = kind-given p before.holds same accepts x live d so.kind so.is_open so.back in
      let found = so.found.1 in
      let small = so.found.0 in
      let few : length p.lines < descriptor_limit = omega (arith, found.few, small) in
      let lines : u.lines ≡ p.lines ++ record { descriptor = d; kind = so.kind } ∷ [] =
      ap (λ (o : Option FdKind). (with_kind p d o).lines) is ∙ kind-noted p d so.kind few in (
        stands-there x d so.back,
        (
          small,
          subst (λ (ls : List OpenDescriptor). HasFound ls (d + 1) s.system.files x.fds) (sym lines)
              (found-open s.system.files x.fds p.lines d small found so.kind so.is_open),
        ),
      ))) before)

  -- ---- all was asked

  untraced : (p : ProbeState) → Asks k pid first h s p 6 (IsAll k pid first p.lines)
      → Some (set_call p Exits no_sets) ≡ Some c → ((e : Errno) → a.reply ≢ reply.Fail e)
      → HasShown k pid first longer p.lines
  unfolding trace_message set_word no_sets
  untraced p before same accepts =
      let some : 0 < 6 = omega arith in
      let file = control k pid first h c a lawful given p 6 some before.holds in
      let stands = control-stands k pid first h c a lawful given p 6 some before.holds in
      let sent = sent-by k pid first h c a lawful given p 6 some before.holds _ same in
      let lives = still-lives s k file.number pid a stands accepts _ sent in
      record {
        front = h;
        making = before.making;
        call = c;
        reply = a.reply;
        after = [];
        place = refl;
        untraces = sends p 6 some before.holds (message.Sexit 0) same;
        process = lives.process;
        lives = lives.live;
        so = λ ask. before.so ask lives.process lives.live;
      }

  shown-on : (lines : List OpenDescriptor) → HasShown k pid first h lines → HasShown k pid first longer lines
  shown-on lines so = shown-still k pid first h it lines so

  -- ---- the stages

  polled-on : (p : ProbeState) (d : ℕ) → Asks k pid first h s p 6 (IsOut k pid first p.lines d)
      → Some (call.Poll (number_of (handle_at p.opened (place_of AgentControl)) ∷ [])) ≡ Some c
      → FindsReady s k (number_of (handle_at p.opened (place_of AgentControl)) ∷ []) a.reply ⊎ IsRefusal a.reply
      → Next (after_poll (at_stage p (stage.Asking d Await)) a.reply)
  unfolding Reads after_poll advanced with_next stage_after asking_after
  polled-on p d so same (inl finds) =
      subst (λ (r : Reply). Next (after_poll (at_stage p (stage.Asking d Await)) r)) (sym finds.reply)
      (λ none. comes-back p (at_stage p (stage.Asking d ReadAgent)) d refl refl so same finds.handle finds.reply)
  polled-on p d so same (inr denied) =
      subst (λ (r : Reply). Next (after_poll (at_stage p (stage.Asking d Await)) r)) (sym denied.reply)
      (λ none. waits p (at_stage p (stage.Asking d Await)) d refl refl so same)

  asks-step : (p : ProbeState) (d : ℕ) (step : AskingStep)
      → Reads k pid first h s (at_stage p (stage.Asking d step)) (stage.Asking d step)
      → Some (asking_call p d step) ≡ Some c → refusal_in (stage.Asking d step) a.reply ≡ None
      → Next (asking_accepted (at_stage p (stage.Asking d step)) a.reply d step)
  unfolding Reads asking_call asking_accepted advanced with_next stage_after asking_after is_passed_over
      is_asking_passed_over
  asks-step p d SetRegisters so same right =
      λ none. sets-registers (at_stage p (stage.Asking d SetRegisters)) _ d refl refl so same
      (taken k pid first h c a lawful given (stage.Asking d SetRegisters) (λ e. refl) right)
  asks-step p d RunAgent so same right =
      λ none. runs-agent (at_stage p (stage.Asking d RunAgent)) _ d refl refl so same
      (taken k pid first h c a lawful given (stage.Asking d RunAgent) (λ e. refl) right)
  asks-step p d Await so same right =
      polled-on (at_stage p (stage.Asking d Await)) d so same
      (poll-replies s k (number_of (handle_at p.opened (place_of AgentControl)) ∷ []) a
      (its k pid first h c a lawful given _ same))
  asks-step p d ReadAgent so same right = answers (at_stage p (stage.Asking d ReadAgent)) d so same
  asks-step p d ReadKind so same right =
      kinds-read (at_stage p (stage.Asking d ReadKind)) d so same
      (taken k pid first h c a lawful given (stage.Asking d ReadKind) (λ e. refl) right)

  -- the mappings have room
  maps : (p : ProbeState) → Reads k pid first h s (at_stage p stage.ReadMap) stage.ReadMap
      → Some (call.Read (number_of (handle_at p.opened (place_of Map))) 0 read_limit) ≡ Some c
      → Next (with_map (at_stage p stage.ReadMap) (bytes_read a.reply))
  unfolding Reads with_map advanced with_next stage_after
  maps p so same = by p.watched refl (has_room (bytes_read a.reply)) refl
    where
      by : (w : Bool) → p.watched ≡ w → (room : Bool) → has_room (bytes_read a.reply) ≡ room
          → Next (cond w (refused (at_stage p stage.ReadMap) Busy)
          (cond room (at_stage p stage.SaveCode) (refused (at_stage p stage.ReadMap) Fault)))
      by true is room seen = λ none. not-refused (at_stage p stage.ReadMap) Busy none
      by false is true seen = λ none.
          comes-with _ same refl (at_stage p stage.ReadMap) (at_stage p stage.SaveCode)
          (Unlent k pid first h (IsLooked (at_stage p stage.ReadMap))) (Unlent k pid first longer IsRoomy)
          refl refl refl
          (λ b fair known.
          rooms k pid first h c a lawful given (at_stage p stage.ReadMap) so.holds is seen same b fair known) so
      by false is false seen = λ none. not-refused (at_stage p stage.ReadMap) Fault none

  step-on : (p : ProbeState) (g : ProbeStage) → Reads k pid first h s (at_stage p g) g
      → call_of (at_stage p g) g ≡ Some c → refusal_in g a.reply ≡ None → Next (accepted (at_stage p g) a.reply g)
  unfolding Reads call_of accepted advanced with_next with_status stage_after stage_opened place_of kind_after
      is_passed_over asking_call
  step-on p (stage.Open Control) so same right =
      λ none. comes-as _ _ 1 (Nothing k pid first) refl refl refl
      (begins (at_stage p (stage.Open Control)) so same
      (taken k pid first h c a lawful given (stage.Open Control) (λ e. refl) right))
  step-on p (stage.Open Status) so same right =
      λ none. comes-as _ _ 2 (Nothing k pid first) refl refl refl
      (comes-open Status (at_stage p (stage.Open Status)) so same
      (taken k pid first h c a lawful given (stage.Open Status) (λ e. refl) right))
  step-on p (stage.Open Lstatus) so same right =
      λ none. comes-as _ _ 3 (Nothing k pid first) refl refl refl
      (comes-open Lstatus (at_stage p (stage.Open Lstatus)) so same
      (taken k pid first h c a lawful given (stage.Open Lstatus) (λ e. refl) right))
  step-on p (stage.Open Map) so same right =
      λ none. comes-as _ _ 4 (Nothing k pid first) refl refl refl
      (comes-open Map (at_stage p (stage.Open Map)) so same
      (taken k pid first h c a lawful given (stage.Open Map) (λ e. refl) right))
  step-on p (stage.Open AgentControl) so same right =
      λ none. asks-as _ _ 5 (IsMade k pid first p.lines) (IsMade k pid first p.lines) refl refl (λ x q made. made)
      (asks-open AgentControl (at_stage p (stage.Open AgentControl)) (IsMade k pid first p.lines) so same
      (taken k pid first h c a lawful given (stage.Open AgentControl) (λ e. refl) right))
  step-on p (stage.Open AgentStatus) so same right =
      λ none. asks-as _ _ 6 (IsMade k pid first p.lines) (IsMade k pid first p.lines) refl refl (λ x q made. made)
      (asks-open AgentStatus (at_stage p (stage.Open AgentStatus)) (IsMade k pid first p.lines) so same
      (taken k pid first h c a lawful given (stage.Open AgentStatus) (λ e. refl) right))
  step-on p stage.ReadFirst so same right =
      λ none. comes-plain _ same refl _ _ 4 (Nothing k pid first) tt refl refl refl so
  step-on p stage.Stop so same right = λ none.
      comes-with _ same refl (at_stage p stage.Stop) _ (Nothing k pid first) (Where pid IsHalting) refl refl refl
      (λ b fair known.
      stops k pid first h c a lawful given (at_stage p stage.Stop) so.holds same
      (taken k pid first h c a lawful given stage.Stop (λ e. refl) right)) so
  step-on p stage.AwaitStop so same right = λ none.
      comes-with _ same refl (at_stage p stage.AwaitStop) _ (Where pid IsHalting) (Where pid IsHalting) refl refl refl
      (λ b fair known.
      where-same k pid first h c a lawful given IsHalting
      (same-system s k _ a refl (its k pid first h c a lawful given _ same)) known) so
  step-on p stage.ReadStatus so same right =
      let seen : ProbeState = with_status (at_stage p stage.ReadStatus) (bytes_read a.reply) in
      λ none.
      comes-with _ same refl (at_stage p stage.ReadStatus) (at_stage seen stage.ReadMap) (Where pid IsHalting)
      (Unlent k pid first longer (IsLooked (at_stage seen stage.ReadMap))) refl refl refl
      (λ b fair known.
      looks k pid first h c a lawful given (at_stage p stage.ReadStatus) (at_stage seen stage.ReadMap) so.holds refl
      same b fair known) so
  step-on p stage.ReadMap so same right = maps p so same
  step-on p stage.SaveCode so same right =
      let u : ProbeState = record (at_stage p stage.SaveStack) { code = take code_size (bytes_read a.reply) } in
      λ none.
      comes-with _ same refl (at_stage p stage.SaveCode) u (Unlent k pid first h IsRoomy)
      (Unlent k pid first longer (HasCode u)) refl refl refl
      (λ b fair known.
      saves-code k pid first h c a lawful given (at_stage p stage.SaveCode) u so.holds refl same
      (taken k pid first h c a lawful given stage.SaveCode (λ e. refl) right) known) so
  step-on p stage.SaveStack so same right =
      let u : ProbeState = record (at_stage p (stage.Trace Signals)) { stack = take stack_size (bytes_read a.reply) } in
      λ none.
      comes-with _ same refl (at_stage p stage.SaveStack) u
      (Unlent k pid first h (HasCode (at_stage p stage.SaveStack))) (TracesWith k pid first longer u NoneBack) refl refl
      refl
      (λ b fair known. (
        λ q live. tt,
        saves-stack k pid first h c a lawful given (at_stage p stage.SaveStack) u so.holds refl refl same
            (taken k pid first h c a lawful given stage.SaveStack (λ e. refl) right) known,
      )) so
  step-on p (stage.Trace Signals) so same right =
      λ none. comes-traced NoneBack SignalsBack Signals signals-on _ _ refl refl refl refl refl so same
      (taken k pid first h c a lawful given (stage.Trace Signals) (λ e. refl) right)
  step-on p (stage.Trace Faults) so same right =
      λ none. comes-traced SignalsBack FaultsBack Faults faults-on _ _ refl refl refl refl refl so same
      (taken k pid first h c a lawful given (stage.Trace Faults) (λ e. refl) right)
  step-on p (stage.Trace Entries) so same right =
      λ none. comes-traced FaultsBack EntriesBack Entries entries-on _ _ refl refl refl refl refl so same
      (taken k pid first h c a lawful given (stage.Trace Entries) (λ e. refl) right)
  step-on p (stage.Trace Exits) so same right =
      λ none. comes-traced EntriesBack AllBack Exits exits-on _ _ refl refl refl refl refl so same
      (taken k pid first h c a lawful given (stage.Trace Exits) (λ e. refl) right)
  step-on p stage.MakeAgent so same right =
      λ none. agent-made-here _ _ refl refl refl so same
      (taken k pid first h c a lawful given stage.MakeAgent (λ e. refl) right)
  step-on p stage.PlantCode so same right =
      λ none. plants _ _ refl refl refl so same
      (taken k pid first h c a lawful given stage.PlantCode (λ e. refl) right)
  step-on p (stage.Asking d step) so same right = asks-step p d step so same right
  step-on p stage.UntraceExits so same right =
      λ none. (so.its, untraced _ so same (taken k pid first h c a lawful given stage.UntraceExits (λ e. refl) right))
  step-on p stage.SetExit so same right = λ none. (so.0, shown-on p.lines so.1)
  step-on p stage.RunExit so same right = λ none. (so.0, shown-on p.lines so.1)
  step-on p stage.AwaitExit so same right =
      poll-by Next (at_stage p stage.AwaitExit) a.reply (λ none. (so.0, shown-on p.lines so.1))
      (λ none. (so.0, shown-on p.lines so.1))
  step-on p stage.WriteCode so same right = λ none. (so.0, shown-on p.lines so.1)
  step-on p stage.WriteStack so same right = λ none. (so.0, shown-on p.lines so.1)
  step-on p (stage.Retrace Signals) so same right = λ none. (so.0, shown-on p.lines so.1)
  step-on p (stage.Retrace Faults) so same right = λ none. (so.0, shown-on p.lines so.1)
  step-on p (stage.Retrace Entries) so same right = λ none. (so.0, shown-on p.lines so.1)
  step-on p (stage.Retrace Exits) so same right =
      run-next-by Next (at_stage p (stage.Retrace Exits)) stage.Run (λ stood none. (so.0, shown-on p.lines so.1))
      (λ stood none. (so.0, shown-on p.lines so.1))
  step-on p stage.Run so same right = λ none. (so.0, shown-on p.lines so.1)
  step-on p stage.Close so same right = λ none. (so.0, shown-on p.lines so.1)
  step-on p (stage.Restore kind) so same right = absurd so
  step-on p stage.Release so same right = absurd so

  -- a probe that was fed the reply to its call
  pub called-reads : (p : ProbeState) → next_call_of p ≡ Some c
      → (p.refusal ≡ None → Reads k pid first h s p p.stage) → Next (fed p a.reply)
  unfolding next_call_of
  called-reads p next so none =
      let before : p.refusal ≡ None = fed-back p a.reply none in
      fed-by Next p a.reply (λ e is refused. not-refused p e refused)
      (λ right. step-on p p.stage (so before) next right) none
