use Rattle.std.proofs.Common.{cond, ◌≡◌, ◌≢◌, ◌⊎◌, ◌<◌, ◌+◌, ◌∷◌, ◌++◌, ℕ, Bool, true, false, List, [], Option, Some, None, option_map, refl, sym, subst, ap, ◌∙◌, inl, inr, arith}
use Rattle.std.proofs.lemmas.List.Elements.{All-nil}
use Rattle.std.specs.List.{All}
use Rattle.std.proofs.lemmas.Option.{none-some, same_Some}
use Rattle.pr_api.specs.Entries.{call_entry}
use Rattle.pr_core_laws.proofs.OneState.ReadLemmas.{status-gone, status-there}
use Rattle.pr_lawful.proofs.LawfulTurns.EndLemmas.{found-live}
use Rattle.pr_model.specs.Calls.{Answer, answer_to, answered, controlled}
use Rattle.pr_model.specs.Handles.{handle_of as handle_in}
use Rattle.pr_model.specs.Lawful.{IsLawful, IsLawfulProcess}
use Rattle.pr_model.specs.Legal.{state_after}
use Rattle.pr_model.specs.Messages.{message_answer, refused, run_answer, tracing_entries, tracing_exits, tracing_faults, tracing_signals, with_control, with_process_changed}
use Rattle.pr_model.specs.Reads.{file_read, part_read}
use Rattle.pr_model.specs.Replies.{number_of, opened_in}
use Rattle.pr_model.specs.Running.{run_refused, with_all_run, with_run}
use Rattle.pr_num.specs.Control.{has_flags}
use Rattle.pr_num.specs.Sets.{common_word}
use Rattle.pr_model.specs.State.{Places, TracedProcess, TracedState, TracedSystem, live_process}
use Rattle.pr_model.specs.Statuses.{status_of}
use Rattle.pr_model.specs.Stops.{with_all_directed}
use Rattle.pr_model.specs.declared.calls.Call.{Call}
use Rattle.pr_model.specs.declared.calls.Call.TheVariants as call
use Rattle.pr_model.specs.declared.calls.File.TheVariants as file
use Rattle.pr_model.specs.declared.calls.Reply.{Reply}
use Rattle.pr_model.specs.declared.calls.Reply.TheVariants as reply
use Rattle.pr_model.specs.declared.events.Act.TheVariants as act
use Rattle.pr_model.specs.declared.events.Entry.{Entry}
use Rattle.pr_num.proofs.ByIdLaws.{All-under}
use Rattle.pr_num.specs.Limits.{read_limit}
use Rattle.pr_num.specs.Messages.{spelling}
use Rattle.pr_num.specs.Records.{status_ranges}
use Rattle.pr_num.specs.Signals.{signal_number}
use Rattle.pr_num.specs.Words.{IsWord}
use Rattle.pr_num.specs.declared.errnos.Errno.{Errno}
use Rattle.pr_num.specs.declared.errnos.Errno.TheVariants.{Busy, Noent}
use Rattle.pr_num.specs.declared.files.FdKind.{FdKind}
use Rattle.pr_num.specs.declared.messages.Message.TheVariants as message
use Rattle.pr_probe.proofs.FedLemmas.{answer-by, fed-back, fed-by, kind-kept, map-by, not-refused, poll-by, run-next-by}
use Rattle.pr_probe.specs.DescriptorLines.{kind_in}
use Rattle.pr_probe.specs.ProbeStages.{asking_after, file_of, is_passed_over, lwp_of, mode_of, place_of, stage_after, stage_asked, stage_opened}
use Rattle.pr_probe.specs.Probes.{ProbeState, accepted, advanced, asked, asking_accepted, asking_call, at_stage, call_of, fed, next_call_of, refusal_in, set_call, with_kind, with_next, with_status}
use Rattle.pr_probe.specs.TracedSets.{kind_after, set_word, sets_in}
use Rattle.pr_probe.specs.declared.probe_stages.AskingStep.{AskingStep}
use Rattle.pr_probe.specs.declared.probe_stages.AskingStep.TheVariants.{SetRegisters, Run as RunAgent, Await, ReadAgent, ReadKind}
use Rattle.pr_probe.specs.declared.probe_stages.ProbeFile.{ProbeFile}
use Rattle.pr_probe.specs.declared.probe_stages.ProbeFile.TheVariants.{Control, Status, Lstatus, Map, AgentControl, AgentStatus}
use Rattle.pr_probe.specs.declared.probe_stages.ProbeStage.{ProbeStage}
use Rattle.pr_probe.specs.declared.probe_stages.ProbeStage.TheVariants as stage
use Rattle.pr_probe.specs.declared.traced_sets.SetKind.{SetKind}
use Rattle.pr_probe.specs.declared.traced_sets.SetKind.TheVariants.{Signals, Faults, Entries, Exits}
use Rattle.pr_probe.specs.declared.traced_sets.TracedSets.{TracedSets}
use Rattle.pr_reached.proofs.RecordsInRange.EntryRanges.{records-range}
use Rattle.pr_rec.specs.Reading.{record_read}
use Rattle.pr_rec.specs.RecordBytes.{status_bytes}
use Rattle.pr_report_laws.proofs.Machine.ControlLaws.{run-reads}
use Rattle.pr_report_laws.proofs.Machine.RunLaws.{run-control}
use Rattle.pr_tool_laws.proofs.Pstack.StackReads.{read-answer}
use Rattle.pr_tools.specs.Calls.{stop_bytes}
use Rattle.pr_tools.specs.Handles.{handle_at, last_open, nothing_open, with_handle}
use Rattle.pr_tools.specs.Replies.{bytes_read}
use Rattle.pr_tools.specs.declared.handles.Opened.{Opened}
use Rattle.pr_truss_laws.proofs.Files.OpensLemmas.{Opens, Refuses, keeps_handles, open-opens, plain-leaves}
use Rattle.pr_truss_laws.proofs.Machine.StillLemmas.{live-changed}
use Rattle.pr_truss_laws.proofs.Machine.TakenLemmas.{stop-directs, taken-unless}
use Rattle.pr_probe_laws.proofs.Files.FilePlaces.{HasFile, HasFirst, held_of, keeps-first, none-first, one-more}
use Rattle.pr_probe_laws.proofs.PuttingBack.MemoryMessages.{writer_of}
use Rattle.pr_probe_laws.proofs.PuttingBack.ProbeCalls.{asked-next, granted}
use Rattle.pr_probe_laws.proofs.Sets.StatusSets.{bytes-given, proper-sets, same-system, keeps_system, status-sets}
use Rattle.pr_probe_laws.proofs.Sets.SetMessages.{set-done, setting, still-lives, without-none}
use Rattle.pr_probe_laws.proofs.Sets.SetStages.{AllBack, Began, EntriesBack, FaultsBack, Goes, HasLeft, IsFair, IsProper, Knows, Leaves, Looks, NoneBack, Noted, Put, SignalsBack, Untouched, Works, began-still, fair-front, found, left-still, noted-still, ranged-now}
use Rattle.pr_probe_laws.specs.SetsBack.{HoldsControl, WasTraced, sets_in_control, sets_on}
use Rattle.pr_tool_laws.specs.Leaving.{ClosesAtMost, IsNoCall}

-- What a call of apfiles makes of what it knows of the traced sets.

-- ---- the sets as words

pub word-proper : (kind : SetKind) (sets : TracedSets) → IsProper sets → IsWord (set_word sets kind)
unfolding set_word
word-proper Signals sets proper = proper.signals_fit
word-proper Faults sets proper = proper.faults_fit
word-proper Entries sets proper = proper.entries_fit
word-proper Exits sets proper = proper.exits_fit

-- sets of which all four are the same are the same
same-sets : (x y : TracedSets) → AllBack x y → y ≡ x
same-sets x y same =
    by (λ signals faults entries exits.
    record { signals = signals; faults = faults; entries = entries; exits = exits })
    same.0.0.0 same.0.0.1 same.0.1 same.1
  where
    by : (f : ℕ → ℕ → ℕ → ℕ → TracedSets) → y.signals ≡ x.signals → y.faults ≡ x.faults → y.entries ≡ x.entries
        → y.exits ≡ x.exits → f y.signals y.faults y.entries y.exits ≡ f x.signals x.faults x.entries x.exits
    by f signals faults entries exits = cc

-- what PCSTOP, and PCRUN, leave of a process
directed-sets : (p : TracedProcess) → sets_on (with_all_directed p) ≡ sets_on p
unfolding with_all_directed
directed-sets p = refl

run-ended : (p : TracedProcess) → (with_run 0 p).ended ≡ p.ended
unfolding with_run with_all_run has_flags common_word
run-ended p = refl

-- ---- what setting one of the sets back makes of them

abbrev pub back-on : (R S : TracedSets → TracedSets → Type 0) (kind : SetKind) → Type 0
back-on R S kind = (noted : TracedSets) (x : TracedProcess) → IsProper noted → R noted (sets_on x)
    → S noted (sets_on (with_control (setting kind (set_word noted kind)) x))

pub signals-on : back-on NoneBack SignalsBack Signals
unfolding with_control tracing_signals set_word signal_number
signals-on noted x proper none =
    without-none noted.signals _ proper.signals_fit (omega arith) (omega arith) proper.no_kill

pub faults-on : back-on SignalsBack FaultsBack Faults
unfolding with_control tracing_faults set_word
faults-on noted x proper back = (back, refl)

pub entries-on : back-on FaultsBack EntriesBack Entries
unfolding with_control tracing_entries set_word
entries-on noted x proper back = (back, refl)

pub exits-on : back-on EntriesBack AllBack Exits
unfolding with_control tracing_exits set_word
exits-on noted x proper back = (back, refl)

module _ (k pid : ℕ) (first : TracedState) (h : List Entry) (c : Call) (a : Answer)
    (lawful : IsLawful (state_after first h)) (given : answer_to (state_after first h) k c ≡ Some a) where
  abbrev s : TracedState
  s = state_after first h

  abbrev it : Entry
  it = call_entry k c a.reply

  abbrev longer : List Entry
  longer = h ++ it ∷ []

  -- what is known once the reply was fed
  abbrev pub Next : ProbeState → Type 0
  Next u = u.refusal ≡ None → Knows k pid first longer a.state u u.stage

  abbrev later : Began k pid first h → Began k pid first longer
  later b = began-still k pid first h it b

  pub its : (d : Call) → Some d ≡ Some c → answer_to s k d ≡ Some a
  its d same = ap (answer_to s k) (same_Some d c same) ∙ given

  -- what is known is known of a state of apfiles with the same process and other files
  goes-called : (p u : ProbeState) (many more : ℕ) (F : Began k pid first h → Type 0)
      (G : Began k pid first longer → Type 0) → u.pid ≡ p.pid → HasFirst k pid more a.state.opens u.opened
      → ((b : Began k pid first h) → IsFair k pid first h b → F b → G (later b)) → Goes k pid first h s p many F
      → Goes k pid first longer a.state u more G
  goes-called p u many more F G same holds on before = record {
    began = later before.began;
    its = same ∙ before.its;
    holds = holds;
    so = λ fair.
        let front : IsFair k pid first h before.began = fair-front k pid first h it before.began fair in
        on before.began front (before.so front);
  }

  pub handles-stay : (d : Call) → Some d ≡ Some c → keeps_handles d ≡ true → (many : ℕ) (o : Opened)
      → HasFirst k pid many s.opens o → HasFirst k pid many a.state.opens o
  handles-stay d same keeps many o holds =
      keeps-first k pid many s.opens a.state.opens o
      (λ number held own stands.
      ap (λ (x : Places). handle_in x k number) (plain-leaves s k d a keeps (its d same)) ∙ stands) holds

  untouched-still : a.state.system ≡ s.system → (b : Began k pid first h) → Untouched k pid first h b s.system
      → Untouched k pid first longer (later b) a.state.system
  untouched-still same b before q live = before q (ap (λ (x : TracedSystem). live_process x pid) (sym same) ∙ live)

  -- ---- its opens

  module _ (f : ProbeFile) (p : ProbeState) (pid_is : p.pid ≡ pid)
      (same : Some (call.Open p.pid (lwp_of f) (file_of f) (mode_of f)) ≡ Some c)
      (accepts : (e : Errno) → a.reply ≢ reply.Fail e) where
    answers : answer_to s k (call.Open pid (lwp_of f) (file_of f) (mode_of f)) ≡ Some a
    answers =
        ap (λ (q : ℕ). answer_to s k (call.Open q (lwp_of f) (file_of f) (mode_of f))) (sym pid_is)
        ∙ its (call.Open p.pid (lwp_of f) (file_of f) (mode_of f)) same

    pub open-first : HasFirst k pid (place_of f) s.opens p.opened
        → HasFirst k pid (place_of f + 1) a.state.opens (with_handle p.opened (place_of f) (opened_in a.reply))
    unfolding opened_in
    open-first holds = of (open-opens s k pid (lwp_of f) (file_of f) (mode_of f) a answers)
      where
        of : Refuses s a.reply a.state.opens ⊎ Opens s k (held_of k pid f) a.reply a.state.opens
            → HasFirst k pid (place_of f + 1) a.state.opens (with_handle p.opened (place_of f) (opened_in a.reply))
        of (inl denied) = absurd (accepts denied.errno denied.reply)
        of (inr opens) =
            subst (λ (r : Reply).
            HasFirst k pid (place_of f + 1) a.state.opens (with_handle p.opened (place_of f) (opened_in r)))
            (sym opens.reply) (one-more k pid s f a.reply a.state.opens opens p.opened holds)

    pub open-system : a.state.system ≡ s.system
    open-system = same-system s k (call.Open pid (lwp_of f) (file_of f) (mode_of f)) a refl answers

    pub its-open : c ≡ call.Open pid (lwp_of f) (file_of f) (mode_of f)
    its-open =
        sym (same_Some _ c same) ∙ ap (λ (q : ℕ). call.Open q (lwp_of f) (file_of f) (mode_of f)) pid_is

  abbrev opened_by : ProbeFile → ProbeState → ProbeState
  opened_by f p = record p { opened = with_handle p.opened (place_of f) (opened_in a.reply) }

  -- the control file, which is the first
  begins : (p : ProbeState) → (p.pid ≡ pid) × (p.opened ≡ nothing_open) × All (IsNoCall k) h
      → Some (call.Open p.pid (lwp_of Control) (file_of Control) (mode_of Control)) ≡ Some c
      → ((e : Errno) → a.reply ≢ reply.Fail e) → Looks k pid first longer a.state (opened_by Control p) 1
  unfolding place_of lwp_of file_of mode_of
  begins p so same accepts = record {
    began = record {
      before = h;
      opened = a.reply;
      later = [];
      place = ap (λ (d : Call). h ++ call_entry k d a.reply ∷ []) (its-open Control p so.0 same accepts);
      first_call = so.2;
    };
    its = so.0;
    holds = open-first Control p so.0 same accepts
        (subst (λ (o : Opened). HasFirst k pid 0 s.opens o) (sym so.1) (none-first k pid s.opens));
    so = λ fair q live. record {
      process = q;
      lived = ap (λ (x : TracedSystem). live_process x pid) (sym (open-system Control p so.0 same accepts)) ∙ live;
      same = refl;
    };
  }

  looks-open : (f : ProbeFile) (p : ProbeState) → Looks k pid first h s p (place_of f)
      → Some (call.Open p.pid (lwp_of f) (file_of f) (mode_of f)) ≡ Some c
      → ((e : Errno) → a.reply ≢ reply.Fail e) → Looks k pid first longer a.state (opened_by f p) (place_of f + 1)
  looks-open f p before same accepts =
      goes-called p (opened_by f p) (place_of f) (place_of f + 1) _ _ refl
      (open-first f p before.its same accepts before.holds)
      (λ b fair so. untouched-still (open-system f p before.its same accepts) b so) before

  works-open : (f : ProbeFile) (p : ProbeState) → Works k pid first h s p (place_of f)
      → Some (call.Open p.pid (lwp_of f) (file_of f) (mode_of f)) ≡ Some c
      → ((e : Errno) → a.reply ≢ reply.Fail e) → Works k pid first longer a.state (opened_by f p) (place_of f + 1)
  works-open f p before same accepts =
      goes-called p (opened_by f p) (place_of f) (place_of f + 1) _ _ refl
      (open-first f p before.its same accepts before.holds)
      (λ b fair so. noted-still k pid first h it b p.sets so) before

  -- ---- a call that leaves the handles, and one that leaves the system too

  looks-quiet : (d : Call) → Some d ≡ Some c → keeps_handles d ≡ true → keeps_system d ≡ true → (p u : ProbeState)
      (many : ℕ) → u.pid ≡ p.pid → u.opened ≡ p.opened → Looks k pid first h s p many
      → Looks k pid first longer a.state u many
  looks-quiet d same keeps leaves p u many its_pid files before =
      goes-called p u many many _ _ its_pid
      (subst (λ (o : Opened). HasFirst k pid many a.state.opens o) (sym files)
      (handles-stay d same keeps many p.opened before.holds))
      (λ b fair so. untouched-still (same-system s k d a leaves (its d same)) b so) before

  works-quiet : (d : Call) → Some d ≡ Some c → keeps_handles d ≡ true → (p u : ProbeState) (many : ℕ)
      → u.pid ≡ p.pid → u.opened ≡ p.opened → u.sets ≡ p.sets → Works k pid first h s p many
      → Works k pid first longer a.state u many
  works-quiet d same keeps p u many its_pid files sets before =
      goes-called p u many many _ _ its_pid
      (subst (λ (o : Opened). HasFirst k pid many a.state.opens o) (sym files)
      (handles-stay d same keeps many p.opened before.holds))
      (λ b fair so.
      subst (Noted k pid first longer (later b)) (sym sets) (noted-still k pid first h it b p.sets so)) before

  -- ---- its messages to the process

  module _ (p : ProbeState) (many : ℕ) (some : 0 < many) (holds : HasFirst k pid many s.opens p.opened) where
    pub control : HasFile k pid s.opens p.opened Control
    unfolding place_of
    control = holds.each Control some

    pub control-stands : handle_in s.opens k control.number ≡ Some (writer_of k pid)
    unfolding lwp_of file_of mode_of
    control-stands = control.stands

    pub sent-by : (bytes : List ℕ) → Some (call.Ctl (number_of (handle_at p.opened (place_of Control))) bytes) ≡ Some c
        → answer_to s k (call.Ctl control.number bytes) ≡ Some a
    sent-by bytes same =
        ap (λ (x : Option ℕ). answer_to s k (call.Ctl (number_of x) bytes)) (sym control.at) ∙ its _ same

    -- PCSTOP
    stop-sets : Some (call.Ctl (number_of (handle_at p.opened (place_of Control))) stop_bytes) ≡ Some c
        → ((e : Errno) → a.reply ≢ reply.Fail e) → (b : Began k pid first h) → Untouched k pid first h b s.system
        → Untouched k pid first longer (later b) a.state.system
    stop-sets same accepts b before q live =
        let sent = sent-by stop_bytes same in
        let lives = still-lives s k control.number pid a control-stands accepts stop_bytes sent in
        let now =
        stop-directs s k control.number (writer_of k pid) control-stands refl lives.process lives.live a sent
        accepts in
        let is : with_all_directed lives.process ≡ q = same_Some (with_all_directed lives.process) q (sym now ∙ live) in
        let sets : sets_on lives.process ≡ sets_on q = sym (directed-sets lives.process) ∙ ap sets_on is in
        subst (λ (x : TracedSets). WasTraced pid x (found k pid first h b)) sets (before lives.process lives.live)

    -- one of the sets is set back
    set-back : (R S : TracedSets → TracedSets → Type 0) (kind : SetKind) → back-on R S kind
        → Some (set_call p kind p.sets) ≡ Some c → ((e : Errno) → a.reply ≢ reply.Fail e)
        → (b : Began k pid first h) → Put k pid first R h b s.system p.sets
        → Put k pid first S longer (later b) a.state.system p.sets
    unfolding with_control
    set-back R S kind on same accepts b before = record {
      notes = noted-still k pid first h it b p.sets before.notes;
      back = λ q live.
          let sent = sent-by _ same in
          let lives = still-lives s k control.number pid a control-stands accepts _ sent in
          let x : TracedProcess = lives.process in
          let w : ℕ = set_word p.sets kind in
          let now =
          set-done s k control.number pid a control-stands accepts x lives.live kind w
          (word-proper kind p.sets before.notes.proper) sent in
          let is : with_control (setting kind w) x ≡ q =
          same_Some (with_control (setting kind w) x) q (sym now ∙ live) in
          subst (λ (y : TracedProcess). S p.sets (sets_on y)) is
          (on p.sets x before.notes.proper (before.back x lives.live));
    }

    -- PCRUN
    run-live : Some (call.Ctl (number_of (handle_at p.opened (place_of Control))) (spelling (message.Run 0) []))
        ≡ Some c → ((e : Errno) → a.reply ≢ reply.Fail e) → (x : TracedProcess) → live_process s.system pid ≡ Some x
        → live_process a.state.system pid ≡ Some (with_run 0 x)
    unfolding message_answer run_answer
    run-live same accepts x live =
        let t =
        taken-unless s k control.number (writer_of k pid) control-stands refl x live (spelling (message.Run 0) [])
        (message.Run 0) a run-reads (sent-by (spelling (message.Run 0) []) same) accepts in
        by t.len (run_refused x) t.is
      where
        by : (len : ℕ) (b : Bool)
            → a ≡ controlled s (cond b (refused s.system Busy) (with_process_changed s.system pid x len (with_run 0)))
            → live_process a.state.system pid ≡ Some (with_run 0 x)
        by len true is = absurd (accepts Busy (ap (λ (y : Answer). y.reply) is))
        by len false is =
            ap (λ (y : Answer). live_process y.state.system pid) is ∙ live-changed s.system pid (with_run 0) x live
            (run-ended x)

    run-sets : Some (call.Ctl (number_of (handle_at p.opened (place_of Control))) (spelling (message.Run 0) []))
        ≡ Some c → ((e : Errno) → a.reply ≢ reply.Fail e) → (b : Began k pid first h)
        → Put k pid first AllBack h b s.system p.sets → Put k pid first AllBack longer (later b) a.state.system p.sets
    run-sets same accepts b before = record {
      notes = noted-still k pid first h it b p.sets before.notes;
      back = λ q live.
          let lives =
          still-lives s k control.number pid a control-stands accepts _ (sent-by (spelling (message.Run 0) []) same) in
          let x : TracedProcess = lives.process in
          let is : with_run 0 x ≡ q = same_Some (with_run 0 x) q (sym (run-live same accepts x lives.live) ∙ live) in
          let sets : sets_on x ≡ sets_on q = ap sets_in_control (sym (run-control x)) ∙ ap sets_on is in
          subst (AllBack p.sets) sets (before.back x lives.live);
    }

  -- ---- the status is noted

  module _ (p : ProbeState) (before : Looks k pid first h s p 4)
      (same : Some (call.Read (number_of (handle_at p.opened (place_of Status))) 0 read_limit) ≡ Some c)
      (accepts : (e : Errno) → a.reply ≢ reply.Fail e) where
    status : HasFile k pid s.opens p.opened Status
    unfolding place_of
    status = before.holds.each Status (omega arith)

    status-answer : a ≡ answered s (file_read s.system pid 0 0 read_limit file.Status)
    unfolding lwp_of file_of mode_of
    status-answer =
        read-answer s status.number 0 read_limit (held_of k pid Status) a refl status.stands
        (ap (λ (x : Option ℕ). answer_to s k (call.Read (number_of x) 0 read_limit)) (sym status.at) ∙ its _ same)

    -- the process lives, since its status was read
    record IsSeen : Type 0 where
      process : TracedProcess
      live : live_process s.system pid ≡ Some process
      bytes : bytes_read a.reply ≡ part_read (status_bytes (status_of s.system pid process)) 0 read_limit

    seen : IsSeen
    seen = by (live_process s.system pid) refl
      where
        reply-is : a.reply ≡ file_read s.system pid 0 0 read_limit file.Status
        reply-is = ap (λ (x : Answer). x.reply) status-answer

        by : (o : Option TracedProcess) → live_process s.system pid ≡ o → IsSeen
        by None none = absurd (accepts Noent (reply-is ∙ status-gone s.system pid none))
        by (Some q) live = record {
          process = q;
          live = live;
          bytes = bytes-given _ a.reply (reply-is ∙ status-there s.system pid q live);
        }

    noted-now : (b : Began k pid first h) → IsFair k pid first h b → Untouched k pid first h b s.system
        → Noted k pid first longer (later b) (sets_in (record_read status_ranges (bytes_read a.reply)))
    noted-now b fair so =
        let q : TracedProcess = seen.process in
        let there = found-live s.system pid q seen.live in
        let records = records-range s.system lawful.system (ranged-now k pid first h b fair) in
        let ranged = (records.processes pid q there.0).status in
        let sets : sets_in (record_read status_ranges (bytes_read a.reply)) ≡ sets_on q =
        ap (λ (bytes : List ℕ). sets_in (record_read status_ranges bytes)) seen.bytes
        ∙ status-sets s.system pid q ranged in
        let was = so q seen.live in
        let own = All-under IsLawfulProcess pid q s.system.processes lawful.system.processes there.0 in
        subst (Noted k pid first longer (later b)) (sym sets)
        (record {
          was = record { process = was.process; lived = was.lived; same = was.same };
          proper = proper-sets s.system pid q ranged own;
        })

  status-noted : (p u : ProbeState) → u.pid ≡ p.pid → u.opened ≡ p.opened
      → u.sets ≡ sets_in (record_read status_ranges (bytes_read a.reply)) → Looks k pid first h s p 4
      → Some (call.Read (number_of (handle_at p.opened (place_of Status))) 0 read_limit) ≡ Some c
      → ((e : Errno) → a.reply ≢ reply.Fail e) → Works k pid first longer a.state u 4
  status-noted p u its_pid files sets before same accepts =
      goes-called p u 4 4 _ _ its_pid
      (subst (λ (o : Opened). HasFirst k pid 4 a.state.opens o) (sym files)
      (handles-stay _ same refl 4 p.opened before.holds))
      (λ b fair so.
      subst (Noted k pid first longer (later b)) (sym sets) (noted-now p before same accepts b fair so)) before

  -- ---- its closes

  its-control : {o : Opened} → HasFirst k pid 6 s.opens o → HoldsControl k pid s.opens
  unfolding place_of lwp_of file_of mode_of
  its-control first_files =
      let control = first_files.each Control (omega arith) in
      record {
        number = control.number;
        held = held_of k pid Control;
        there = control.stands;
        of = refl;
        file = refl;
      }

  pub only-closes : (o : Option ℕ) → option_map call.Close o ≡ Some c → ClosesAtMost k it
  only-closes None is d r call_is = absurd (none-some c is)
  only-closes (Some handle) is d r call_is =
      let made : act.Call c a.reply ≡ act.Call d r = ap (λ (x : Entry). x.act) call_is in
      let its : c ≡ d = cc in
      record { handle = handle; is = sym its ∙ sym (same_Some (call.Close handle) c is) }

  closes : (p : ProbeState) → Leaves k pid first AllBack h s p ⊎ HasLeft k pid first h
      → option_map call.Close (last_open p.opened) ≡ Some c → HasLeft k pid first longer
  closes p (inr left) same = left-still k pid first h it (only-closes (last_open p.opened) same) left
  closes p (inl going) same = of (last_open p.opened) same
    where
      of : (o : Option ℕ) → option_map call.Close o ≡ Some c → HasLeft k pid first longer
      of None is = absurd (none-some c is)
      of (Some handle) is = record {
        front = h;
        began = going.began;
        handle = handle;
        reply = a.reply;
        after = [];
        place = ap (λ (d : Call). h ++ call_entry k d a.reply ∷ []) (sym (same_Some (call.Close handle) c is));
        holds = its-control going.holds;
        closes = All-nil (ClosesAtMost k);
        so = λ fair q live.
            let put = going.so fair in
            let was = put.notes.was in
            record {
              process = was.process;
              lived = was.lived;
              same = same-sets p.sets (sets_on q) (put.back q live) ∙ was.same;
            };
      }

  -- ---- the stages

  -- what is known is known at another stage
  looks-as : (p u : ProbeState) (many : ℕ) → u.pid ≡ p.pid → u.opened ≡ p.opened
      → Looks k pid first longer a.state p many → Looks k pid first longer a.state u many
  looks-as p u many its_pid files before = record {
    began = before.began;
    its = its_pid ∙ before.its;
    holds = subst (λ (o : Opened). HasFirst k pid many a.state.opens o) (sym files) before.holds;
    so = before.so;
  }

  works-as : (p u : ProbeState) (many : ℕ) → u.pid ≡ p.pid → u.opened ≡ p.opened → u.sets ≡ p.sets
      → Works k pid first longer a.state p many → Works k pid first longer a.state u many
  works-as p u many its_pid files sets before = record {
    began = before.began;
    its = its_pid ∙ before.its;
    holds = subst (λ (o : Opened). HasFirst k pid many a.state.opens o) (sym files) before.holds;
    so = λ fair. subst (Noted k pid first longer before.began) (sym sets) (before.so fair);
  }

  -- a descriptor that is noted
  works-noted : (p : ProbeState) (d : ℕ) (kind : Option FdKind) → Works k pid first longer a.state p 6
      → Works k pid first longer a.state (with_kind p d kind) 6
  works-noted p d kind before = record {
    began = before.began;
    its = kind-kept (λ t. t.pid) (λ t lines. refl) p d kind ∙ before.its;
    holds =
        subst (λ (o : Opened). HasFirst k pid 6 a.state.opens o)
        (sym (kind-kept (λ t. t.opened) (λ t lines. refl) p d kind)) before.holds;
    so = λ fair.
        subst (Noted k pid first longer before.began) (sym (kind-kept (λ t. t.sets) (λ t lines. refl) p d kind))
        (before.so fair);
  }

  works-asked : (p : ProbeState) (d : ℕ) → Works k pid first longer a.state p 6
      → Knows k pid first longer a.state (asked p d) (stage_asked d)
  unfolding Knows
  works-asked p d so =
      asked-next (λ (g : ProbeStage). Knows k pid first longer a.state (asked p d) g)
      (λ e step. works-at so) (works-at so) d
    where
      works-at : Works k pid first longer a.state p 6 → Works k pid first longer a.state (asked p d) 6
      works-at before = record { began = before.began; its = before.its; holds = before.holds; so = before.so }

  asks-on : (p : ProbeState) (d : ℕ) (step : AskingStep) → Works k pid first h s p 6
      → Some (asking_call p d step) ≡ Some c
      → Next (asking_accepted (at_stage p (stage.Asking d step)) a.reply d step)
  unfolding Knows asking_call asking_accepted advanced with_next stage_after asking_after
  asks-on p d SetRegisters so same = λ none. works-quiet _ same refl p _ 6 refl refl refl so
  asks-on p d RunAgent so same = λ none. works-quiet _ same refl p _ 6 refl refl refl so
  asks-on p d Await so same =
      poll-by Next (at_stage p (stage.Asking d Await)) a.reply
      (λ none. works-quiet _ same refl p _ 6 refl refl refl so)
      (λ none. works-quiet _ same refl p _ 6 refl refl refl so)
  asks-on p d ReadAgent so same =
      answer-by Next (at_stage p (stage.Asking d ReadAgent)) d (bytes_read a.reply)
      (λ none. works-quiet _ same refl p _ 6 refl refl refl so)
      (λ none. works-asked (at_stage p (stage.Asking d ReadAgent)) d
      (works-quiet _ same refl p _ 6 refl refl refl so))
  asks-on p d ReadKind so same =
      let q : ProbeState = at_stage p (stage.Asking d ReadKind) in
      λ none. works-asked (with_kind q d (kind_in (bytes_read a.reply))) d
      (works-noted q d (kind_in (bytes_read a.reply)) (works-quiet _ same refl p q 6 refl refl refl so))

  -- nothing is back yet
  leaves-begin : (u : ProbeState) → Works k pid first longer a.state u 6 → Leaves k pid first NoneBack longer a.state u
  leaves-begin u before = record {
    began = before.began;
    its = before.its;
    holds = before.holds;
    so = λ fair. record { notes = before.so fair; back = λ q live. tt };
  }

  -- the sets are set back one after another
  put-back : (R S : TracedSets → TracedSets → Type 0) (kind : SetKind) → back-on R S kind → (p u : ProbeState)
      → u.pid ≡ p.pid → u.opened ≡ p.opened → u.sets ≡ p.sets → Leaves k pid first R h s p
      → Some (set_call p kind p.sets) ≡ Some c → ((e : Errno) → a.reply ≢ reply.Fail e)
      → Leaves k pid first S longer a.state u
  put-back R S kind on p u its_pid files sets before same accepts =
      goes-called p u 6 6 _ _ its_pid
      (subst (λ (o : Opened). HasFirst k pid 6 a.state.opens o) (sym files)
      (handles-stay _ same refl 6 p.opened before.holds))
      (λ b fair so.
      subst (Put k pid first S longer (later b) a.state.system) (sym sets)
      (set-back p 6 (omega arith) before.holds R S kind on same accepts b so)) before

  run-on : (p u : ProbeState) → u.pid ≡ p.pid → u.opened ≡ p.opened → u.sets ≡ p.sets
      → Leaves k pid first AllBack h s p
      → Some (call.Ctl (number_of (handle_at p.opened (place_of Control))) (spelling (message.Run 0) [])) ≡ Some c
      → ((e : Errno) → a.reply ≢ reply.Fail e) → Leaves k pid first AllBack longer a.state u
  run-on p u its_pid files sets before same accepts =
      goes-called p u 6 6 _ _ its_pid
      (subst (λ (o : Opened). HasFirst k pid 6 a.state.opens o) (sym files)
      (handles-stay _ same refl 6 p.opened before.holds))
      (λ b fair so.
      subst (Put k pid first AllBack longer (later b) a.state.system) (sym sets)
      (run-sets p 6 (omega arith) before.holds same accepts b so)) before

  stop-on : (p u : ProbeState) → u.pid ≡ p.pid → u.opened ≡ p.opened → Looks k pid first h s p 4
      → Some (call.Ctl (number_of (handle_at p.opened (place_of Control))) stop_bytes) ≡ Some c
      → ((e : Errno) → a.reply ≢ reply.Fail e) → Looks k pid first longer a.state u 4
  stop-on p u its_pid files before same accepts =
      goes-called p u 4 4 _ _ its_pid
      (subst (λ (o : Opened). HasFirst k pid 4 a.state.opens o) (sym files)
      (handles-stay _ same refl 4 p.opened before.holds))
      (λ b fair so. stop-sets p 4 (omega arith) before.holds same accepts b so) before

  -- what a stage that passes over no refusal accepts
  pub taken : (g : ProbeStage) → ((e : Errno) → is_passed_over g e ≡ false) → refusal_in g a.reply ≡ None
      → (e : Errno) → a.reply ≢ reply.Fail e
  taken g counts right = granted g a.reply counts right

  step-on : (p : ProbeState) (g : ProbeStage) → Knows k pid first h s (at_stage p g) g
      → call_of (at_stage p g) g ≡ Some c → refusal_in g a.reply ≡ None → Next (accepted (at_stage p g) a.reply g)
  unfolding Knows call_of accepted advanced with_next with_status stage_after stage_opened place_of kind_after
      is_passed_over
  step-on p (stage.Open Control) so same right = λ none. looks-as _ _ 1 refl refl
      (begins (at_stage p (stage.Open Control)) so same
      (taken (stage.Open Control) (λ e. refl) right))
  step-on p (stage.Open Status) so same right =
      λ none. looks-as _ _ 2 refl refl
      (looks-open Status (at_stage p (stage.Open Status)) so same
      (taken (stage.Open Status) (λ e. refl) right))
  step-on p (stage.Open Lstatus) so same right =
      λ none. looks-as _ _ 3 refl refl
      (looks-open Lstatus (at_stage p (stage.Open Lstatus)) so same
      (taken (stage.Open Lstatus) (λ e. refl) right))
  step-on p (stage.Open Map) so same right =
      λ none. looks-as _ _ 4 refl refl
      (looks-open Map (at_stage p (stage.Open Map)) so same
      (taken (stage.Open Map) (λ e. refl) right))
  step-on p (stage.Open AgentControl) so same right =
      λ none. works-as _ _ 5 refl refl refl
      (works-open AgentControl (at_stage p (stage.Open AgentControl)) so same
      (taken (stage.Open AgentControl) (λ e. refl) right))
  step-on p (stage.Open AgentStatus) so same right =
      λ none. works-as _ _ 6 refl refl refl
      (works-open AgentStatus (at_stage p (stage.Open AgentStatus)) so same
      (taken (stage.Open AgentStatus) (λ e. refl) right))
  step-on p stage.ReadFirst so same right = λ none. looks-quiet _ same refl refl _ _ 4 refl refl so
  step-on p stage.Stop so same right =
      λ none. stop-on _ _ refl refl so same (taken stage.Stop (λ e. refl) right)
  step-on p stage.AwaitStop so same right = λ none. looks-quiet _ same refl refl _ _ 4 refl refl so
  step-on p stage.ReadStatus so same right =
      λ none. status-noted _ _ refl refl refl so same (taken stage.ReadStatus (λ e. refl) right)
  step-on p stage.ReadMap so same right =
      map-by Next (at_stage p stage.ReadMap) (bytes_read a.reply)
      (λ e none. not-refused (at_stage p stage.ReadMap) e none)
      (λ none. works-quiet _ same refl _ _ 4 refl refl refl so)
  step-on p stage.SaveCode so same right = λ none. works-quiet _ same refl _ _ 4 refl refl refl so
  step-on p stage.SaveStack so same right = λ none. works-quiet _ same refl _ _ 4 refl refl refl so
  step-on p (stage.Trace Signals) so same right = λ none. works-quiet _ same refl _ _ 4 refl refl refl so
  step-on p (stage.Trace Faults) so same right = λ none. works-quiet _ same refl _ _ 4 refl refl refl so
  step-on p (stage.Trace Entries) so same right = λ none. works-quiet _ same refl _ _ 4 refl refl refl so
  step-on p (stage.Trace Exits) so same right = λ none. works-quiet _ same refl _ _ 4 refl refl refl so
  step-on p stage.MakeAgent so same right = λ none. works-quiet _ same refl _ _ 4 refl refl refl so
  step-on p stage.PlantCode so same right = λ none. works-quiet _ same refl _ _ 6 refl refl refl so
  step-on p (stage.Asking d step) so same right = asks-on (at_stage p (stage.Asking d step)) d step so same
  step-on p stage.UntraceExits so same right = λ none. works-quiet _ same refl _ _ 6 refl refl refl so
  step-on p stage.SetExit so same right = λ none. works-quiet _ same refl _ _ 6 refl refl refl so
  step-on p stage.RunExit so same right = λ none. works-quiet _ same refl _ _ 6 refl refl refl so
  step-on p stage.AwaitExit so same right =
      poll-by Next (at_stage p stage.AwaitExit) a.reply (λ none. works-quiet _ same refl _ _ 6 refl refl refl so)
      (λ none. works-quiet _ same refl _ _ 6 refl refl refl so)
  step-on p stage.WriteCode so same right = λ none. works-quiet _ same refl _ _ 6 refl refl refl so
  step-on p stage.WriteStack so same right = λ none. leaves-begin _ (works-quiet _ same refl _ _ 6 refl refl refl so)
  step-on p (stage.Retrace Signals) so same right =
      λ none. put-back NoneBack SignalsBack Signals signals-on _ _ refl refl refl so same
      (taken (stage.Retrace Signals) (λ e. refl) right)
  step-on p (stage.Retrace Faults) so same right =
      λ none. put-back SignalsBack FaultsBack Faults faults-on _ _ refl refl refl so same
      (taken (stage.Retrace Faults) (λ e. refl) right)
  step-on p (stage.Retrace Entries) so same right =
      λ none. put-back FaultsBack EntriesBack Entries entries-on _ _ refl refl refl so same
      (taken (stage.Retrace Entries) (λ e. refl) right)
  step-on p (stage.Retrace Exits) so same right =
      run-next-by Next (at_stage p (stage.Retrace Exits)) stage.Run
      (λ stood none. inl (put-back EntriesBack AllBack Exits exits-on _ _ refl refl refl so same
      (taken (stage.Retrace Exits) (λ e. refl) right)))
      (λ stood none. put-back EntriesBack AllBack Exits exits-on _ _ refl refl refl so same
      (taken (stage.Retrace Exits) (λ e. refl) right))
  step-on p stage.Run so same right =
      λ none. inl (run-on _ _ refl refl refl so same (taken stage.Run (λ e. refl) right))
  step-on p stage.Close so same right = λ none. inr (closes (at_stage p stage.Close) so same)
  step-on p (stage.Restore kind) so same right = absurd so
  step-on p stage.Release so same right = absurd so

  -- a probe that was fed the reply to its call
  pub called-knows : (p : ProbeState) → next_call_of p ≡ Some c
      → (p.refusal ≡ None → Knows k pid first h s p p.stage) → Next (fed p a.reply)
  unfolding next_call_of
  called-knows p next so none =
      let before : p.refusal ≡ None = fed-back p a.reply none in
      fed-by Next p a.reply (λ e is refused. not-refused p e refused)
      (λ right. step-on p p.stage (so before) next right) none
