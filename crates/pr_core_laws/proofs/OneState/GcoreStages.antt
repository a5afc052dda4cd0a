use Rattle.std.proofs.Common.{◌≡◌, ◌<◌, ◌∷◌, ◌++◌, ℕ, false, List, [], Some, None, IsSome, refl, sym, subst, ap, ◌∙◌, arith}
use Rattle.std.proofs.lemmas.List.{append-nil}
use Rattle.pr_api.specs.Entries.{call_entry}
use Rattle.pr_core.specs.CoreBytes.{section}
use Rattle.pr_core.specs.GcoreStages.{control_place, kind_of_part, memory_place, place_of_part, status_place}
use Rattle.pr_core.specs.Gcores.{GcoreState}
use Rattle.pr_core.specs.declared.gcore_stages.GcorePart.{GcorePart}
use Rattle.pr_core.specs.declared.gcore_stages.GcorePart.TheVariants as part
use Rattle.pr_core.specs.declared.gcore_stages.GcoreStage.{GcoreStage}
use Rattle.pr_core.specs.declared.gcore_stages.GcoreStage.TheVariants as stage
use Rattle.pr_core.specs.declared.memory_walks.MemoryWalk.{MemoryWalk}
use Rattle.pr_model.proofs.HistoryLemmas.{state_after-push}
use Rattle.pr_model.specs.Lawful.{IsLawful}
use Rattle.pr_model.specs.Legal.{IsLegalEntry, after, state_after}
use Rattle.pr_model.specs.Records.{map_of}
use Rattle.pr_model.specs.State.{TracedProcess, TracedState, TracedSystem, has_agent, live_process}
use Rattle.pr_model.specs.Statuses.{status_of}
use Rattle.pr_model.specs.declared.calls.Call.{Call}
use Rattle.pr_model.specs.declared.calls.File.TheVariants as file
use Rattle.pr_model.specs.declared.calls.Reply.{Reply}
use Rattle.pr_model.specs.declared.events.Act.{Act}
use Rattle.pr_model.specs.declared.events.Actor.{Actor}
use Rattle.pr_model.specs.declared.events.Entry.{Entry}
use Rattle.pr_model.specs.declared.handles.Held.{Held}
use Rattle.pr_rec.specs.InRange.{IsStatus}
use Rattle.pr_rec.specs.RecordBytes.{map_bytes}
use Rattle.pr_num.specs.Spaces.{IsSpace}
use Rattle.pr_tools.specs.Handles.{most_open}
use Rattle.pr_tools.specs.declared.handles.Opened.{Opened}
use Rattle.pr_tool_laws.proofs.Pstack.StackHalts.{HaltsWith, others-halt, pid-made}
use Rattle.pr_tool_laws.proofs.Pstack.StackReads.{control_of}
use Rattle.pr_tool_laws.proofs.Pstack.StackStages.{stopped-still}
use Rattle.pr_tool_laws.proofs.OwnFiles.StandingLemmas.{IsOther, Stands, others-keep}
use Rattle.pr_tool_laws.proofs.Stages.ToolLemmas.{place-still}
use Rattle.pr_tool_laws.specs.OneState.{AreDescriptorsRead, AreDispositionsRead, AreLwpsRead, AreMappingsRead}
use Rattle.pr_tool_laws.specs.Reads.{ReadsFile}
use Rattle.pr_tool_laws.specs.Stacks.{HasStopped}
use Rattle.pr_truss_laws.proofs.Machine.ForeignLemmas.{exclusive-sole}
use Rattle.pr_truss_laws.specs.Handles.{HasNoOtherWriter}
use Rattle.pr_truss_laws.specs.Stills.{IsFrozen}
use Rattle.pr_core_laws.proofs.OneState.GcoreSteps.{IsEnding, Notes, first_notes, gcore_at, head_of}
use Rattle.pr_core_laws.proofs.OpenFiles.HandleLemmas.{HasFirst, keeps-first}
use Rattle.pr_core_laws.proofs.OneState.MemoryLemmas.{IsInMemory, memory_of}
use Rattle.pr_core_laws.proofs.OneState.ReadLemmas.{bytes_of_part}
use Rattle.pr_core_laws.proofs.StandingProcesses.SameLemmas.{frozen-same, same-next, spared-front, stood-more}
use Rattle.pr_core_laws.proofs.StandingProcesses.SparingLemmas.{sent-none}
use Rattle.pr_core_laws.proofs.StandingProcesses.StandLemmas.{Lived, StandsStill, frozen-alone, frozen-apart, lived, others-stand}
use Rattle.pr_core_laws.specs.Spared.{IsSpared, IsSparedIn, SendsNoStop, StoodIn, pending_of_lwps, signalled_as}

-- The stages of gcore, with what it read so far of the state that it shows.

module _ (n k pid : ℕ) (first : TracedState) where
  -- ---- the read of the status

  -- gcore has read the status of a process that it had waited for; what came since then
  pub record Seen (h : List Entry) : Type 0 where
    pub before : List Entry
    pub look : Call
    pub seen : Reply
    pub later : List Entry
    pub place : h ≡ before ++ call_entry k look seen ∷ later
    pub looks : ReadsFile k pid file.Status (state_after first before) look
    pub stopped : HasStopped k pid first before
    pub process : TracedProcess
    pub live : live_process (state_after first before).system pid ≡ Some process
    pub own : IsStatus (status_of (state_after first before).system pid process) → process.borrower ≡ None
    pub frozen : has_agent process ≡ false → IsFrozen process

  -- the system that the read found, and the entries from it on
  abbrev pub found : (h : List Entry) → Seen h → TracedSystem
  found h v = (state_after first v.before).system

  abbrev pub between : (h : List Entry) → Seen h → List Entry
  between h v = call_entry k v.look v.seen ∷ v.later

  abbrev pub seen-still : (h : List Entry) (e : Entry) → Seen h → Seen (h ++ e ∷ [])
  seen-still h e v = record {
    before = v.before;
    look = v.look;
    seen = v.seen;
    later = v.later ++ e ∷ [];
    place = place-still h v.before (call_entry k v.look v.seen) v.later e v.place;
    looks = v.looks;
    stopped = v.stopped;
    process = v.process;
    live = v.live;
    own = v.own;
    frozen = v.frozen;
  }

  -- ---- what is known of the process where it was spared

  -- it has no agent, one read has each of its records, and it is spared to the end of this history
  pub record IsFine (h : List Entry) (v : Seen h) : Type 0 where
    pub quiet : has_agent v.process ≡ false
    pub status : IsStatus (status_of (found h v) pid v.process)
    pub lwps : AreLwpsRead v.process
    pub dispositions : AreDispositionsRead v.process
    pub mappings : AreMappingsRead (found h v) v.process
    pub spared : IsSparedIn pid v.process first v.before (between h v)

  pub fine-front : (h : List Entry) (e : Entry) (v : Seen h) → IsFine (h ++ e ∷ []) (seen-still h e v) → IsFine h v
  fine-front h e v fine = record {
    quiet = fine.quiet;
    status = fine.status;
    lwps = fine.lwps;
    dispositions = fine.dispositions;
    mappings = fine.mappings;
    spared = spared-front pid v.process first v.before (between h v) e fine.spared;
  }

  -- the process as it is now, where it lives
  pub record HasKept (h : List Entry) (v : Seen h) (q : TracedProcess) : Type 0 where
    pub same : q ≡ signalled_as v.process q
    pub stood : StoodIn pid v.process first v.before (between h v)

  -- an entry later, where it is as it was
  pub kept-more : (h : List Entry) (e : Entry) (v : Seen h) (later : TracedState)
      → later ≡ state_after first (h ++ e ∷ [])
      → (p q : TracedProcess) → HasKept h v p → live_process later.system pid ≡ Some q → q ≡ signalled_as v.process q
      → HasKept (h ++ e ∷ []) (seen-still h e v) q
  kept-more h e v later is p q kept live same = record {
    same = same;
    stood = stood-more pid v.process first v.before (between h v) e q kept.stood
        (ap (λ (g : List Entry). live_process (state_after first g).system pid) (sym (seen-still h e v).place)
        ∙ ap (λ (x : TracedState). live_process x.system pid) (sym is) ∙ live) same;
  }

  -- the bytes of the core up to a part
  abbrev pub section_of : GcorePart → TracedSystem → TracedProcess → List ℕ
  section_of which s p = section (kind_of_part which) (bytes_of_part which pid s p)

  abbrev pub with_psinfo : TracedSystem → TracedProcess → List ℕ
  with_psinfo s p = head_of pid ++ section_of part.Psinfo s p

  abbrev pub with_lstatus : TracedSystem → TracedProcess → List ℕ
  with_lstatus s p = with_psinfo s p ++ section_of part.Lstatus s p

  abbrev pub with_sigact : TracedSystem → TracedProcess → List ℕ
  with_sigact s p = with_lstatus s p ++ section_of part.Sigact s p

  abbrev pub with_map : TracedSystem → TracedProcess → List ℕ
  with_map s p = with_sigact s p ++ section_of part.Map s p

  unfoldable pub up_to : GcorePart → TracedSystem → TracedProcess → List ℕ
  up_to part.Psinfo s p = head_of pid
  up_to part.Lstatus s p = with_psinfo s p
  up_to part.Sigact s p = with_lstatus s p
  up_to part.Map s p = with_sigact s p
  up_to part.Fds s p = with_map s p

  -- the mappings are noted once they were read
  unfoldable pub NotesMaps : GcorePart → TracedSystem → TracedProcess → List ℕ → Type 0
  NotesMaps part.Fds s p maps = maps ≡ map_bytes (map_of s p)
  NotesMaps _ s p maps = Unit {0}

  -- what it has read of the process as that is now
  pub record HasRead (h : List Entry) (v : Seen h) (q : TracedProcess) (notes : Notes)
      (which : GcorePart) : Type 0 where
    pub kept : HasKept h v q
    pub bytes : notes.bytes ≡ up_to which (found h v) v.process
    pub maps : NotesMaps which (found h v) v.process notes.maps

  -- the part comes next
  pub record Reads (h : List Entry) (s : TracedSystem) (notes : Notes) (which : GcorePart) : Type 0 where
    pub view : Seen h
    pub halts : HaltsWith pid view.process s
    pub each : (q : TracedProcess) → live_process s pid ≡ Some q → IsFine h view → HasRead h view q notes which

  -- ---- the state that it shows

  -- gcore has read the descriptors in it
  pub record HasTaken (h : List Entry) : Type 0 where
    pub front : List Entry
    pub view : Seen front
    pub call : Call
    pub reply : Reply
    pub after : List Entry
    pub place : h ≡ front ++ call_entry k call reply ∷ after
    pub reads : ReadsFile k pid file.Fds (state_after first front) call
    pub process : TracedProcess
    pub live : live_process (state_after first front).system pid ≡ Some process
    pub kept : IsFine front view → HasKept front view process

  abbrev pub taken-still : (h : List Entry) (e : Entry) → HasTaken h → HasTaken (h ++ e ∷ [])
  taken-still h e t = record {
    front = t.front;
    view = t.view;
    call = t.call;
    reply = t.reply;
    after = t.after ++ e ∷ [];
    place = place-still h t.front (call_entry k t.call t.reply) t.after e t.place;
    reads = t.reads;
    process = t.process;
    live = t.live;
    kept = t.kept;
  }

  -- where this is so, the core is that of the process in that state
  pub record IsGood (h : List Entry) (t : HasTaken h) : Type 0 where
    pub fine : IsFine t.front t.view
    pub descriptors : AreDescriptorsRead (state_after first t.front).system t.process
    pub space : IsSpace t.view.process.space

  -- the records of the core
  abbrev pub records_of : (h : List Entry) → HasTaken h → List ℕ
  records_of h t =
      with_map (found t.front t.view) t.view.process
      ++ section_of part.Fds (state_after first t.front).system t.process

  -- the memory comes next, and the walk is there
  pub record Walks (h : List Entry) (s : TracedSystem) (notes : Notes) : Type 0 where
    pub taken : HasTaken h
    pub halts : HaltsWith pid taken.view.process s
    pub walk : MemoryWalk
    pub is : notes.walk ≡ Some walk
    pub here : IsGood h taken
        → IsInMemory taken.view.process.program taken.view.process.space
        (records_of h taken) notes.maps notes.bytes walk

  -- all of it was read
  pub record HasReadAll (h : List Entry) (g : GcoreState) : Type 0 where
    pub opened : Opened
    pub next : GcoreStage
    pub notes : Notes
    pub is : g ≡ gcore_at pid opened next notes
    pub ends : IsEnding next
    pub taken : HasTaken h
    pub bytes : IsGood h taken → notes.bytes ≡ records_of h taken ++ memory_of taken.view.process.space

  abbrev pub still-read : (h : List Entry) (e : Entry) (g : GcoreState) → HasReadAll h g → HasReadAll (h ++ e ∷ []) g
  still-read h e g all = record {
    opened = all.opened;
    next = all.next;
    notes = all.notes;
    is = all.is;
    ends = all.ends;
    taken = taken-still h e all.taken;
    bytes = λ good. all.bytes (record { fine = good.fine; descriptors = good.descriptors; space = good.space });
  }

  -- ---- the stages

  -- how many files are open
  unfoldable pub open_at : GcoreStage → ℕ
  open_at stage.OpenCtl = control_place
  open_at stage.OpenStatus = status_place
  open_at (stage.OpenPart which) = place_of_part which
  open_at stage.OpenMemory = memory_place
  open_at _ = most_open

  -- what is so at a stage
  unfoldable pub So : List Entry → TracedSystem → Notes → GcoreStage → Type 0
  So h s notes stage.OpenCtl = notes ≡ first_notes pid
  So h s notes stage.OpenStatus = notes ≡ first_notes pid
  So h s notes (stage.OpenPart which) = notes ≡ first_notes pid
  So h s notes stage.OpenMemory = notes ≡ first_notes pid
  So h s notes stage.ReadFirst = notes ≡ first_notes pid
  So h s notes stage.Stop = notes.bytes ≡ head_of pid
  So h s notes stage.AwaitStop =
      (notes.bytes ≡ head_of pid) × ((was : TracedProcess) × HaltsWith pid was s) × (notes.until ≡ 0)
  So h s notes stage.ReadStatus =
      (notes.bytes ≡ head_of pid) × ((was : TracedProcess) × HaltsWith pid was s) × HasStopped k pid first h
      × StandsStill pid s
  So h s notes (stage.ReadPart which) = Reads h s notes which
  So h s notes stage.ReadMemory = Walks h s notes
  So h s notes _ = ⊥

  pub record IsGoing (h : List Entry) (s : TracedState) (g : GcoreState) : Type 0 where
    pub opened : Opened
    pub next : GcoreStage
    pub notes : Notes
    pub is : g ≡ gcore_at pid opened next notes
    pub holds : HasFirst k pid (open_at next) s.opens opened
    pub so : So h s.system notes next

  pub data Stage (h : List Entry) (s : TracedState) (g : GcoreState) : Type 0 where
    goes : IsGoing h s g → Stage h s g
    has_read : HasReadAll h g → Stage h s g
    refused : IsSome g.refusal → Stage h s g

  -- ---- what others do

  module _ (h : List Entry) (lawful : IsLawful (state_after first h)) (actor : Actor) (it : Act)
      (legal : IsLegalEntry n (state_after first h) (record { actor = actor; act = it }))
      (other : IsOther k actor it) where
    abbrev s : TracedState
    s = state_after first h

    abbrev entry : Entry
    entry = record { actor = actor; act = it }

    abbrev next_state : TracedState
    next_state = after s entry

    abbrev longer : List Entry
    longer = h ++ entry ∷ []

    next-is : next_state ≡ state_after first longer
    next-is = sym (state_after-push first h entry)

    still-stands : (number : ℕ) (held : Held) → held.controller ≡ k → Stands s.opens number held
        → Stands next_state.opens number held
    still-stands number held own stands =
        others-keep number held n s actor it legal (subst (λ (j : ℕ). IsOther j actor it) (sym own) other) stands

    -- gcore has the process open exclusively
    module _ (number : ℕ) (stands : Stands s.opens number (control_of k pid)) where
      sole : HasNoOtherWriter k pid s.opens
      sole = exclusive-sole s k number (control_of k pid) lawful stands refl

      made : pid < s.system.made
      made = pid-made s number (control_of k pid) lawful stands

      others-kept : (was : TracedProcess) → HaltsWith pid was s.system → HaltsWith pid was next_state.system
      others-kept was halts = others-halt n s k pid lawful sole made actor it was legal other halts

      still-stand : (was : TracedProcess) → HaltsWith pid was s.system → StandsStill pid s.system
          → StandsStill pid next_state.system
      still-stand was halts stands_still =
          others-stand n s k pid lawful sole made actor it legal other (λ p live. (halts.each p live).0) stands_still

      -- a process that stands still has no turn of its own
      sent-apart : (p : TracedProcess) → live_process s.system pid ≡ Some p → IsFrozen p → SendsNoStop pid s entry
          → (q : TracedProcess) → live_process next_state.system pid ≡ Some q
          → (q.job_stop ≡ p.job_stop) × (pending_of_lwps q ≡ pending_of_lwps p)
      sent-apart p there frozen sends q live =
          sent-none n s k pid lawful sole p there actor it legal other
          (frozen-apart n s k pid lawful sole actor it legal other p there frozen) sends q live

      others-read : (notes : Notes) (which : GcorePart) → Reads h s.system notes which
          → Reads longer next_state.system notes which
      others-read notes which reads = record {
        view = view;
        halts = others-kept reads.view.process reads.halts;
        each = λ q live fine. from q live fine (lived n s k pid lawful sole made actor it legal other q live);
      }
        where
          view : Seen longer
          view = seen-still h entry reads.view

          from : (q : TracedProcess) → live_process next_state.system pid ≡ Some q → IsFine longer view
              → Lived n s k pid lawful sole made actor it legal other q → HasRead longer view q notes which
          from q live fine was =
              let p : TracedProcess = was.process in
              let before = reads.each p was.live (fine-front h entry reads.view fine) in
              let frozen = frozen-same reads.view.process p before.kept.same (reads.view.frozen fine.quiet) in
              let alone = frozen-alone n s k pid lawful sole made actor it legal other p q was.live frozen live in
              let there : live_process (state_after first (view.before ++ between longer view)).system pid ≡ Some q =
              ap (λ (g : List Entry). live_process (state_after first g).system pid) (sym view.place)
              ∙ ap (λ (x : TracedState). live_process x.system pid) (sym next-is) ∙ live in
              let at_entry : SendsNoStop pid s entry =
              subst (λ (es : List Entry). SendsNoStop pid (state_after first es) entry) (sym reads.view.place)
              (fine.spared.unsent (between h reads.view) entry [] refl) in
              let sent = sent-apart p was.live frozen at_entry q live in
              let spared : IsSpared reads.view.process q = record {
                parent = fine.spared.parent (between longer view) [] q (sym (append-nil (between longer view))) there;
                job_stop = sent.0 ∙ ap (λ (x : TracedProcess). x.job_stop) before.kept.same;
                pending = sent.1 ∙ ap pending_of_lwps before.kept.same;
              } in
              let same =
              same-next reads.view.process p q before.kept.same alone spared (reads.view.own fine.status) in
              record {
                kept = kept-more h entry reads.view next_state next-is p q before.kept live same;
                bytes = before.bytes;
                maps = before.maps;
              }

      others-walk : (notes : Notes) → Walks h s.system notes → Walks longer next_state.system notes
      others-walk notes walks = record {
        taken = taken-still h entry walks.taken;
        halts = others-kept walks.taken.view.process walks.halts;
        walk = walks.walk;
        is = walks.is;
        here = λ good.
            walks.here (record { fine = good.fine; descriptors = good.descriptors; space = good.space });
      }

    others-hold : (many : ℕ) (opened : Opened) → HasFirst k pid many s.opens opened
        → HasFirst k pid many next_state.opens opened
    others-hold many opened holds = keeps-first k pid many s.opens next_state.opens opened still-stands holds

    others-so : (opened : Opened) (notes : Notes) (next : GcoreStage) → HasFirst k pid (open_at next) s.opens opened
        → So h s.system notes next → So longer next_state.system notes next
    unfolding So open_at
    others-so opened notes stage.OpenCtl holds so = so
    others-so opened notes stage.OpenStatus holds so = so
    others-so opened notes (stage.OpenPart which) holds so = so
    others-so opened notes stage.OpenMemory holds so = so
    others-so opened notes stage.ReadFirst holds so = so
    others-so opened notes stage.Stop holds so = so
    others-so opened notes stage.AwaitStop holds so =
        let control = holds.each control_place (control_of k pid) (omega arith) refl in
        (so.0, (so.1.0, others-kept control.number control.stands so.1.0 so.1.1), so.2)
    others-so opened notes stage.ReadStatus holds so =
        let control = holds.each control_place (control_of k pid) (omega arith) refl in (
          so.0,
          (so.1.0, others-kept control.number control.stands so.1.0 so.1.1),
          stopped-still n k pid first h entry so.2,
          still-stand control.number control.stands so.1.0 so.1.1 so.3,
        )
    others-so opened notes (stage.ReadPart which) holds so =
        let control = holds.each control_place (control_of k pid) (omega arith) refl in
        others-read control.number control.stands notes which so
    others-so opened notes stage.ReadMemory holds so =
        let control = holds.each control_place (control_of k pid) (omega arith) refl in
        others-walk control.number control.stands notes so
    others-so opened notes _ holds so = absurd so

    pub others-stage : (g : GcoreState) → Stage h s g → Stage longer next_state g
    others-stage g (goes it) = goes (record {
      opened = it.opened;
      next = it.next;
      notes = it.notes;
      is = it.is;
      holds = others-hold (open_at it.next) it.opened it.holds;
      so = others-so it.opened it.notes it.next it.holds it.so;
    })
    others-stage g (has_read all) = has_read (still-read h entry g all)
    others-stage g (refused was) = refused was
