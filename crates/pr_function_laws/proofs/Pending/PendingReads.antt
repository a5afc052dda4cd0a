use Rattle.std.proofs.Common.{◌≡◌, ◌<◌, ◌++◌, ℕ, true, cond, Option, Some, None, List, ◌∷◌, length, refl, sym, subst, ap, ◌∙◌}
use Rattle.std.proofs.lemmas.Bool.{eq-eqb, false≢true}
use Rattle.std.proofs.lemmas.Option.{none-some, same_Some}
use Rattle.std.specs.List.{All}
use Rattle.std.specs.Option.{option_and_then, option_map}
use Rattle.pr_lawful.proofs.LawfulTurns.EndLemmas.{found-live}
use Rattle.pr_lawful.proofs.Following.UseLemmas.{live-lawful}
use Rattle.pr_line.specs.declared.events.Event.{Event}
use Rattle.pr_line.specs.declared.options.Options.{Options}
use Rattle.pr_model.specs.Calls.{answer_to}
use Rattle.pr_model.specs.Handles.{handle_of}
use Rattle.pr_model.specs.Legal.{IsLegal, IsLegalEntry, state_after}
use Rattle.pr_model.specs.Replies.{bytes_in}
use Rattle.pr_model.specs.State.{TracedProcess, TracedState, live_process}
use Rattle.pr_model.specs.Statuses.{lwpstatus_of}
use Rattle.pr_model.specs.declared.calls.Call.{Call}
use Rattle.pr_model.specs.declared.calls.Call.TheVariants as call
use Rattle.pr_model.specs.declared.calls.File.{File}
use Rattle.pr_model.specs.declared.calls.File.TheVariants as file
use Rattle.pr_model.specs.declared.calls.Mode.TheVariants.{Read}
use Rattle.pr_model.specs.declared.calls.Reply.{Reply}
use Rattle.pr_model.specs.declared.calls.Reply.TheVariants as reply
use Rattle.pr_model.specs.declared.events.Entry.{Entry}
use Rattle.pr_model.specs.declared.handles.Held.{Held}
use Rattle.pr_reached.proofs.RecordsInRange.EntryRanges.{records-range}
use Rattle.pr_reached.proofs.Together.ReachedLemmas.{later-reached}
use Rattle.pr_reached.specs.ByteHistories.{HasBytes}
use Rattle.pr_rec.specs.declared.lwps.LwpStatus.{LwpStatus}
use Rattle.pr_report_laws.proofs.Machine.RecordLaws.{status-read}
use Rattle.pr_report_laws.proofs.Machine.StoppedLaws.{frozen-first}
use Rattle.pr_report_laws.specs.Positions.{HasEvent}
use Rattle.pr_report_laws.specs.Reads.{ReadsStatusOf}
use Rattle.pr_report_laws.specs.Shown.{LwpEvent}
use Rattle.pr_truss.specs.FunctionCalls.{call_beside, function_call_of, next_function_call_of, patch_call}
use Rattle.pr_truss.specs.Marks.{first_function, has_functions}
use Rattle.pr_truss.specs.NextCalls.{call_of, next_call_of, opening_call, read_record}
use Rattle.pr_truss.specs.Records.{status_lwp}
use Rattle.pr_truss.specs.Trusses.{TrussState}
use Rattle.pr_truss.specs.declared.asides.Aside.{Aside}
use Rattle.pr_truss.specs.declared.asides.Aside.TheVariants.{Nothing, Patching}
use Rattle.pr_truss.specs.declared.processes.Traced.{Traced}
use Rattle.pr_truss.specs.declared.stages.AfterClosing.TheVariants.{OpenNext, GoOn}
use Rattle.pr_truss.specs.declared.stages.OpeningStep.{OpeningStep}
use Rattle.pr_truss.specs.declared.stages.OpeningStep.TheVariants as opening
use Rattle.pr_truss.specs.declared.stages.Stage.{Stage}
use Rattle.pr_truss.specs.declared.stages.Stage.TheVariants.{Spawning, OpeningControl, Opening, Polling, ReadingStatus, ReadingText, Running, Closing, Finished}
use Rattle.pr_truss_laws.proofs.Files.HeldLemmas.{at_place}
use Rattle.pr_truss_laws.proofs.Files.OpensLemmas.{held_by}
use Rattle.pr_truss_laws.specs.Exchanges.{Exchange, exchange_of, exchanges}
use Rattle.pr_truss_laws.specs.Stills.{IsFrozen}
use Rattle.pr_function_laws.proofs.Stepping.BreakpointLemmas.{IsOwnEntry, own-entry}
use Rattle.pr_function_laws.proofs.Pending.FrontLemmas as fronts
use Rattle.pr_function_laws.proofs.Marks.KeptPlaces.{AtStage, Kept}
use Rattle.pr_function_laws.proofs.Pending.KnownFiles.{Before, Knows}
use Rattle.pr_function_laws.proofs.Pending.KnownLaws.{known-at}
use Rattle.pr_function_laws.proofs.OpenedProcesses.OpenedCalls.{lowest}
use Rattle.pr_function_laws.proofs.OpenedProcesses.OpenedLaws.{Goes, still-there}
use Rattle.pr_function_laws.proofs.OpenedProcesses.OpenedLemmas.{Holds, IsFile}
use Rattle.pr_function_laws.proofs.Pending.PendingPlaces.{IsSame, Pends}
use Rattle.pr_function_laws.proofs.Pending.PendingWalk.{Pending}
use Rattle.pr_function_laws.specs.OneEvent.{is_looked_at}
use Rattle.pr_function_laws.specs.ReachedRuns.{IsReachedFunctionRun}
use Rattle.pr_function_laws.specs.Opened.{WasNotInterrupted, functions_at}
use Rattle.pr_function_laws.specs.OrdinaryRuns.{HasNoOldLeft}
use Rattle.pr_num.specs.Limits.{read_limit}
use Rattle.pr_model.specs.Replies.{number_of}
use Rattle.pr_function_laws.proofs.OpenedProcesses.OpenedLaws.{bytes-front}
use Rattle.pr_report_laws.proofs.Watching.HistoryParts.{legal-front}
use Rattle.pr_line.specs.Events.{event_of}
use Rattle.pr_num.specs.ById.{IsRising}
use Rattle.pr_model.specs.State.{TracedLwp}
use Rattle.pr_model.specs.Statuses.{status_of, status_of_found}
use Rattle.pr_model.specs.Stops.{representative}
use Rattle.pr_report_laws.specs.AtBirth.{is_met_if}
use Rattle.pr_report_laws.specs.Shown.{event_told}
use Rattle.pr_function_laws.proofs.Stepping.ToldLemmas.{told-stands}
use Rattle.pr_function_laws.proofs.CallTurns.TurnReads.{shown-lwp}
use Rattle.pr_function_laws.specs.OneEvent.{HasMetNothing}

-- The next read of a process of which truss has the files, and in which nothing was told since.

-- ---- the handle that a call reads

abbrev pub read_handle : Call → Option ℕ
read_handle (call.Read handle from len) = Some handle
read_handle c = None

abbrev pub read_handle_if : Option Call → Option ℕ
read_handle_if None = None
read_handle_if (Some c) = read_handle c

-- what truss reads by a handle of its own: the status of a process, the statuses of its lwps, or its memory
pub data ReadAt (t : TrussState) (held : Held) : Type 0 where
  at_status : (place : ℕ) → place < length t.traced → t.stage ≡ ReadingStatus place
      → (at_place t.traced place).pid ≡ held.pid → held.file ≡ file.Status → ReadAt t held
  at_lwps : (place : ℕ) → place < length t.traced → t.stage ≡ Opening place opening.ReadLwps
      → (at_place t.traced place).pid ≡ held.pid → held.file ≡ file.Lstatus → ReadAt t held
  at_memory : held.file ≡ file.Mem → ReadAt t held

module _ (n k : ℕ) (o : Options) (s : TracedState) (t : TrussState) (g : Goes ⊥ k o t s) (known : Kept Knows t)
    (has : has_functions t.options ≡ true) (m : ℕ) (held : Held) (mine : handle_of s.opens k m ≡ Some held) where
  low : (q : ℕ) → q < length t.traced
      → (let v : Traced = at_place t.traced q in
      Holds k t.options s (Some opening.OpenStatus) v.pid v.control v.status v.lstatus v.memory)
  low q within =
      let w = g.kept in
      let l = lowest ⊥ k t.options s t.traced t.stage w.stage q within in
      l.holds

  -- the file of the handle
  is-held : (q : ℕ) (f : File) (i : ℕ) → IsFile k (at_place t.traced q).pid f i s → i ≡ m
      → held_by k (at_place t.traced q).pid 0 f Read ≡ held
  is-held q f i its one =
      same_Some (held_by k (at_place t.traced q).pid 0 f Read) held
      (sym its ∙ ap (handle_of s.opens k) one ∙ mine)

  opening-reads : (q : ℕ) (step : OpeningStep) → t.stage ≡ Opening q step → q < length t.traced
      → Before step (at_place t.traced q)
      → read_handle_if (function_call_of t (Opening q step)) ≡ Some m → ReadAt t held
  unfolding function_call_of call_of opening_call
  opening-reads q opening.ReadLwps at within knows is =
      let l = knows.lstatus in
      let h = low q within in
      let same =
      is-held q file.Lstatus l.number (h.its_lstatus l.number l.is) (ap number_of (sym l.is) ∙ same_Some _ m is) in
      at_lwps q within at (ap (λ (x : Held). x.pid) same) (ap (λ (x : Held). x.file) (sym same))
  opening-reads q opening.OpenStatus at within knows is = absurd (none-some m is)
  opening-reads q opening.OpenLstatus at within knows is = absurd (none-some m is)
  opening-reads q opening.OpenMemory at within knows is = absurd (none-some m is)
  opening-reads q opening.ClearModes at within knows is = absurd (none-some m is)
  opening-reads q opening.SetRelease at within knows is = absurd (none-some m is)
  opening-reads q opening.Stop at within knows is = absurd (none-some m is)
  opening-reads q (opening.AwaitStop until) at within knows is = absurd (none-some m is)
  opening-reads q opening.TraceSignals at within knows is = absurd (none-some m is)
  opening-reads q opening.TraceFaults at within knows is = absurd (none-some m is)
  opening-reads q opening.TraceEntries at within knows is = absurd (none-some m is)
  opening-reads q opening.TraceExits at within knows is = absurd (none-some m is)
  opening-reads q opening.Follow at within knows is = absurd (none-some m is)
  opening-reads q opening.Start at within knows is = absurd (none-some m is)

  stage-reads : (stage : Stage) → t.stage ≡ stage → AtStage Knows t.traced stage
      → read_handle_if (function_call_of t stage) ≡ Some m → ReadAt t held
  unfolding function_call_of call_of
  stage-reads (Opening q step) at w is = opening-reads q step at w.0 w.1.1 is
  stage-reads (ReadingStatus q) at w is =
      let knows = w.1.0 q w.0 in
      let l = knows.status in
      let h = low q w.0 in
      let same =
      is-held q file.Status l.number (h.its_status l.number l.is) (ap number_of (sym l.is) ∙ same_Some _ m is) in
      at_status q w.0 at (ap (λ (x : Held). x.pid) same) (ap (λ (x : Held). x.file) (sym same))
  stage-reads (ReadingText q lwp from len) at w is =
      let l = w.1.1.memory in
      let h = low q w.0 in
      let same =
      is-held q file.Mem l.number (h.its_memory l.number l.is) (ap number_of (sym l.is) ∙ same_Some _ m is) in
      at_memory (ap (λ (x : Held). x.file) (sym same))
  stage-reads (Spawning program) at w is = absurd (none-some m is)
  stage-reads (OpeningControl number) at w is = absurd (none-some m is)
  stage-reads Polling at w is = absurd (none-some m is)
  stage-reads (Running q) at w is = absurd (none-some m is)
  stage-reads (Closing q OpenNext) at w is = absurd (none-some m is)
  stage-reads (Closing q GoOn) at w is = absurd (none-some m is)
  stage-reads Finished at w is = absurd (none-some m is)
  stage-reads _ at w is = absurd w

  patch-reads : (control : ℕ) (plant lift : Option ℕ)
      → read_handle (patch_call t.options control plant lift) ≡ Some m → ReadAt t held
  patch-reads control (Some function) lift is = absurd (none-some m is)
  patch-reads control None (Some function) is = absurd (none-some m is)
  patch-reads control None None is = absurd (none-some m is)

  aside-reads : (aside : Aside) → AtStage Knows t.traced t.stage
      → read_handle_if (call_beside t t.stage aside) ≡ Some m → ReadAt t held
  unfolding call_beside
  aside-reads Nothing w is = stage-reads t.stage refl w is
  aside-reads (Patching q plants lifts clear) w is =
      patch-reads (at_place t.traced q).control (first_function plants) (first_function lifts) is
  aside-reads _ w is = absurd (none-some m is)

  pub reads-at : read_handle_if (next_function_call_of t) ≡ Some m → ReadAt t held
  unfolding next_function_call_of
  reads-at next =
      let w = known in
      aside-reads t.aside w.stage
      (ap read_handle_if
      (sym (ap (λ b. cond b (call_beside t t.stage t.aside) (next_call_of t)) has)) ∙ next)

-- it reads the status of the process at a place, which is this one
pub record Reads (t : TrussState) (pid : ℕ) : Type 0 where
  pub place : ℕ
  pub within : place < length t.traced
  pub at : t.stage ≡ ReadingStatus place
  pub its : (at_place t.traced place).pid ≡ pid

pub status-stage : (t : TrussState) (held : Held) → held.file ≡ file.Status → ReadAt t held → Reads t held.pid
status-stage t held is (at_status place within at its file_is) =
    record { place = place; within = within; at = at; its = its }
status-stage t held is (at_lwps place within at its file_is) =
    let both : file.Status ≡ file.Lstatus = sym is ∙ file_is in absurd (cc)
status-stage t held is (at_memory file_is) = let both : file.Status ≡ file.Mem = sym is ∙ file_is in absurd (cc)

same-exchange : (x : Exchange) (c : Call) (r : Reply) → x.call ≡ c → x.reply ≡ r → x ≡ record { call = c; reply = r }
same-exchange x c r calls replies =
    ap (λ (d : Call). let it : Exchange = record { call = d; reply = x.reply } in it) calls
    ∙ ap (λ (a : Reply). let it : Exchange = record { call = c; reply = a } in it) replies

-- what was answered, where it tells of an lwp
told-bytes : (r : Reply) (l : LwpStatus) → option_and_then status_lwp (bytes_in r) ≡ Some l
    → (bytes : List ℕ) × ((r ≡ reply.Bytes bytes) × (status_lwp bytes ≡ Some l))
unfolding bytes_in
told-bytes (reply.Bytes bytes) l is = (bytes, (refl, is))
told-bytes _ l is = absurd (none-some l is)

-- ---- the read of a process that was not read since

module _ (n k : ℕ) (o : Options) (s : TracedState) (h : List Entry) (run : IsReachedFunctionRun n k o s h)
    (last later : List Entry) (again : Entry)
    (at : h ≡ last ++ again ∷ later) (calm : All WasNotInterrupted (exchanges k last)) (was : Traced)
    (H : TracedProcess → Type 0) (pending : Pending k o s was H last) (x : Exchange)
    (own : exchange_of k again ≡ Some x) where
  abbrev u : TrussState
  u = functions_at k o last

  abbrev then : TracedState
  then = state_after s last

  pub there : Goes ⊥ k o u then
  there = fronts.here n k o s h run.of last again later at calm

  legal-there : IsLegalEntry n then again
  legal-there = fronts.legal n k o s h run.of last again later at calm

  pub files : Holds k o then None was.pid was.control was.status was.lstatus was.memory
  files = let is = pending.is in is.holds

  -- the status file that truss has of it
  pub status-number : ℕ
  status-number = let f = files in let l = f.known in l.number

  pub status-is : was.status ≡ Some status-number
  unfolding status-number
  status-is = let f = files in let l = f.known in l.is

  pub file-there : IsFile k was.pid file.Status status-number then
  file-there = let f = files in f.its_status status-number status-is

  its : IsOwnEntry k then again x
  its = own-entry n k then again x legal-there own

  module _ (reads : x.call ≡ read_record was.status) where
    reads-it : next_function_call_of u ≡ Some (read_record (Some status-number))
    reads-it =
        fronts.makes-next n k o s h run.of last again later at calm x own
        ∙ ap (λ (d : Call). let it : Option Call = Some d in it) (reads ∙ ap read_record status-is)

    pub stage : Reads u was.pid
    stage =
        status-stage u (held_by k was.pid 0 file.Status Read) refl
        (reads-at n k o then u there (known-at n k o s h run.of last (again ∷ later) at calm)
        (fronts.has n k o s h run.of last again later at calm) status-number (held_by k was.pid 0 file.Status Read)
        file-there (ap read_handle_if reads-it))

    -- no stop is left that stood before truss came
    pub none-old : HasNoOldLeft k o was.pid last
    none-old q within same =
        let r = stage in
        let w = pending.pends in
        let all : AtStage (Pends was.pid was) u.traced (ReadingStatus r.place) =
        subst (AtStage (Pends was.pid was) u.traced) r.at w.stage in
        let it : IsSame was.pid was (at_place u.traced q) = all.1.0 q within same in it.new

    -- where the process lives
    module _ (process : TracedProcess) (live : live_process then.system was.pid ≡ Some process) where
      frozen : IsFrozen process
      frozen =
          let r = stage in
          still-there n k o s h run last (again ∷ later) at calm r.place process
          (ap (live_process then.system) r.its ∙ live)
          (ap (λ (y : Stage). is_looked_at y r.place) r.at ∙ eq-eqb r.place r.place refl)

      pub rises : IsRising process.lwps
      rises = let g = there in let l = live-lawful then.system was.pid process g.lawful.system live in l.rising

      -- what it is told of: the representative
      pub sees : option_and_then status_lwp (bytes_in x.reply) ≡ Some (status_of_found process (representative process))
      unfolding status_of
      sees =
          let g = there in
          let reached_it = later-reached n s last run.reached
          (bytes-front last (again ∷ later) (subst HasBytes at run.bytes))
          (legal-front n s last (again ∷ later) (subst (IsLegal n s) at run.of.legal)) in
          let records = records-range then.system g.lawful.system reached_it.in_range in
          let ranged = (records.processes was.pid process (found-live then.system was.pid process live).0).status in
          let call = its in
          let told =
          status-read then k status-number (held_by k was.pid 0 file.Status Read) file-there call.answer process live
          refl ranged (ap (answer_to then k) (sym (reads ∙ ap read_record status-is)) ∙ call.is) in
          ap (λ (r : Reply). option_and_then status_lwp (bytes_in r)) (sym call.replied) ∙ told.lwp

      -- the read, as a read of the status file of the process
      pub file-read : (l : LwpStatus) → option_and_then status_lwp (bytes_in x.reply) ≡ Some l → (event : LwpEvent)
          → event_told l ≡ Some event → ReadsStatusOf k was.pid then again event
      file-read l answered event on =
          let b = told-bytes x.reply l answered in
          record {
            read = record {
              handle = status-number;
              from = 0;
              len = read_limit;
              bytes = b.0;
              held = held_by k was.pid 0 file.Status Read;
              is = own
                  ∙ ap (λ (y : Exchange). let it : Option Exchange = Some y in it)
                  (same-exchange x (read_record (Some status-number)) (reply.Bytes b.0)
                  (reads ∙ ap read_record status-is) b.1.0);
              there = file-there;
              of = refl;
              file = refl;
            };
            lwp = l;
            tells = b.1.1;
            on = on;
          }

      -- an lwp of it stands on an event: that is told
      module _ (event : LwpEvent) (stands : HasEvent process event.id event.event) where
        abbrev told : LwpStatus
        told = lwpstatus_of process event.id stands.lwp

        pub answered : option_and_then status_lwp (bytes_in x.reply) ≡ Some told
        answered =
            let f = files in
            let none = (f.set process live).1 in
            sees
            ∙ ap (λ (e : Option (ℕ × TracedLwp)). let l : Option LwpStatus = Some (status_of_found process e) in l)
            (frozen-first process rises none event.id event.event stands frozen)

        pub tells : ReadsStatusOf k was.pid then again event
        unfolding lwpstatus_of
        tells =
            file-read told answered event
            (ap (option_map (λ (ev : Event). let it : LwpEvent = record { id = event.id; event = ev } in it))
            stands.tells)

      -- no lwp of it has met an event: none is told
      pub tells-none : HasMetNothing process → (l : LwpStatus) (e : Event)
          → option_and_then status_lwp (bytes_in x.reply) ≡ Some l → event_of l ≡ Some e → ⊥
      tells-none none l e answered on =
          let shown =
          shown-lwp process l e rises
          (same_Some (status_of_found process (representative process)) l (sym sees ∙ answered)) on in
          let stands = told-stands process l.id shown.lwp e (ap event_of (sym shown.is) ∙ on) in
          false≢true (sym (none l.id shown.lwp shown.there) ∙ ap is_met_if stands.is ∙ stands.met)
