use Rattle.std.proofs.Common.{◌≡◌, ◌≢◌, ◌⊎◌, ◌∷◌, ◌++◌, ◌<◌, ◌+◌, ◌≤◌, ◌==◌, ◌||◌, ℕ, Bool, true, false, List, [], All, Option, Some, None, IsSome, length, nat_lt, take, refl, sym, subst, ap, ◌∙◌, inl, inr, arith}
use Rattle.std.proofs.lemmas.Option.{same_Some}
use Rattle.std.specs.List.{slice_get}
use Rattle.pr_api.proofs.ShapeLemmas.{machine-shaped}
use Rattle.pr_api.specs.Entries.{call_entry}
use Rattle.pr_core.specs.CoreBytes.{section}
use Rattle.pr_core.specs.GcoreStages.{control_place, file_of_part, kind_of_part, memory_place, part_after, place_of_part, status_place}
use Rattle.pr_core.specs.Gcores.{GcoreState, accepted, fed, filled, lends, mapping_record, next_call_of, passes_over, piece_of, walk_at, walk_on, with_mapping, with_part, with_walk}
use Rattle.pr_core.specs.declared.gcore_stages.GcorePart.{GcorePart}
use Rattle.pr_core.specs.declared.gcore_stages.GcorePart.TheVariants as part
use Rattle.pr_core.specs.declared.gcore_stages.GcoreStage.{GcoreStage}
use Rattle.pr_core.specs.declared.gcore_stages.GcoreStage.TheVariants as stage
use Rattle.pr_core.specs.declared.memory_walks.MemoryWalk.{MemoryWalk}
use Rattle.pr_lawful.proofs.Following.UseLemmas.{live-lawful}
use Rattle.pr_model.specs.Calls.{Answer, answer_to}
use Rattle.pr_model.specs.Handles.{handle_of, is_control}
use Rattle.pr_model.specs.Lawful.{IsLawful}
use Rattle.pr_model.specs.Legal.{state_after}
use Rattle.pr_model.specs.Reads.{file_read, mapped_from, unless_none}
use Rattle.pr_model.specs.Records.{map_of}
use Rattle.pr_model.specs.Replies.{bytes_in, until_in}
use Rattle.pr_model.specs.State.{Places, TracedProcess, TracedState, TracedSystem, live_process}
use Rattle.pr_model.specs.declared.calls.Call.{Call}
use Rattle.pr_model.specs.declared.calls.Call.TheVariants as call
use Rattle.pr_model.specs.declared.calls.File.{File}
use Rattle.pr_model.specs.declared.calls.File.TheVariants as file
use Rattle.pr_model.specs.declared.calls.Reply.{Reply}
use Rattle.pr_model.specs.declared.calls.Reply.TheVariants as reply
use Rattle.pr_model.specs.declared.events.Entry.{Entry}
use Rattle.pr_model.specs.declared.handles.Held.{Held}
use Rattle.pr_num.specs.Limits.{read_limit}
use Rattle.pr_num.specs.Records.{status_ranges}
use Rattle.pr_num.specs.Spaces.{Space}
use Rattle.pr_num.specs.declared.errnos.Errno.{Errno}
use Rattle.pr_num.specs.declared.errnos.Errno.TheVariants.{Inval, Io, Noent}
use Rattle.pr_rec.specs.InRange.{IsMapEntry}
use Rattle.pr_rec.specs.Reading.{record_read}
use Rattle.pr_rec.specs.RecordBytes.{lstatus_bytes, map_bytes, psinfo_bytes, sigact_bytes}
use Rattle.pr_tools.specs.Calls.{stop_bytes}
use Rattle.pr_tools.specs.Handles.{most_open, with_handle, without_last}
use Rattle.pr_tools.specs.Replies.{bytes_read}
use Rattle.pr_tools.specs.Stacks.{process_stands}
use Rattle.pr_tools.specs.declared.handles.Opened.{Opened}
use Rattle.pr_tool_laws.proofs.Pstack.StackHalts.{HaltsWith}
use Rattle.pr_tool_laws.proofs.Pstack.StackReads.{control_of, halts-here, own-seen, read-answer, stop-halts}
use Rattle.pr_tool_laws.proofs.Pstack.StackSteps.{wait-used}
use Rattle.pr_tool_laws.proofs.Stages.StageLemmas.{state-called}
use Rattle.pr_tool_laws.proofs.OwnFiles.StandingLemmas.{Stands}
use Rattle.pr_tool_laws.specs.OneState.{AreMappingsRead}
use Rattle.pr_tool_laws.specs.Reads.{ReadsFile}
use Rattle.pr_tool_laws.specs.Stacks.{HasStopped}
use Rattle.pr_truss_laws.proofs.Files.OpensLemmas.{Opens, Refuses, looking-stays, only_looks, open-opens, plain-leaves}
use Rattle.pr_core_laws.proofs.OneState.GcoreStages.{HasRead, HasReadAll, HasTaken, IsFine, IsGood, NotesMaps, Reads, Seen, So, Stage, Walks, fine-front, found, goes, has_read, kept-more, open_at, records_of, refused, section_of, seen-still, still-read, taken-still, up_to, with_map}
use Rattle.pr_core_laws.proofs.OneState.GcoreSteps as steps
use Rattle.pr_core_laws.proofs.OneState.GcoreSteps.{Ends, IsEnding, IsOpening, Notes, a-mapping, a-piece, gcore_at, head_of, heading_of, no-mapping, unless-refused, with_section}
use Rattle.pr_core_laws.proofs.OpenFiles.HandleLemmas.{HasFirst, HasOpen, file_of, files_of, keeps-first, one-more}
use Rattle.pr_core_laws.proofs.OneState.MemoryLemmas.{IsInMemory, entries_of, memory_of, none-written, piece-last, piece-on, written-all, written-next}
use Rattle.pr_core_laws.proofs.OneState.ReadLemmas.{all-taken, bytes_of_part, fds-few, fds-gone, lends-not, lstatus-few, memory-gone, memory-misfit, memory-there, part-there, psinfo-few, sigact-few, status-gone, status-there}
use Rattle.pr_core_laws.proofs.StandingProcesses.SameLemmas.{dispositions-same, lstatus-same, map-same, psinfo-same, stood-more, stood-none}
use Rattle.pr_core_laws.proofs.StandingProcesses.StandLemmas.{StandsStill}
use Rattle.pr_core_laws.proofs.StandingProcesses.StoppedLemmas.{stopped-frozen}
use Rattle.pr_core_laws.proofs.StandingProcesses.WaitLemmas.{wait-stopped}
use Rattle.pr_core_laws.specs.Spared.{signalled_as}

-- What a call of gcore makes of its stage.

-- what is read of memory, unless that is refused
some-read : (bytes : List ℕ) (r : Reply) → r ≡ unless_none bytes → ((e : Errno) → r ≢ reply.Fail e)
    → bytes_read r ≡ bytes
unfolding bytes_in
some-read [] r is granted = absurd (granted Io is)
some-read (b ∷ bytes) r is granted = ap bytes_read is

bytes-of : (bytes : List ℕ) (r : Reply) → r ≡ reply.Bytes bytes → bytes_read r ≡ bytes
unfolding bytes_in
bytes-of bytes r is = ap bytes_read is

module _ (n k pid : ℕ) (first : TracedState) (h : List Entry) (c : Call) (a : Answer)
    (lawful : IsLawful (state_after first h)) (given : answer_to (state_after first h) k c ≡ Some a) where
  abbrev s : TracedState
  s = state_after first h

  abbrev it : Entry
  it = call_entry k c a.reply

  abbrev longer : List Entry
  longer = h ++ it ∷ []

  -- the stage after the call
  abbrev Next : GcoreState → Type 0
  Next g = Stage n k pid first longer a.state g

  state-is : a.state ≡ state_after first longer
  state-is = sym (state-called first h k c a given)

  -- the call is the one that gcore makes
  its-call : (g : GcoreState) (d : Call) → next_call_of g ≡ Some d → next_call_of g ≡ Some c → c ≡ d
  its-call g d its next = same_Some c d (sym next ∙ its)

  its-answer : (g : GcoreState) (d : Call) → next_call_of g ≡ Some d → next_call_of g ≡ Some c
      → answer_to s k d ≡ Some a
  its-answer g d its next = ap (answer_to s k) (sym (its-call g d its next)) ∙ given

  module _ (o : Opened) (notes : Notes) where
    abbrev at : GcoreStage → GcoreState
    at now = gcore_at pid o now notes

    -- ---- its opens

    open-stage : (place : ℕ) (held : Held) (now after : GcoreStage) → IsOpening k pid place held now after
        → slice_get (files_of k pid) place ≡ Some held → place < most_open → HasFirst k pid place s.opens o
        → open_at n k pid first after ≡ place + 1 → So n k pid first longer a.state.system notes after
        → next_call_of (at now) ≡ Some c → Next (fed (at now) a.reply)
    open-stage place held now after opens there below holds count so next =
        of (open-opens s k pid 0 held.file held.mode a
        (its-answer (at now) (call.Open pid 0 held.file held.mode) (opens.calls o notes) next))
      where
        mine : Held
        mine = record { controller = k; pid = pid; lwp = 0; file = held.file; mode = held.mode }

        of : Refuses s a.reply a.state.opens ⊎ Opens s k mine a.reply a.state.opens → Next (fed (at now) a.reply)
        of (inl denied) =
            refused (subst (λ (r : Reply). IsSome (fed (at now) r).refusal) (sym denied.reply)
            (steps.refused-now (at now) denied.errno opens.counts))
        of (inr granted) = goes (record {
          opened = with_handle o place (Some granted.place);
          next = after;
          notes = notes;
          is = ap (fed (at now)) granted.reply ∙ opens.takes o notes granted.place;
          holds =
              subst (λ (many : ℕ). HasFirst k pid many a.state.opens (with_handle o place (Some granted.place)))
              (sym count)
              (one-more s k pid place mine a.reply a.state.opens granted o (there ∙ ap (λ (x : Held). Some x) opens.is)
              below holds);
          so = so;
        })

    -- ---- its other calls, with all files open

    module _ (holds : HasFirst k pid most_open s.opens o) where
      -- a call that only looks
      looks-still : (d : Call) → only_looks d ≡ true → answer_to s k d ≡ Some a
          → (a.state.opens ≡ s.opens) × (a.state.system ≡ s.system)
      looks-still d looks its =
          let stays = looking-stays s k d a looks its in
          (ap (λ (x : TracedState). x.opens) stays, ap (λ (x : TracedState). x.system) stays)

      -- a call that leaves the handles
      going : (g : GcoreState) (now : GcoreStage) (later : Notes) → open_at n k pid first now ≡ most_open
          → a.state.opens ≡ s.opens → g ≡ gcore_at pid o now later → So n k pid first longer a.state.system later now
          → Next g
      going g now later count same is so = goes (record {
        opened = o;
        next = now;
        notes = later;
        is = is;
        holds =
            subst (λ (many : ℕ). HasFirst k pid many a.state.opens o) (sym count)
            (keeps-first k pid most_open s.opens a.state.opens o
            (λ number held own stands. ap (λ (x : Places). handle_of x held.controller number) same ∙ stands) holds);
        so = so;
      })

      -- where the system stays, so does what was said of it
      halts-still : (was : TracedProcess) → a.state.system ≡ s.system → HaltsWith pid was s.system
          → HaltsWith pid was a.state.system
      halts-still was same halts = subst (HaltsWith pid was) (sym same) halts

      control : HasOpen s.opens o control_place (control_of k pid)
      control = holds.each control_place (control_of k pid) (omega arith) refl

      status : HasOpen s.opens o status_place (file_of k pid file.Status)
      status = holds.each status_place (file_of k pid file.Status) (omega arith) refl

      memory : HasOpen s.opens o memory_place (file_of k pid file.Mem)
      memory = holds.each memory_place (file_of k pid file.Mem) (omega arith) refl

      part-open : (which : GcorePart) → HasOpen s.opens o (place_of_part which) (file_of k pid (file_of_part which))
      unfolding place_of_part kind_of_part file_of_part
      part-open part.Psinfo = holds.each 2 (file_of k pid file.Psinfo) (omega arith) refl
      part-open part.Lstatus = holds.each 3 (file_of k pid file.Lstatus) (omega arith) refl
      part-open part.Sigact = holds.each 4 (file_of k pid file.Sigact) (omega arith) refl
      part-open part.Map = holds.each 5 (file_of k pid file.Map) (omega arith) refl
      part-open part.Fds = holds.each 6 (file_of k pid file.Fds) (omega arith) refl

      look-stage : notes ≡ steps.first_notes pid → next_call_of (at stage.ReadFirst) ≡ Some c
          → Next (fed (at stage.ReadFirst) a.reply)
      unfolding So open_at passes_over
      look-stage none next = of (unless-refused (at stage.ReadFirst) a.reply refl)
        where
          lstatus : HasOpen s.opens o (place_of_part part.Lstatus) (file_of k pid (file_of_part part.Lstatus))
          lstatus = part-open part.Lstatus

          still : (a.state.opens ≡ s.opens) × (a.state.system ≡ s.system)
          still =
              looks-still (call.Read lstatus.number 0 read_limit) refl
              (its-answer (at stage.ReadFirst) (call.Read lstatus.number 0 read_limit)
              (steps.look-call pid o notes lstatus.number lstatus.at) next)

          of : IsSome (fed (at stage.ReadFirst) a.reply).refusal ⊎
              (((e : Errno) → a.reply ≢ reply.Fail e) ×
              (fed (at stage.ReadFirst) a.reply ≡ accepted (at stage.ReadFirst) a.reply stage.ReadFirst))
              → Next (fed (at stage.ReadFirst) a.reply)
          of (inl was) = refused was
          of (inr goes_on) =
              going (fed (at stage.ReadFirst) a.reply) stage.Stop
              (record notes { stood = process_stands (bytes_read a.reply) }) refl still.0
              (goes_on.1 ∙ steps.looked pid o notes a.reply) (ap (λ (x : Notes). x.bytes) none)

      stop-stage : notes.bytes ≡ head_of pid → next_call_of (at stage.Stop) ≡ Some c
          → Next (fed (at stage.Stop) a.reply)
      unfolding So open_at passes_over
      stop-stage head next = of (unless-refused (at stage.Stop) a.reply refl)
        where
          its : answer_to s k (call.Ctl control.number stop_bytes) ≡ Some a
          its =
              its-answer (at stage.Stop) (call.Ctl control.number stop_bytes)
              (steps.stop-call pid o notes control.number control.at) next

          of : IsSome (fed (at stage.Stop) a.reply).refusal ⊎
              (((e : Errno) → a.reply ≢ reply.Fail e) ×
              (fed (at stage.Stop) a.reply ≡ accepted (at stage.Stop) a.reply stage.Stop))
              → Next (fed (at stage.Stop) a.reply)
          of (inl was) = refused was
          of (inr goes_on) =
              let stops = stop-halts s k control.number pid a control.stands its goes_on.0 in
              going (fed (at stage.Stop) a.reply) stage.AwaitStop (record notes { until = until_in a.reply }) refl
              (plain-leaves s k (call.Ctl control.number stop_bytes) a refl its)
              (goes_on.1 ∙ steps.asked pid o notes a.reply) (head, stops.0, stops.1)

      -- the wait is over
      stopped-here : c ≡ call.CtlWait control.number 0 stop_bytes → ((e : Errno) → a.reply ≢ reply.Fail e)
          → HasStopped k pid first longer
      stopped-here same granted =
          let its : answer_to s k (call.CtlWait control.number 0 stop_bytes) ≡ Some a =
          ap (answer_to s k) (sym same) ∙ given in
          let used =
          wait-used control.number 0 stop_bytes a.reply granted
          (machine-shaped s k (call.CtlWait control.number 0 stop_bytes) a lawful.system its) in
          record {
            before = h;
            handle = control.number;
            used = used.0;
            after = [];
            held = control_of k pid;
            place =
                ap (λ (d : Call). h ++ call_entry k d a.reply ∷ []) same
                ∙ ap (λ (r : Reply). h ++ call_entry k (call.CtlWait control.number 0 stop_bytes) r ∷ []) used.1;
            there = control.stands;
            of = refl;
            file = refl;
          }

      wait-stage : notes.bytes ≡ head_of pid → (was : TracedProcess) → HaltsWith pid was s.system → notes.until ≡ 0
          → next_call_of (at stage.AwaitStop) ≡ Some c → Next (fed (at stage.AwaitStop) a.reply)
      unfolding So open_at passes_over
      wait-stage head was halts endless next = of (unless-refused (at stage.AwaitStop) a.reply refl)
        where
          call_is : next_call_of (at stage.AwaitStop) ≡ Some (call.CtlWait control.number 0 stop_bytes)
          call_is =
              steps.wait-call pid o notes control.number control.at
              ∙ ap (λ (until : ℕ). Some (call.CtlWait control.number until stop_bytes)) endless

          its : answer_to s k (call.CtlWait control.number 0 stop_bytes) ≡ Some a
          its = its-answer (at stage.AwaitStop) (call.CtlWait control.number 0 stop_bytes) call_is next

          still : (a.state.opens ≡ s.opens) × (a.state.system ≡ s.system)
          still = looks-still (call.CtlWait control.number 0 stop_bytes) refl its

          stands : ((e : Errno) → a.reply ≢ reply.Fail e) → StandsStill pid s.system
          stands granted = record {
            each = λ p live quiet.
                stopped-frozen p (live-lawful s.system pid p lawful.system live).rising quiet
                (wait-stopped s k control.number pid a control.stands its granted p live);
          }

          of : IsSome (fed (at stage.AwaitStop) a.reply).refusal ⊎
              (((e : Errno) → a.reply ≢ reply.Fail e) ×
              (fed (at stage.AwaitStop) a.reply ≡ accepted (at stage.AwaitStop) a.reply stage.AwaitStop))
              → Next (fed (at stage.AwaitStop) a.reply)
          of (inl refuses) = refused refuses
          of (inr goes_on) =
              going (fed (at stage.AwaitStop) a.reply) stage.ReadStatus notes refl still.0
              (goes_on.1 ∙ steps.waited pid o notes a.reply) (
                head,
                (was, halts-still was still.1 halts),
                stopped-here
                    (its-call (at stage.AwaitStop) (call.CtlWait control.number 0 stop_bytes) call_is next) goes_on.0,
                subst (StandsStill pid) (sym still.1) (stands goes_on.0),
              )

      -- ---- the status

      reads-file : (name : File) (number : ℕ) → Stands s.opens number (file_of k pid name)
          → c ≡ call.Read number 0 read_limit → ReadsFile k pid name s c
      reads-file name number stands is = record {
        handle = number;
        held = file_of k pid name;
        is_read = is;
        there = stands;
        of = refl;
        file = refl;
      }

      module _ (head : notes.bytes ≡ head_of pid) (was : TracedProcess) (halts : HaltsWith pid was s.system)
          (stopped : HasStopped k pid first h) (stands : StandsStill pid s.system)
          (next : next_call_of (at stage.ReadStatus) ≡ Some c) where
        abbrev looking : GcoreState
        looking = at stage.ReadStatus

        status-is : next_call_of looking ≡ Some (call.Read status.number 0 read_limit)
        status-is = steps.status-call pid o notes status.number status.at

        status-given : answer_to s k (call.Read status.number 0 read_limit) ≡ Some a
        status-given = its-answer looking (call.Read status.number 0 read_limit) status-is next

        status-still : (a.state.opens ≡ s.opens) × (a.state.system ≡ s.system)
        status-still = looks-still (call.Read status.number 0 read_limit) refl status-given

        status-replies : a.reply ≡ file_read s.system pid 0 0 read_limit file.Status
        status-replies =
            ap (λ (x : Answer). x.reply)
            (read-answer s status.number 0 read_limit (file_of k pid file.Status) a refl status.stands status-given)

        module _ (p : TracedProcess) (live : live_process s.system pid ≡ Some p)
            (none : lends (record_read status_ranges (bytes_read a.reply)) ≡ false) where
          abbrev first-view : Seen n k pid first longer
          first-view = record {
            before = h;
            look = c;
            seen = a.reply;
            later = [];
            place = refl;
            looks = reads-file file.Status status.number status.stands
                (its-call looking (call.Read status.number 0 read_limit) status-is next);
            stopped = stopped;
            process = p;
            live = live;
            own = λ good.
                lends-not s.system pid p good
                (ap (λ (bs : List ℕ). lends (record_read status_ranges bs))
                (sym (bytes-of _ a.reply (status-replies ∙ status-there s.system pid p live))) ∙ none);
            frozen = stands.each p live;
          }

          same-process : (q : TracedProcess) → live_process a.state.system pid ≡ Some q → p ≡ q
          same-process q there =
              same_Some p q (sym live ∙ ap (λ (x : TracedSystem). live_process x pid) (sym status-still.1) ∙ there)

          first-read : (q : TracedProcess) → live_process a.state.system pid ≡ Some q
              → IsFine n k pid first longer first-view → HasRead n k pid first longer first-view q notes part.Psinfo
          unfolding up_to NotesMaps
          first-read q there fine =
              let same : q ≡ signalled_as p q =
              subst (λ (x : TracedProcess). x ≡ signalled_as p x) (same-process q there) refl in
              record {
                kept = record {
                  same = same;
                  stood = stood-more pid p first h [] it q (stood-none pid p first h live)
                      (ap (λ (x : TracedState). live_process x.system pid) (sym state-is) ∙ there) same;
                };
                bytes = head;
                maps = tt;
              }

          first-reads : Reads n k pid first longer a.state.system notes part.Psinfo
          first-reads = record {
            view = first-view;
            halts = halts-still p status-still.1 (halts-here pid p s.system live (halts.each p live).0);
            each = first-read;
          }

        status-looked : (p : TracedProcess) → live_process s.system pid ≡ Some p
            → fed looking a.reply ≡ accepted looking a.reply stage.ReadStatus
            → IsSome (accepted looking a.reply stage.ReadStatus).refusal
            ⊎ ((lends (record_read status_ranges (bytes_read a.reply)) ≡ false)
            × (accepted looking a.reply stage.ReadStatus ≡ gcore_at pid o (stage.ReadPart part.Psinfo) notes))
            → Next (fed looking a.reply)
        unfolding So open_at
        status-looked p live is (inl busy) = refused (subst (λ (g : GcoreState). IsSome g.refusal) (sym is) busy)
        status-looked p live is (inr own) =
            going (fed looking a.reply) (stage.ReadPart part.Psinfo) notes refl status-still.0
            (is ∙ own.1) (first-reads p live own.0)

        status-of-live : (p : TracedProcess) → live_process s.system pid ≡ Some p
            → IsSome (fed looking a.reply).refusal ⊎
            (((e : Errno) → a.reply ≢ reply.Fail e) ×
            (fed looking a.reply ≡ accepted looking a.reply stage.ReadStatus)) → Next (fed looking a.reply)
        status-of-live p live (inl refuses) = refused refuses
        status-of-live p live (inr goes_on) = status-looked p live goes_on.1 (steps.looked-status pid o notes a.reply)

        status-by : (found : Option TracedProcess) → live_process s.system pid ≡ found → Next (fed looking a.reply)
        unfolding passes_over
        status-by None gone =
            refused (subst (λ (r : Reply). IsSome (fed looking r).refusal)
            (sym (status-replies ∙ status-gone s.system pid gone)) (steps.refused-now looking Noent refl))
        status-by (Some p) live = status-of-live p live (unless-refused looking a.reply refl)

        status-stage : Next (fed looking a.reply)
        status-stage = status-by (live_process s.system pid) refl

      -- ---- the parts

      module _ (which : GcorePart) (reads : Reads n k pid first h s.system notes which)
          (next : next_call_of (at (stage.ReadPart which)) ≡ Some c) where
        abbrev got : List ℕ
        got = take read_limit (bytes_read a.reply)

        abbrev view : Seen n k pid first h
        view = reads.view

        abbrev then : Seen n k pid first longer
        then = seen-still n k pid first h it view

        abbrev was : TracedSystem
        was = found n k pid first h view

        abbrev mine : HasOpen s.opens o (place_of_part which) (file_of k pid (file_of_part which))
        mine = part-open which

        part-is : next_call_of (at (stage.ReadPart which)) ≡ Some (call.Read mine.number 0 read_limit)
        part-is = steps.part-call pid o notes mine.number which mine.at

        part-given : answer_to s k (call.Read mine.number 0 read_limit) ≡ Some a
        part-given = its-answer (at (stage.ReadPart which)) (call.Read mine.number 0 read_limit) part-is next

        part-still : (a.state.opens ≡ s.opens) × (a.state.system ≡ s.system)
        part-still = looks-still (call.Read mine.number 0 read_limit) refl part-given

        plain-part : is_control (file_of_part which) ≡ false
        unfolding file_of_part
        plain-part = of which
          where
            of : (p : GcorePart) → is_control (file_of_part p) ≡ false
            of part.Psinfo = refl
            of part.Lstatus = refl
            of part.Sigact = refl
            of part.Map = refl
            of part.Fds = refl

        part-replies : a.reply ≡ file_read s.system pid 0 0 read_limit (file_of_part which)
        part-replies =
            ap (λ (x : Answer). x.reply)
            (read-answer s mine.number 0 read_limit (file_of k pid
            (file_of_part which)) a plain-part mine.stands part-given)

        -- of a live process it got the whole record
        got-is : (q : TracedProcess) → live_process s.system pid ≡ Some q
            → length (bytes_of_part which pid s.system q) ≤ read_limit → got ≡ bytes_of_part which pid s.system q
        got-is q live few =
            ap (take read_limit) (bytes-of _ a.reply (part-replies ∙ part-there s.system pid q live which))
            ∙ all-taken (bytes_of_part which pid s.system q) few

        there-now : (q : TracedProcess) → live_process a.state.system pid ≡ Some q → live_process s.system pid ≡ Some q
        there-now q live = ap (λ (x : TracedSystem). live_process x pid) (sym part-still.1) ∙ live

        -- the next part comes
        part-going : (after : GcorePart) (later : Notes) → later.bytes ≡ notes.bytes ++ section (kind_of_part which) got
            → (up_to n k pid first after was view.process
            ≡ up_to n k pid first which was view.process ++ section_of n k pid first which was view.process)
            → ((q : TracedProcess) → q ≡ signalled_as view.process q → view.process.borrower ≡ None
            → bytes_of_part which pid s.system q ≡ bytes_of_part which pid was view.process)
            → (IsFine n k pid first h view → length (bytes_of_part which pid was view.process) ≤ read_limit)
            → (got ≡ bytes_of_part which pid was view.process
            → NotesMaps n k pid first after was view.process later.maps)
            → with_part (at (stage.ReadPart which)) which got ≡ gcore_at pid o (stage.ReadPart after) later
            → Next (fed (at (stage.ReadPart which)) a.reply)
        unfolding So open_at passes_over accepted
        part-going after later adds grows same few noted takes = of (unless-refused (at
            (stage.ReadPart which)) a.reply refl)
          where
            each : (q : TracedProcess) → live_process a.state.system pid ≡ Some q → IsFine n k pid first longer then
                → HasRead n k pid first longer then q later after
            each q live fine =
                let here = there-now q live in
                let before = fine-front n k pid first h it view fine in
                let old = reads.each q here before in
                let own = view.own before.status in
                let alike = same q old.kept.same own in
                let all : got ≡ bytes_of_part which pid was view.process =
                got-is q here (subst (λ (bs : List ℕ). length bs ≤ read_limit) (sym alike) (few before)) ∙ alike in
                record {
                  kept = kept-more n k pid first h it view a.state state-is q q old.kept live old.kept.same;
                  bytes =
                      adds ∙ ap (λ (bs : List ℕ). bs ++ section (kind_of_part which) got) old.bytes
                      ∙ ap (λ (bs : List ℕ). up_to n k pid first which was view.process ++ section
                      (kind_of_part which) bs)
                      all ∙ sym grows;
                  maps = noted all;
                }

            of : IsSome (fed (at (stage.ReadPart which)) a.reply).refusal ⊎
                (((e : Errno) → a.reply ≢ reply.Fail e) ×
                (fed (at (stage.ReadPart which)) a.reply
                ≡ accepted (at (stage.ReadPart which)) a.reply (stage.ReadPart which)))
                → Next (fed (at (stage.ReadPart which)) a.reply)
            of (inl refuses) = refused refuses
            of (inr goes_on) =
                going (fed (at (stage.ReadPart which)) a.reply) (stage.ReadPart after) later refl part-still.0
                (goes_on.1 ∙ takes)
                (record { view = then; halts = halts-still view.process part-still.1 reads.halts; each = each })

      -- ---- the memory comes

      module _ (taken : HasTaken n k pid first longer) (halts : HaltsWith pid taken.view.process a.state.system)
          (same : a.state.opens ≡ s.opens) where
        abbrev all_of : List ℕ
        all_of = records_of n k pid first longer taken

        memory-done : (g : GcoreState) (now : GcoreStage) (later : Notes)
            → g ≡ with_mapping (gcore_at pid o now later) None
            → (IsGood n k pid first longer taken → later.bytes ≡ all_of ++ memory_of taken.view.process.space) → Next g
        memory-done g now later is all =
            let ends = no-mapping pid o now later in
            has_read (record {
              opened = o;
              next = ends.next;
              notes = record later { walk = None };
              is = is ∙ ends.is;
              ends = ends.ends;
              taken = taken;
              bytes = all;
            })

        memory-goes : (g : GcoreState) (later : Notes) (w : MemoryWalk)
            → g ≡ gcore_at pid o stage.ReadMemory later → later.walk ≡ Some w
            → (IsGood n k pid first longer taken
            → IsInMemory taken.view.process.program taken.view.process.space all_of later.maps later.bytes w) → Next g
        unfolding So open_at
        memory-goes g later w is walk here =
            going g stage.ReadMemory later refl same is
            (record { taken = taken; halts = halts; walk = w; is = walk; here = here })

      -- the entries of the mappings are in their ranges, and are those of its memory
      module _ (t : TracedSystem) (p : TracedProcess) (own : p.borrower ≡ None) where
        entries-are : map_of t p ≡ entries_of p.program p.space
        unfolding map_of
        entries-are = ap (entries_of p.program) (own-seen t p own)

        fields-of : AreMappingsRead t p → All IsMapEntry (entries_of p.program p.space)
        fields-of are = subst (All IsMapEntry) entries-are are.fields

      module _ (reads : Reads n k pid first h s.system notes part.Fds)
          (next : next_call_of (at (stage.ReadPart part.Fds)) ≡ Some c) where
        abbrev listing : GcoreState
        listing = at (stage.ReadPart part.Fds)

        abbrev listed : List ℕ
        listed = got part.Fds reads next

        abbrev with_fds : Notes
        with_fds = with_section notes part.Fds listed

        abbrev seen_p : TracedProcess
        seen_p = reads.view.process

        abbrev fds : HasOpen s.opens o (place_of_part part.Fds) (file_of k pid (file_of_part part.Fds))
        fds = part-open part.Fds

        fds-stands : Stands s.opens fds.number (file_of k pid file.Fds)
        unfolding file_of_part
        fds-stands = fds.stands

        module _ (q : TracedProcess) (live : live_process s.system pid ≡ Some q) where
          abbrev here-taken : HasTaken n k pid first longer
          here-taken = record {
            front = h;
            view = reads.view;
            call = c;
            reply = a.reply;
            after = [];
            place = refl;
            reads = reads-file file.Fds fds.number fds-stands
                (its-call listing (call.Read fds.number 0 read_limit) (part-is part.Fds reads next) next);
            process = q;
            live = live;
            kept = λ fine. (reads.each q live fine).kept;
          }

          records-are : IsGood n k pid first longer here-taken
              → with_fds.bytes ≡ records_of n k pid first longer here-taken
          unfolding up_to
          records-are good =
              ap (λ (bs : List ℕ). bs ++ section (kind_of_part part.Fds) listed) (reads.each q live good.fine).bytes
              ∙ ap (λ (bs : List ℕ). with_map n k pid first (found n k pid first h reads.view) seen_p
              ++ section (kind_of_part part.Fds) bs)
              (got-is part.Fds reads next q live (fds-few pid s.system q good.descriptors))

          maps-are : IsGood n k pid first longer here-taken → notes.maps
              ≡ map_bytes (entries_of seen_p.program seen_p.space)
          unfolding NotesMaps
          maps-are good =
              (reads.each q live good.fine).maps
              ∙ ap map_bytes (entries-are (found n k pid first h reads.view) seen_p (reads.view.own good.fine.status))

          fields : IsGood n k pid first longer here-taken → All IsMapEntry (entries_of seen_p.program seen_p.space)
          fields good =
              fields-of (found n k pid first h reads.view) seen_p (reads.view.own good.fine.status) good.fine.mappings

          still-halts : HaltsWith pid seen_p a.state.system
          still-halts = halts-still seen_p (part-still part.Fds reads next).1 reads.halts

          abbrev base : List ℕ
          base = records_of n k pid first longer here-taken

          on-first : (w : Option MemoryWalk) → walk_at notes.maps 0 ≡ w
              → fed listing a.reply ≡ with_mapping (gcore_at pid o (stage.ReadPart part.Fds) with_fds) w
              → Next (fed listing a.reply)
          on-first None at_first is =
              memory-done here-taken still-halts (part-still part.Fds reads next).0 (fed listing a.reply)
              (stage.ReadPart part.Fds) with_fds is
              (λ good.
              written-all seen_p.program seen_p.space base notes.maps with_fds.bytes (fields good) 0
              (none-written seen_p.program seen_p.space base notes.maps with_fds.bytes (fields good)
              (maps-are good) (records-are good)) at_first)
          on-first (Some w) at_first is =
              memory-goes here-taken still-halts (part-still part.Fds reads next).0 (fed listing a.reply)
              (record with_fds { walk = Some w; bytes = with_fds.bytes ++ heading_of w }) w
              (is ∙ a-mapping pid o (stage.ReadPart part.Fds) with_fds w) refl
              (λ good.
              written-next seen_p.program seen_p.space base notes.maps with_fds.bytes (fields good) 0
              (none-written seen_p.program seen_p.space base notes.maps with_fds.bytes (fields good)
              (maps-are good) (records-are good)) w at_first)

          fds-of-live : IsSome (fed listing a.reply).refusal ⊎
              (((e : Errno) → a.reply ≢ reply.Fail e) ×
              (fed listing a.reply ≡ accepted listing a.reply (stage.ReadPart part.Fds))) → Next (fed listing a.reply)
          unfolding accepted
          fds-of-live (inl refuses) = refused refuses
          fds-of-live (inr goes_on) =
              on-first (walk_at notes.maps 0) refl (goes_on.1 ∙ steps.fds-taken pid o notes listed)

        fds-by : (found : Option TracedProcess) → live_process s.system pid ≡ found → Next (fed listing a.reply)
        unfolding passes_over file_of_part
        fds-by None gone =
            refused (subst (λ (r : Reply). IsSome (fed listing r).refusal)
            (sym (part-replies part.Fds reads next ∙ fds-gone s.system pid gone))
            (steps.refused-now listing Noent refl))
        fds-by (Some q) live = fds-of-live q live (unless-refused listing a.reply refl)

        fds-stage : Next (fed listing a.reply)
        fds-stage = fds-by (live_process s.system pid) refl

      part-stage : (which : GcorePart) → Reads n k pid first h s.system notes which
          → next_call_of (at (stage.ReadPart which)) ≡ Some c → Next (fed (at (stage.ReadPart which)) a.reply)
      unfolding up_to NotesMaps kind_of_part
      part-stage part.Psinfo reads next =
          part-going part.Psinfo reads next part.Lstatus
          (with_section notes part.Psinfo (got part.Psinfo reads next)) refl refl
          (λ q same own. ap psinfo_bytes (psinfo-same s.system _ pid reads.view.process q same own))
          (λ fine. psinfo-few pid _ reads.view.process) (λ all. tt)
          (steps.psinfo-taken pid o notes (got part.Psinfo reads next))
      part-stage part.Lstatus reads next =
          part-going part.Lstatus reads next part.Sigact
          (with_section notes part.Lstatus (got part.Lstatus reads next)) refl refl
          (λ q same own. ap lstatus_bytes (lstatus-same s.system s.system pid reads.view.process q same))
          (λ fine. lstatus-few pid s.system reads.view.process fine.lwps) (λ all. tt)
          (steps.lstatus-taken pid o notes (got part.Lstatus reads next))
      part-stage part.Sigact reads next =
          part-going part.Sigact reads next part.Map
          (with_section notes part.Sigact (got part.Sigact reads next)) refl refl
          (λ q same own. ap sigact_bytes (dispositions-same s.system s.system pid reads.view.process q same))
          (λ fine. sigact-few pid s.system reads.view.process fine.dispositions) (λ all. tt)
          (steps.sigact-taken pid o notes (got part.Sigact reads next))
      part-stage part.Map reads next =
          part-going part.Map reads next part.Fds
          (record (with_section notes part.Map (got part.Map reads next)) { maps = got part.Map reads next }) refl refl
          (λ q same own. ap map_bytes (map-same s.system _ pid reads.view.process q same own))
          (λ fine. fine.mappings.few) (λ all. all)
          (steps.map-taken pid o notes (got part.Map reads next))
      part-stage part.Fds reads next = fds-stage reads next

      -- ---- a piece of the memory

      module _ (walks : Walks n k pid first h s.system notes) (next : next_call_of (at stage.ReadMemory) ≡ Some c) where
        abbrev reading : GcoreState
        reading = at stage.ReadMemory

        abbrev w : MemoryWalk
        w = walks.walk

        abbrev p : TracedProcess
        p = walks.taken.view.process

        abbrev with_piece : Notes
        with_piece = record notes { bytes = notes.bytes ++ filled (piece_of w) (bytes_read a.reply) }

        -- a piece of no bytes would be refused
        abbrev misfit : Bool
        misfit = (piece_of w == 0) || nat_lt read_limit (piece_of w)

        piece-is : next_call_of reading ≡ Some (call.Read memory.number w.address (piece_of w))
        piece-is = steps.memory-reads pid o notes memory.number w walks.is memory.at

        piece-given : answer_to s k (call.Read memory.number w.address (piece_of w)) ≡ Some a
        piece-given = its-answer reading (call.Read memory.number w.address (piece_of w)) piece-is next

        piece-still : (a.state.opens ≡ s.opens) × (a.state.system ≡ s.system)
        piece-still = looks-still (call.Read memory.number w.address (piece_of w)) refl piece-given

        piece-replies : a.reply ≡ file_read s.system pid 0 w.address (piece_of w) file.Mem
        piece-replies =
            ap (λ (x : Answer). x.reply)
            (read-answer s memory.number w.address (piece_of w)
            (file_of k pid file.Mem) a refl memory.stands piece-given)

        abbrev still-taken : HasTaken n k pid first longer
        still-taken = taken-still n k pid first h it walks.taken

        old-good : IsGood n k pid first longer still-taken → IsGood n k pid first h walks.taken
        old-good good = record { fine = good.fine; descriptors = good.descriptors; space = good.space }

        p-halts : HaltsWith pid p a.state.system
        p-halts = halts-still p piece-still.1 walks.halts

        abbrev old-base : List ℕ
        old-base = records_of n k pid first h walks.taken

        p-fields : IsGood n k pid first h walks.taken → All IsMapEntry (entries_of p.program p.space)
        p-fields good = fields-of _ p (walks.taken.view.own good.fine.status) good.fine.mappings

        module _ (fits : misfit ≡ false) (x : TracedProcess) (live : live_process s.system pid ≡ Some x)
            (granted : (e : Errno) → a.reply ≢ reply.Fail e) where
          -- what it got is of the memory that the process had
          answer-is : IsGood n k pid first h walks.taken → bytes_read a.reply
              ≡ mapped_from p.space w.address (piece_of w)
          answer-is good =
              let kept = (walks.halts.each x live).1.own (walks.taken.view.own good.fine.status) in
              some-read _ a.reply
              (piece-replies ∙ memory-there s.system pid w.address (piece_of w) fits x live) granted
              ∙ ap (λ (space : Space). mapped_from space w.address (piece_of w)) (own-seen s.system x kept.0 ∙ kept.1)

          later-is : IsGood n k pid first h walks.taken
              → with_piece.bytes ≡ notes.bytes ++ filled (piece_of w) (mapped_from p.space w.address (piece_of w))
          later-is good = ap (λ (bs : List ℕ). notes.bytes ++ filled (piece_of w) bs) (answer-is good)

          on-mapping : walk_on w ≡ None → (v : Option MemoryWalk) → walk_at notes.maps (w.at + mapping_record) ≡ v
              → fed reading a.reply ≡ with_mapping (gcore_at pid o stage.ReadMemory with_piece) v
              → Next (fed reading a.reply)
          on-mapping last None at_next is =
              memory-done still-taken p-halts piece-still.0 (fed reading a.reply) stage.ReadMemory with_piece is
              (λ good.
              let old = old-good good in
              later-is old
              ∙ written-all p.program p.space old-base notes.maps _ (p-fields old) (w.at + mapping_record)
              (piece-last p.program p.space old-base notes.maps notes.bytes w (p-fields old) old.space (walks.here old)
              last) at_next)
          on-mapping last (Some v) at_next is =
              memory-goes still-taken p-halts piece-still.0 (fed reading a.reply)
              (record with_piece { walk = Some v; bytes = with_piece.bytes ++ heading_of v }) v
              (is ∙ a-mapping pid o stage.ReadMemory with_piece v) refl
              (λ good.
              let old = old-good good in
              subst (λ (bs : List ℕ). IsInMemory p.program p.space old-base notes.maps (bs ++ heading_of v) v)
              (sym (later-is old))
              (written-next p.program p.space old-base notes.maps _ (p-fields old) (w.at + mapping_record)
              (piece-last p.program p.space old-base notes.maps notes.bytes w (p-fields old) old.space (walks.here old)
              last) v at_next))

          on-piece : (v : Option MemoryWalk) → walk_on w ≡ v
              → fed reading a.reply ≡ with_walk (gcore_at pid o stage.ReadMemory with_piece) w.at v
              → Next (fed reading a.reply)
          on-piece None last is = on-mapping last (walk_at notes.maps (w.at + mapping_record)) refl is
          on-piece (Some v) more is =
              memory-goes still-taken p-halts piece-still.0 (fed reading a.reply)
              (record with_piece { walk = Some v }) v
              is refl
              (λ good.
              let old = old-good good in
              subst (λ (bs : List ℕ). IsInMemory p.program p.space old-base notes.maps bs v) (sym (later-is old))
              (piece-on p.program p.space old-base notes.maps notes.bytes w (p-fields old) old.space (walks.here old) v
              more))

        piece-of-live : misfit ≡ false → (x : TracedProcess) → live_process s.system pid ≡ Some x
            → IsSome (fed reading a.reply).refusal ⊎
            (((e : Errno) → a.reply ≢ reply.Fail e) ×
            (fed reading a.reply ≡ accepted reading a.reply stage.ReadMemory)) → Next (fed reading a.reply)
        piece-of-live fits x live (inl refuses) = refused refuses
        piece-of-live fits x live (inr goes_on) =
            on-piece fits x live goes_on.0 (walk_on w) refl (goes_on.1 ∙ a-piece pid o notes w walks.is a.reply)

        piece-by : (b : Bool) → misfit ≡ b → (found : Option TracedProcess) → live_process s.system pid ≡ found
            → Next (fed reading a.reply)
        unfolding passes_over
        piece-by true fits o live =
            refused (subst (λ (r : Reply). IsSome (fed reading r).refusal)
            (sym (piece-replies ∙ memory-misfit s.system pid w.address (piece_of w) fits))
            (steps.refused-now reading Inval refl))
        piece-by false fits None gone =
            refused (subst (λ (r : Reply). IsSome (fed reading r).refusal)
            (sym (piece-replies ∙ memory-gone s.system pid w.address (piece_of w) fits gone))
            (steps.refused-now reading Noent refl))
        piece-by false fits (Some x) live = piece-of-live fits x live (unless-refused reading a.reply refl)

        memory-stage : Next (fed reading a.reply)
        memory-stage = piece-by misfit refl (live_process s.system pid) refl

    -- ---- all of them

    going-stage : (now : GcoreStage) → HasFirst k pid (open_at n k pid first now) s.opens o
        → So n k pid first h s.system notes now → next_call_of (at now) ≡ Some c → Next (fed (at now) a.reply)
    unfolding So open_at part_after place_of_part kind_of_part file_of_part
    going-stage stage.OpenCtl holds so next =
        open-stage control_place (control_of k pid) stage.OpenCtl stage.OpenStatus (steps.opens-control k pid) refl
        (omega arith) holds refl so next
    going-stage stage.OpenStatus holds so next =
        open-stage status_place (file_of k pid file.Status) stage.OpenStatus (stage.OpenPart part.Psinfo)
        (steps.opens-status k pid) refl (omega arith) holds refl so next
    going-stage (stage.OpenPart part.Psinfo) holds so next =
        open-stage 2 (file_of k pid file.Psinfo) (stage.OpenPart part.Psinfo) (stage.OpenPart part.Lstatus)
        (steps.opens-part k pid part.Psinfo) refl (omega arith) holds refl so next
    going-stage (stage.OpenPart part.Lstatus) holds so next =
        open-stage 3 (file_of k pid file.Lstatus) (stage.OpenPart part.Lstatus) (stage.OpenPart part.Sigact)
        (steps.opens-part k pid part.Lstatus) refl (omega arith) holds refl so next
    going-stage (stage.OpenPart part.Sigact) holds so next =
        open-stage 4 (file_of k pid file.Sigact) (stage.OpenPart part.Sigact) (stage.OpenPart part.Map)
        (steps.opens-part k pid part.Sigact) refl (omega arith) holds refl so next
    going-stage (stage.OpenPart part.Map) holds so next =
        open-stage 5 (file_of k pid file.Map) (stage.OpenPart part.Map) (stage.OpenPart part.Fds)
        (steps.opens-part k pid part.Map) refl (omega arith) holds refl so next
    going-stage (stage.OpenPart part.Fds) holds so next =
        open-stage 6 (file_of k pid file.Fds) (stage.OpenPart part.Fds) stage.OpenMemory
        (steps.opens-part k pid part.Fds) refl (omega arith) holds refl so next
    going-stage stage.OpenMemory holds so next =
        open-stage memory_place (file_of k pid file.Mem) stage.OpenMemory stage.ReadFirst
        (steps.opens-memory k pid) refl
        (omega arith) holds refl so next
    going-stage stage.ReadFirst holds so next = look-stage holds so next
    going-stage stage.Stop holds so next = stop-stage holds so next
    going-stage stage.AwaitStop holds so next = wait-stage holds so.0 so.1.0 so.1.1 so.2 next
    going-stage stage.ReadStatus holds so next = status-stage holds so.0 so.1.0 so.1.1 so.2 so.3 next
    going-stage (stage.ReadPart which) holds so next = part-stage holds which so next
    going-stage stage.ReadMemory holds so next = memory-stage holds so next
    going-stage _ holds so next = absurd so

  -- ---- after the last read

  read-stage : (g : GcoreState) → HasReadAll n k pid first h g → Next (fed g a.reply)
  unfolding passes_over
  read-stage g all = of all.ends
    where
      later : HasReadAll n k pid first longer g
      later = still-read n k pid first h it g all

      runs : g ≡ gcore_at pid all.opened stage.Run all.notes
          → IsSome (fed g a.reply).refusal ⊎
          (((e : Errno) → a.reply ≢ reply.Fail e) × (fed g a.reply ≡ accepted g a.reply g.stage)) → Next (fed g a.reply)
      runs is (inl refuses) = refused refuses
      runs is (inr goes_on) = has_read (record {
        opened = all.opened;
        next = stage.Close;
        notes = all.notes;
        is =
            goes_on.1 ∙ ap (λ (u : GcoreState). accepted u a.reply u.stage) is
            ∙ steps.has-run pid all.opened all.notes a.reply;
        ends = inr refl;
        taken = later.taken;
        bytes = later.bytes;
      })

      of : IsEnding all.next → Next (fed g a.reply)
      of (inl run) =
          let is : g ≡ gcore_at pid all.opened stage.Run all.notes =
          all.is ∙ ap (λ (p : GcoreStage). gcore_at pid all.opened p all.notes) run in
          runs is (unless-refused g a.reply (ap (λ (u : GcoreState). passes_over u.stage) is))
      of (inr close) =
          let is : g ≡ gcore_at pid all.opened stage.Close all.notes =
          all.is ∙ ap (λ (p : GcoreStage). gcore_at pid all.opened p all.notes) close in
          has_read (record {
            opened = without_last all.opened;
            next = stage.Close;
            notes = all.notes;
            is = ap (λ (u : GcoreState). fed u a.reply) is ∙ steps.closes pid all.opened all.notes a.reply;
            ends = inr refl;
            taken = later.taken;
            bytes = later.bytes;
          })

  pub called-stage : (g : GcoreState) → next_call_of g ≡ Some c → Stage n k pid first h s g → Next (fed g a.reply)
  called-stage g next (goes at_stage) =
      let Q : GcoreState → Type 0 = λ u. next_call_of u ≡ Some c → Next (fed u a.reply) in
      subst Q (sym at_stage.is)
      (going-stage at_stage.opened at_stage.notes at_stage.next at_stage.holds at_stage.so) next
  called-stage g next (has_read all) = read-stage g all
  called-stage g next (refused was) = refused (steps.refused-still g a.reply was)
