use Rattle.std.proofs.Common.{◌≡◌, ◌<◌, ◌++◌, ℕ, Bool, true, false, cond, Option, Some, None, List, [], ◌∷◌, append-nil, append_assoc, length, refl, sym, subst, ap, ◌∙◌, inl, inr}
use Rattle.std.proofs.lemmas.Bool.{false≢true}
use Rattle.std.proofs.lemmas.List.{append_cancel_left}
use Rattle.std.proofs.lemmas.Option.{none-some, same_Some}
use Rattle.std.specs.List.{All, filter_map}
use Rattle.std.specs.Option.{option_and_then, option_map}
use Rattle.pr_line.specs.ArgumentTexts.{Came}
use Rattle.pr_line.specs.Events.{event_of}
use Rattle.pr_line.specs.TextRanges.{text_range}
use Rattle.pr_line.specs.declared.events.Event.{Event}
use Rattle.pr_line.specs.declared.options.Options.{Options}
use Rattle.pr_model.specs.Events.{events_of}
use Rattle.pr_model.specs.Lawful.{IsLawful}
use Rattle.pr_model.specs.Legal.{IsLegalEntry, state_after}
use Rattle.pr_model.specs.Reads.{file_read}
use Rattle.pr_model.specs.Replies.{bytes_in}
use Rattle.pr_model.specs.State.{TracedProcess, TracedState, TracedSystem, live_process, process_of}
use Rattle.pr_model.specs.declared.calls.File.TheVariants.{Ctl, Mem}
use Rattle.pr_model.specs.declared.calls.Reply.{Reply}
use Rattle.pr_model.specs.declared.calls.Reply.TheVariants as reply
use Rattle.pr_model.specs.declared.events.Entry.{Entry}
use Rattle.pr_num.specs.Signals.{signal_number}
use Rattle.pr_num.specs.declared.errnos.Errno.TheVariants.{Noent}
use Rattle.pr_num.specs.declared.signals.Sig.TheVariants.{Kill}
use Rattle.pr_rec.specs.declared.lwps.LwpStatus.{LwpStatus}
use Rattle.pr_report_laws.proofs.Machine.EventOwners.{event-owns}
use Rattle.pr_report_laws.proofs.SeenChildren.Splits.{state_after-both}
use Rattle.pr_report_laws.specs.Attachments.{HasFile}
use Rattle.pr_report_laws.specs.Memories.{WasKilled, range_asked}
use Rattle.pr_report_laws.specs.Reads.{ReadsEvent, by_lwps, by_status}
use Rattle.pr_report_laws.specs.Shown.{LwpEvent, event_reported, event_told, picked, shown}
use Rattle.pr_report_laws.specs.Watching.{place_of, watches}
use Rattle.pr_truss.specs.Stops.{asked_range, text_of}
use Rattle.pr_truss.specs.Trusses.{TrussState, first_truss, traced_at}
use Rattle.pr_truss.specs.declared.processes.Traced.{Traced}
use Rattle.pr_truss.specs.declared.reports.Report.{Report}
use Rattle.pr_truss.specs.declared.reports.Report.TheVariants as report
use Rattle.pr_truss.specs.declared.stages.Stage.TheVariants.{ReadingText}
use Rattle.pr_truss_laws.proofs.Files.HeldLemmas.{Fits}
use Rattle.pr_truss_laws.proofs.Files.OpensLemmas.{looking-stays, only_looks}
use Rattle.pr_truss_laws.specs.Exchanges.{Exchange, exchange_of, exchanges}
use Rattle.pr_truss_laws.specs.Stills.{KeepsMemory}
use Rattle.pr_function_laws.proofs.Stepping.BreakpointLemmas.{own-entry}
use Rattle.pr_function_laws.proofs.LeavingProcesses.LeavingCourse.{entry-legal, files-at, fits-at}
use Rattle.pr_function_laws.proofs.Listing.LeavingEvents.{listed-at}
use Rattle.pr_function_laws.proofs.LineMemory.LineReads.{Lately, ReadsLately, lately-at}
use Rattle.pr_function_laws.proofs.LineMemory.LineTexts.{IsAtText, IsTextThere, have-texts-there, lost_there, none_asked, read_there}
use Rattle.pr_function_laws.proofs.Listing.ListedStates as states
use Rattle.pr_function_laws.proofs.Listing.ListedStates.{is_over as ended_unread, none_due, unread_yet}
use Rattle.pr_function_laws.proofs.OrdinaryTruss.OrdinaryCalls.{later-sends}
use Rattle.pr_function_laws.proofs.OrdinaryTruss.OrdinaryEntries as entries
use Rattle.pr_function_laws.proofs.OrdinaryTruss.OrdinaryEntries.{front-run}
use Rattle.pr_function_laws.proofs.OrdinaryTruss.OrdinaryFiles.{Follows}
use Rattle.pr_function_laws.proofs.OrdinaryTruss.OrdinaryReplies.{at-ordinary}
use Rattle.pr_function_laws.proofs.OrdinaryTruss.OrdinaryShown.{shows-what-it-reads}
use Rattle.pr_function_laws.proofs.LineMemory.MemoryFile.{same-bytes}
use Rattle.pr_function_laws.proofs.LineMemory.QuietMoments.{Fate, fate-end, is_over, lives_on}
use Rattle.pr_function_laws.proofs.LineMemory.TextsAtOnce.{asked-text, next-no-message, none-since}
use Rattle.pr_function_laws.proofs.CallTurns.TurnWalks.{own-in}
use Rattle.pr_function_laws.specs.LineEvents.{AreOfTheirEventsIn, IsOfItsEventIn, IsTextSince, over, read}
use Rattle.pr_function_laws.specs.LineMoments.{HasSameMemory}
use Rattle.pr_function_laws.specs.LineTexts.{IsPatch, IsTextRead}
use Rattle.pr_function_laws.specs.ListedEvents.{events_to_show, is_to_show_in, to_show_in}
use Rattle.pr_function_laws.specs.ReachedRuns.{IsReachedFunctionRun}
use Rattle.pr_function_laws.specs.Opened.{IsFunctionRun, functions_at}
use Rattle.pr_function_laws.specs.Ordinary.{ordinary, ordinary_among}
use Rattle.pr_function_laws.specs.OrdinaryRuns.{ShowsInEntry, nothing_new, one_more}
use Rattle.pr_function_laws.specs.ToldTurns.{AreSteppable}

-- The memory in a line of truss with calls of functions is that of the event of the line.

-- ---- what a line asks for

asks-its : (o : Options) (l : LwpStatus) (event : LwpEvent) (range : ℕ × ℕ) → event_told l ≡ Some event
    → range_asked o l ≡ Some range → text_range event.event ≡ Some range
asks-its o l event range told asked = by (event_of l) refl
  where
    by : (ev : Option Event) → event_of l ≡ ev → text_range event.event ≡ Some range
    by None none =
        absurd (none-some event (sym (ap (option_map (λ (e : Event). record { id = l.id; event = e })) none) ∙ told))
    by (Some ev) is =
        let same : record { id = l.id; event = ev } ≡ event =
        same_Some _ event
        (sym (ap (option_map (λ (e : Event). record { id = l.id; event = e })) is) ∙ told) in
        ap (λ (w : LwpEvent). text_range w.event) (sym same)
        ∙ asked-text o ev range (sym (ap (option_and_then (asked_range o)) is) ∙ asked)

-- ---- what comes while truss watches a process

if-some : {A : Type 0} (b : Bool) (xs : List A) (x : A) → cond b xs [] ≡ x ∷ [] → (b ≡ true) × (xs ≡ x ∷ [])
if-some true xs x is = (refl, is)
if-some false xs x is = absurd (cc)

no-one : {A : Type 0} (x : A) (xs : List A) → [] ≡ x ∷ xs → ⊥
no-one x xs is = cc

-- ---- one front of a history, behind which the text of a report came

module _ (n k : ℕ) (o : Options) (s : TracedState) (h : List Entry) (pid : ℕ) (run : IsReachedFunctionRun n k o s h)
    (steps : AreSteppable o) where
  abbrev T : List Entry → TrussState
  T f = functions_at k o f

  abbrev S : List Entry → TracedState
  S f = state_after s f

  module _ (f : List Entry) (e : Entry) (later : List Entry) (is : h ≡ f ++ e ∷ later) where
    run-here : IsFunctionRun n k o s (f ++ e ∷ later)
    run-here = subst (IsFunctionRun n k o s) is run.of

    legal : IsLegalEntry n (S f) e
    legal = entry-legal (Unit {0}) n k o s h run.of (λ r. run.reached) (λ r. run.bytes) f e later is

    lawful : IsLawful (S f)
    lawful =
        let w : Follows k o (T f) (S f) = entries.follows n k o s f later e run-here in
        let g = w.reaches in g.lawful

    -- a call of truss brings no event
    own-empty : (x : Exchange) → exchange_of k e ≡ Some x → to_show_in (T f) (S f) pid e ≡ []
    own-empty x own =
        states.elsewhere-empty k o s pid n h run.of f e later is lawful legal (λ i. own-in k pid i e.actor e.act x own)

    -- what is not read is not shown
    quiet-shown : (states.ReadsIts k o s pid f e → ⊥) → shown pid (T (f ++ e ∷ [])) ≡ shown pid (T f)
    quiet-shown quiet = by (let w = shows-what-it-reads n k o s h run.of in w.each f later e pid is)
      where
        by : ShowsInEntry k o pid s f e → shown pid (T (f ++ e ∷ [])) ≡ shown pid (T f)
        by (nothing_new same) = same
        by (one_more w (by_status r) chosen not_own) = absurd (quiet (inl r.read))
        by (one_more w (by_lwps r) chosen not_own) = absurd (quiet (inr r.read))

  -- so it is of some entries
  none-shown : (mid done later : List Entry) → h ≡ done ++ (mid ++ later)
      → ((between rest : List Entry) (d : Entry) → mid ≡ between ++ d ∷ rest
      → states.ReadsIts k o s pid (done ++ between) d → ⊥)
      → shown pid (T (done ++ mid)) ≡ shown pid (T done)
  none-shown [] done later is quiet = ap (λ es. shown pid (T es)) (append-nil done)
  none-shown (e ∷ mid) done later is quiet =
      ap (λ es. shown pid (T es)) (sym (append_assoc done (e ∷ []) mid))
      ∙ none-shown mid (done ++ e ∷ []) later (is ∙ sym (append_assoc done (e ∷ []) (mid ++ later)))
      (λ between rest d parts reads. quiet (e ∷ between) rest d (ap (λ es. e ∷ es) parts)
      (subst (λ es. states.ReadsIts k o s pid es d) (append_assoc done (e ∷ []) between) reads))
      ∙ quiet-shown done e (mid ++ later) is
      (λ reads. quiet [] mid e refl
      (subst (λ es. states.ReadsIts k o s pid es e) (sym (append-nil done)) reads))

  module _ (front rest : List Entry) (is : h ≡ front ++ rest) (reports : List Report) (l : LwpStatus) (from len : ℕ)
      (at : IsAtText k o pid l from len front)
      (reported : ordinary_among (functions_at k o front).reports ≡ reports) where
    -- ---- when truss read the event

    lately : ReadsLately k o s front reports pid (traced_at (ordinary (T front)) at.place).control l from len
    lately =
        subst (λ rs. ReadsLately k o s front rs pid (traced_at (ordinary (T front)) at.place).control l from len)
        reported
        (subst
        (λ i. ReadsLately k o s front (ordinary (T front)).reports i
        (traced_at (ordinary (T front)) at.place).control l from len) (sym at.of)
        (subst (Lately k o s front (ordinary (T front))) at.at
        (lately-at n k o s front (front-run n k o s front rest (subst (IsFunctionRun n k o s) is run.of)))))

    r : ReadsLately k o s front reports pid (traced_at (ordinary (T front)) at.place).control l from len
    r = lately

    abbrev control : ℕ
    control = (traced_at (ordinary (T front)) at.place).control

    abbrev shown_so : List LwpEvent
    shown_so = filter_map (event_reported pid) reports

    module _ (before : List Entry) (again : Entry) (since : List Entry) (front_is : front ≡ before ++ again ∷ since)
        (event : LwpEvent) (told : event_told l ≡ Some event)
        (reads : ReadsEvent k pid (state_after s before) again event)
        (patches : All (IsPatch o control) (exchanges k since)) (asks : range_asked o l ≡ Some (from, len))
        (had_shown : shown pid (functions_at k o before) ≡ filter_map (event_reported pid) reports)
        (shows : shown pid (functions_at k o (before ++ again ∷ []))
        ≡ filter_map (event_reported pid) reports ++ event ∷ []) where
      abbrev base : List Entry
      base = before ++ again ∷ []

      before-is : h ≡ before ++ again ∷ (since ++ rest)
      before-is = is ∙ ap (λ (es : List Entry). es ++ rest) front_is ∙ append_assoc before (again ∷ since) rest

      base-is : h ≡ base ++ (since ++ rest)
      base-is = before-is ∙ sym (append_assoc before (again ∷ []) (since ++ rest))

      -- it called nothing since
      at-once : exchanges k since ≡ []
      at-once =
          none-since n k o s h run steps front rest is at.place l from len at.at base since
          (front_is ∙ sym (append_assoc before (again ∷ []) since)) control patches

      its-read : states.ReadsIts k o s pid before again
      its-read = by reads
        where
          by : ReadsEvent k pid (state_after s before) again event → states.ReadsIts k o s pid before again
          by (by_status w) = inl w.read
          by (by_lwps w) = inr w.read

      its-own : (x : Exchange) × ((exchange_of k again ≡ Some x) × (only_looks x.call ≡ true))
      its-own = by its-read
        where
          by : states.ReadsIts k o s pid before again
              → (x : Exchange) × ((exchange_of k again ≡ Some x) × (only_looks x.call ≡ true))
          by (inl w) = (_, (w.is, refl))
          by (inr w) = (_, (w.is, refl))

      abbrev here_legal : IsLegalEntry n (S before) again
      here_legal = legal before again (since ++ rest) before-is

      abbrev here_lawful : IsLawful (S before)
      here_lawful = lawful before again (since ++ rest) before-is

      still-living : live_process (S before).system pid ≡ None → ⊥
      still-living gone =
          states.over-quiet k o s pid n h run.of before again (since ++ rest) before-is here_lawful here_legal gone
          its-read

      -- the read left the machine as it was
      same-system : (S base).system ≡ (S before).system
      same-system =
          let own = its-own in
          let it = own-entry n k (S before) again own.0 here_legal own.1.0 in
          ap (λ (u : TracedState). u.system) (state_after-both s before (again ∷ []) ∙ sym it.later)
          ∙ ap (λ (u : TracedState). u.system)
          (looking-stays (S before) k own.0.call it.answer own.1.1 it.is)

      -- ---- the event was the one that was missing

      unread-then : states.ListedSo k o s pid before
      unread-then =
          listed-at n k o s h run pid before (again ∷ (since ++ rest)) before-is

      unread-next : states.ListedSo k o s pid base
      unread-next = listed-at n k o s h run pid base (since ++ rest) base-is

      missing-is : (let w = unread-then in w.missing) ≡ event ∷ (let w = unread-next in w.missing)
      missing-is =
          let w = unread-then in
          let v = unread-next in
          let own = its-own in
          append_cancel_left shown_so w.missing (event ∷ v.missing)
          (ap (λ es. es ++ w.missing) (sym had_shown) ∙ sym w.are
          ∙ sym (states.came-next k o s pid n h run.of before again (since ++ rest) before-is here_lawful here_legal
          ∙ ap (λ es. events_to_show k pid (first_truss o) s before ++ es)
          (own-empty before again (since ++ rest) before-is own.0 own.1.0)
          ∙ append-nil (events_to_show k pid (first_truss o) s before))
          ∙ v.are ∙ ap (λ es. es ++ v.missing) shows ∙ append_assoc shown_so (event ∷ []) v.missing)

      -- ---- the state that it left

      module _ (w : states.Since k o s pid before event) (p : TracedProcess)
          (live : live_process (state_after s before).system pid ≡ Some p) (kept : KeepsMemory w.process p)
          (text : Came) where
        abbrev moment : TracedState
        moment = state_after s (w.front ++ w.entry ∷ [])

        abbrev prior : List Entry
        prior = w.mid ++ again ∷ []

        entry-is : h ≡ w.front ++ w.entry ∷ (w.mid ++ again ∷ (since ++ rest))
        entry-is =
            before-is ∙ ap (λ (es : List Entry). es ++ again ∷ (since ++ rest)) w.is
            ∙ append_assoc w.front (w.entry ∷ w.mid) (again ∷ (since ++ rest))

        abbrev entry_rest : List Entry
        entry_rest = w.mid ++ again ∷ (since ++ rest)

        watched-so : (watches (T w.front) pid ≡ true)
            × (picked (is_to_show_in (T w.front) (place_of (T w.front) pid)) pid (events_of (S w.front) w.entry)
            ≡ event ∷ [])
        watched-so = if-some (watches (T w.front) pid) _ event w.came

        own-memory : w.process.borrower ≡ None
        own-memory =
            event-owns n (is_to_show_in (T w.front) (place_of (T w.front) pid)) pid (S w.front) event (from, len)
            (asks-its o l event (from, len) told asks) w.entry (legal w.front w.entry entry_rest entry-is)
            watched-so.1 w.process
            (ap (λ (u : TracedState). live_process u.system pid) (sym (state_after-both s w.front (w.entry ∷ [])))
            ∙ w.lives)

        -- truss did not read the process between
        no-own : (x : Exchange) → exchange_of k w.entry ≡ Some x → ⊥
        no-own x own =
            no-one event [] (sym (own-empty w.front w.entry entry_rest entry-is x own) ∙ w.came)

        quiet-entry : states.ReadsIts k o s pid w.front w.entry → ⊥
        quiet-entry (inl read_it) = no-own _ read_it.is
        quiet-entry (inr read_it) = no-own _ read_it.is

        quiet-all : (between behind : List Entry) (d : Entry) → w.entry ∷ w.mid ≡ between ++ d ∷ behind
            → states.ReadsIts k o s pid (w.front ++ between) d → ⊥
        quiet-all [] behind d parts read_it =
            let same : w.entry ≡ d = cc in
            quiet-entry
            (subst (λ es. states.ReadsIts k o s pid es w.entry) (append-nil w.front)
            (subst (states.ReadsIts k o s pid (w.front ++ [])) (sym same) read_it))
        quiet-all (b ∷ between) behind d parts read_it =
            let same : w.entry ≡ b = cc in
            let more : w.mid ≡ between ++ d ∷ behind = cc in
            let u = w.unanswered in
            u.each between behind d more
            (subst (λ c. states.ReadsIts k o s pid (w.front ++ c ∷ between) d) (sym same) read_it)

        in-order : events_to_show k pid (first_truss o) s w.front ≡ shown_so
        in-order =
            w.none_before
            ∙ sym (none-shown (w.entry ∷ w.mid) w.front (again ∷ (since ++ rest)) entry-is quiet-all)
            ∙ ap (λ es. shown pid (T es)) (sym w.is) ∙ had_shown

        -- ---- up to the text

        abbrev Ended : List Entry → Type 0
        Ended done = WasKilled pid moment (prior ++ done)

        leads : (done : List Entry) → state_after s (base ++ done) ≡ state_after moment (prior ++ done)
        leads done =
            ap (state_after s)
            (append_assoc before (again ∷ []) done ∙ ap (λ (es : List Entry). es ++ again ∷ done) w.is
            ∙ append_assoc w.front (w.entry ∷ w.mid) (again ∷ done)
            ∙ sym (append_assoc w.front (w.entry ∷ []) (w.mid ++ again ∷ done))
            ∙ ap (λ (es : List Entry). (w.front ++ w.entry ∷ []) ++ es) (sym (append_assoc w.mid (again ∷ []) done)))
            ∙ state_after-both s (w.front ++ w.entry ∷ []) (prior ++ done)

        ended-now : (done more : List Entry) (f : Entry) (z v : TracedProcess) → since ≡ done ++ f ∷ more
            → live_process (state_after s (base ++ done)).system pid ≡ Some z
            → live_process (state_after s (base ++ (done ++ f ∷ []))).system pid ≡ None
            → process_of (state_after s (base ++ (done ++ f ∷ []))).system pid ≡ Some v
            → v.ended ≡ Some (signal_number Kill) → Ended (done ++ f ∷ [])
        ended-now done more f z v split lived gone left status =
            let same : prior ++ (done ++ f ∷ []) ≡ (prior ++ done) ++ f ∷ [] =
            sym (append_assoc prior done (f ∷ [])) in
            record {
              before = prior ++ done;
              entry = f;
              later = [];
              is = same;
              process = z;
              lived = ap (λ (u : TracedState). live_process u.system pid) (sym (leads done)) ∙ lived;
              over = ap (λ (u : TracedState). live_process u.system pid)
                  (sym (leads (done ++ f ∷ []) ∙ ap (state_after moment) same)) ∙ gone;
              zombie = v;
              left = ap (λ (u : TracedState). process_of u.system pid)
                  (sym (leads (done ++ f ∷ []) ∙ ap (state_after moment) same)) ∙ left;
              status = status;
            }

        ended-on : (done : List Entry) (f : Entry) → Ended done → Ended (done ++ f ∷ [])
        ended-on done f killed =
            subst (WasKilled pid moment) (append_assoc prior done (f ∷ []))
            (states.killed-on k o s pid moment (prior ++ done) f killed)

        whole-front : base ++ since ≡ front
        whole-front = append_assoc before (again ∷ []) since ∙ sym front_is

        stage-there : (T (base ++ since)).stage ≡ ReadingText at.place l from len
        stage-there = ap (λ es. (T es).stage) whole-front ∙ at.at

        pid-there : (traced_at (T (base ++ since)) at.place).pid ≡ pid
        pid-there =
            ap (λ es. (traced_at (T es) at.place).pid) whole-front
            ∙ ap (λ (z : Traced). z.pid) (sym (at-ordinary (T front) at.place)) ∙ sym at.of

        abbrev FateAt : List Entry → Type 0
        FateAt =
            Fate n k o s h run base since rest base-is pid at.place l from len stage-there pid-there
            at-once w.process Ended ended-now ended-on

        first-fate : FateAt []
        first-fate =
            lives_on p
            (ap (λ (es : List Entry). live_process (state_after s es).system pid) (append-nil base)
            ∙ ap (λ (u : TracedSystem). live_process u pid) same-system ∙ live)
            kept

        fate : FateAt since
        fate =
            fate-end n k o s h run base since rest base-is pid at.place l from len stage-there pid-there
            at-once w.process Ended ended-now ended-on first-fate

        at-front : {A : Type 0} (o_of : Option A) (g : TracedSystem → Option A)
            → g (state_after s (base ++ since)).system ≡ o_of → g (state_after s front).system ≡ o_of
        at-front o_of g there =
            ap (λ (es : List Entry). g (state_after s es).system) (sym whole-front) ∙ there

        killed-is : Ended since → WasKilled pid moment (w.mid ++ again ∷ since)
        killed-is = subst (WasKilled pid moment) (append_assoc w.mid (again ∷ []) since)

        abbrev StayedAt : List Entry → Type 0
        StayedAt f = IsTextSince k o pid from len s h reports text moment w.process (w.mid ++ again ∷ since) f

        -- the memory is the same
        same-memory : (z : TracedProcess) → live_process (state_after s front).system pid ≡ Some z
            → KeepsMemory w.process z → HasSameMemory pid moment (state_after s front) w.process z
        same-memory z live_z keeps =
            let both = keeps.own own-memory in
            record {
              before = own-memory;
              now = both.0;
              same = both.1;
              reads = λ from len.
                  same-bytes moment.system (state_after s front).system pid from len w.process z w.lives live_z
                  own-memory both.0 both.1;
            }

        -- and truss read it, where the process lives
        stayed : (m : IsTextRead k o pid from len s h reports text) → m.before ≡ front → FateAt since → StayedAt front
        stayed m same (lives_on z live_z keeps) =
            let live_now = at-front (Some z) (λ u. live_process u pid) live_z in
            let kept = same-memory z live_now keeps in
            read m same z live_now kept
            (m.stood
            ∙ ap (λ (es : List Entry). text_of len (bytes_in (file_read (state_after s es).system pid 0 from len Mem)))
            same
            ∙ ap (λ (reply : Reply). text_of len (bytes_in reply)) (kept.reads from len))
        stayed m same (is_over gone killed) =
            over m same (at-front None (λ u. live_process u pid) gone) (killed-is killed)

        its-file : HasFile k pid Ctl control (state_after s front)
        its-file =
            let files = files-at (Unit {0}) n k o s h run.of (λ r. run.reached) (λ r. run.bytes) front rest is in
            let within : at.place < length (ordinary (T front)).traced =
            subst (Fits (ordinary (T front)).traced) at.at
            (fits-at (Unit {0}) n k o s h run.of (λ r. run.reached) (λ r. run.bytes) front rest is) in
            let f = files.control at.place within in
            record { held = _; there = f.is; of = sym at.of; file = refl }

        pub of-it : (m : IsTextRead k o pid from len s h reports text) → m.before ≡ front
            → IsOfItsEventIn k o pid from len s h reports l text
        of-it m same = record {
          front = front;
          later = rest;
          is = is;
          event = event;
          told = told;
          lately = record {
            before = before;
            entry = again;
            since = since;
            is = front_is;
            reads = reads;
            control = control;
            has = its-file;
            patches = patches;
          };
          at_once = at-once;
          earlier = w.front;
          entry = w.entry;
          between = w.mid;
          before = w.is;
          watched = watched-so.0;
          came = w.came;
          in_order = in-order;
          process = w.process;
          lives = w.lives;
          stayed = stayed m same fate;
        }

      -- what is missing is the event
      module _ (G : Type 0)
          (goal : (w : states.Since k o s pid before event) (p : TracedProcess)
          → live_process (state_after s before).system pid ≡ Some p → KeepsMemory w.process p → G) where
        by-unread : (missing : List LwpEvent) → states.Unread k o s pid before missing
            → missing ≡ event ∷ (let w = unread-next in w.missing) → G
        by-unread missing none_due same = absurd (no-one _ _ same)
        by-unread missing (unread_yet ev w p live kept) same =
            let one : ev ≡ event = cc in
            subst (λ (x : LwpEvent). (w : states.Since k o s pid before x) (p : TracedProcess)
            → live_process (state_after s before).system pid ≡ Some p → KeepsMemory w.process p → G) (sym one) goal
            w p live kept
        by-unread missing (ended_unread ev gone) same = absurd (still-living gone)

        reached-goal : G
        reached-goal = let w = unread-then in by-unread w.missing w.unread missing-is

  -- ---- one report

  its-event : (reports : List Report) (l : LwpStatus) (text : Came) → IsTextThere k o s h reports pid l text
      → (range : ℕ × ℕ) → range_asked o l ≡ Some range
      → IsOfItsEventIn k o pid range.0 range.1 s h reports l text
  its-event reports l text (none_asked none empty) range asked = absurd (none-some range (sym none ∙ asked))
  its-event reports l text (read_there from len asks m at) range asked =
      let w = lately m.before (m.entry ∷ m.later) m.is reports l from len at m.reported in
      subst (λ (q : ℕ × ℕ). IsOfItsEventIn k o pid q.0 q.1 s h reports l text)
      (same_Some (from, len) range (sym asks ∙ asked))
      (reached-goal m.before (m.entry ∷ m.later) m.is reports l from len at m.reported w.front w.entry w.since w.is
      w.event w.tells w.reads w.patches w.asks w.had_shown w.shows
      (IsOfItsEventIn k o pid from len s h reports l text)
      (λ since p live kept.
      of-it m.before (m.entry ∷ m.later) m.is reports l from len at m.reported w.front w.entry w.since w.is w.event
      w.tells w.reads w.patches w.asks w.had_shown w.shows since p live kept text m refl))
  its-event reports l text (lost_there from len asks m at patch) range asked =
      absurd
      (false≢true
      (sym (next-no-message n k o s h run steps m.before (m.entry ∷ m.later) m.is at.place l from len
      at.at m.entry m.later refl (record { call = patch.call; reply = reply.Fail Noent }) patch.is)
      ∙ later-sends (T m.before) o patch.control patch.patch))

  pub are-of-their-events : AreOfTheirEventsIn k o pid s h (ordinary_among (functions_at k o h).reports)
  are-of-their-events = record {
    each = λ earlier later l text from len is asked.
        let w = have-texts-there n k o s h run.of in
        its-event earlier l text (w.each earlier later (report.Event pid l text) is) (from, len) asked;
  }

pub ruleset of_their_events = (are-of-their-events)
