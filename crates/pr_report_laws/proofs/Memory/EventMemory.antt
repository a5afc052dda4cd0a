use Rattle.std.proofs.Common.{◌≡◌, ◌==◌, ◌||◌, ◌<◌, ◌⊎◌, ℕ, cond, nat_lt, length, arith, Option, Some, None, List, [], ◌∷◌, ◌++◌, refl, sym, subst, ap, ◌∙◌, append_assoc, inl, inr, Bool, true, false}
use Rattle.std.proofs.lemmas.Bool.{eq-eqb}
use Rattle.std.proofs.lemmas.List.{append-nil, append_cancel_left, append_cancel_right}
use Rattle.std.proofs.lemmas.Option.{none-some, same_Some}
use Rattle.std.specs.List.{filter_map}
use Rattle.std.specs.Option.{option_map, option_and_then}
use Rattle.pr_keeps.proofs.LoanLemmas.{own-space}
use Rattle.pr_line.specs.TextRanges.{text_range}
use Rattle.pr_api.specs.Entries.{call_entry}
use Rattle.pr_line.specs.ArgumentTexts.{Came}
use Rattle.pr_line.specs.Events.{event_of}
use Rattle.pr_line.specs.declared.events.Event.{Event}
use Rattle.pr_line.specs.declared.options.Options.{Options}
use Rattle.pr_model.specs.Handles.{handle_of}
use Rattle.pr_model.specs.Legal.{after, state_after}
use Rattle.pr_model.specs.Readers.{space_seen}
use Rattle.pr_model.specs.Reads.{file_read, file_reply, mapped_from, of_process, read_process, unless_none}
use Rattle.pr_model.specs.Replies.{bytes_in}
use Rattle.pr_model.specs.State.{TracedProcess, TracedState, TracedSystem, live_process}
use Rattle.pr_model.specs.declared.calls.Call.{Call}
use Rattle.pr_model.specs.declared.calls.Call.TheVariants as call
use Rattle.pr_model.specs.declared.calls.File.{File}
use Rattle.pr_model.specs.declared.calls.File.TheVariants.{Lstatus, Mem, Status}
use Rattle.pr_model.specs.declared.calls.Mode.{Mode}
use Rattle.pr_model.specs.declared.calls.Reply.{Reply}
use Rattle.pr_model.specs.declared.calls.Reply.TheVariants.{Fail}
use Rattle.pr_model.specs.declared.events.Entry.{Entry}
use Rattle.pr_model.specs.declared.handles.Held.{Held}
use Rattle.pr_num.specs.Limits.{read_limit}
use Rattle.pr_num.specs.Spaces.{Space}
use Rattle.pr_num.specs.declared.errnos.Errno.TheVariants.{Inval}
use Rattle.pr_rec.specs.declared.lwps.LwpStatus.{LwpStatus}
use Rattle.pr_truss.specs.Feeding.{fed, with_reply}
use Rattle.pr_truss.specs.NextCalls.{next_call_of}
use Rattle.pr_truss.specs.Replies.{answer_of}
use Rattle.pr_truss.specs.Stops.{text_of, with_event_shown, with_text_answered, asked_range}
use Rattle.pr_truss.specs.Trusses.{TrussState, first_truss, traced_at, with_report}
use Rattle.pr_truss.specs.declared.processes.Traced.{Traced}
use Rattle.pr_truss.specs.declared.reports.Report.{Report}
use Rattle.pr_truss.specs.declared.reports.Report.TheVariants.{Event as Reported}
use Rattle.pr_truss.specs.declared.stages.Stage.TheVariants.{ReadingText}
use Rattle.pr_truss_laws.proofs.Files.ClosesLemmas.{after-grown, first-fits}
use Rattle.pr_truss_laws.proofs.Files.HeldLemmas.{Fits, Grown, grown-all}
use Rattle.pr_truss_laws.proofs.Files.OwnLemmas.{Owns}
use Rattle.pr_truss_laws.specs.Exchanges.{Exchange, exchange_of, exchanges, truss_after, truss_at}
use Rattle.pr_report_laws.specs.ReachedRuns.{IsReachedTrussRun}
use Rattle.pr_truss_laws.specs.Runs.{IsTrussRun}
use Rattle.pr_report_laws.proofs.Invariant.AnsweredReads as answered
use Rattle.pr_report_laws.proofs.Invariant.AnsweredReads.{Reads, next-reads}
use Rattle.pr_report_laws.proofs.UnopenedChildren.Births.{all-left, births, first-traced, opens-birth, unfollowed-births}
use Rattle.pr_report_laws.proofs.Memory.EventComes.{HasCome, Knows, Links, ReadsIts, Stays, halts, over, selected_in}
use Rattle.pr_report_laws.proofs.Invariant.EventSteps.{knows-next, links-next}
use Rattle.pr_report_laws.proofs.Files.FileLaws.{HasFiles, IsFileOf}
use Rattle.pr_report_laws.proofs.Files.FileSteps.{MakesNext, makes-next}
use Rattle.pr_report_laws.proofs.Files.FileUses.{lwps-read, memory-read, opening-read, status-read}
use Rattle.pr_report_laws.proofs.Invariant.HistoryLaw.{Along, OpensAtBirth, after-next, first-is, no-exchanges}
use Rattle.pr_report_laws.proofs.Invariant.ShownTallies.{selected_of, shown-first, shown-next, shown_tally}
use Rattle.pr_report_laws.proofs.Invariant.HistorySteps.{Holds}
use Rattle.pr_report_laws.proofs.Memory.MemoryReads.{read-texts}
use Rattle.pr_report_laws.proofs.Replies.NextStages.{reported}
use Rattle.pr_report_laws.proofs.Replies.TextReports.{text-grown}
use Rattle.pr_report_laws.proofs.Replies.StopsOver.{reported-own, shown-text}
use Rattle.pr_report_laws.proofs.Files.WatchHistories.{after-append, exchanges-both}
use Rattle.pr_report_laws.specs.AtBirth.{IsFollowedAtBirth}
use Rattle.pr_report_laws.specs.Births.{IsNeverFollowed, LeavesForks, NamesNoChild}
use Rattle.pr_report_laws.specs.Lineages.{IsLeftToTruss}
use Rattle.pr_report_laws.specs.Memories.{AreOfTheirEvents, IsMemoryRead, IsOfItsEvent, IsTextOf, WasKilled, range_asked, read, unasked}
use Rattle.pr_report_laws.specs.Shown.{LwpEvent, event_reported, event_told, picked}
use Rattle.pr_report_laws.specs.Watching.{fed_by_entry, with_exchange}

-- The memory that is reported with an event is that of the state right after the event.

-- ---- a read of memory

memory-is : (s : TracedSystem) (pid from len : ℕ) (p : TracedProcess) → live_process s pid ≡ Some p
    → of_process s pid 0 from len Mem (read_process s pid Mem) ≡ unless_none (mapped_from (space_seen s p) from len)
unfolding read_process file_reply
memory-is s pid from len p live = ap (of_process s pid 0 from len Mem) live

-- the same is read of live processes with the same memory
same-read : (s u : TracedSystem) (pid from len : ℕ) (p q : TracedProcess) → live_process s pid ≡ Some p
    → live_process u pid ≡ Some q → space_seen s p ≡ space_seen u q
    → file_read s pid 0 from len Mem ≡ file_read u pid 0 from len Mem
unfolding file_read
same-read s u pid from len p q live there same =
    ap (λ (r : Reply). cond ((len == 0) || nat_lt read_limit len) (Fail Inval) r)
    (memory-is s pid from len p live ∙ ap (λ (space : Space). unless_none (mapped_from space from len)) same
    ∙ sym (memory-is u pid from len q there))

-- ---- a history up to a place

-- what is known where truss has come to before the rest of a history
record Arrives (n k : ℕ) (o : Options) (pid : ℕ) (first : TracedState) (past rest : List Entry) : Type 1 where
  K : Type 0
  t : TrussState
  s : TracedState
  base : List LwpEvent
  along : Along K n k o pid t s (shown_tally o pid t base) rest
  links : Links k o pid first past t s base
  knows : Knows k o pid first past t s base

module _ (n k : ℕ) (o : Options) (pid : ℕ) (first : TracedState) where
  arrives : (todo rest past : List Entry) (K : Type 0) (t : TrussState) (s : TracedState) (base : List LwpEvent)
      → Along K n k o pid t s (shown_tally o pid t base) (todo ++ rest) → Links k o pid first past t s base
      → Knows k o pid first past t s base → Arrives n k o pid first (past ++ todo) rest
  arrives [] rest past K t s base g links knows =
      subst (λ es. Arrives n k o pid first es rest) (sym (append-nil past)) (record {
        K = K;
        t = t;
        s = s;
        base = base;
        along = g;
        links = links;
        knows = knows;
      })
  arrives (e ∷ todo) rest past K t s base g links knows =
      let later = shown-next K n k o pid t s base e (todo ++ rest) g in
      let holds : Holds _ k o pid (fed_by_entry k t e) (after s e)
      (shown_tally o pid (fed_by_entry k t e) (base ++ selected_of o pid t s e)) = later.holds in
      let next = makes-next k t e (todo ++ rest) g.makes in
      subst (λ es. Arrives n k o pid first es rest) (append_assoc past (e ∷ []) todo)
      (arrives todo rest (past ++ e ∷ []) _ (fed_by_entry k t e) (after s e) (base ++ selected_of o pid t s e) later
      (links-next K n k o pid first past t s base e g.holds links knows g.legal.0 next.0 holds.standing)
      (knows-next K n k o pid first past t s base e g.holds links knows g.legal.0 next.0 holds.standing))

  -- nothing has come before the first entry
  first-links : Links k o pid first [] (first_truss o) first []
  unfolding picked
  first-links = record { at = sym (no-exchanges k (first_truss o)); now = refl; all = refl }

  first-knows : Knows k o pid first [] (first_truss o) first []
  first-knows = record {
    unread =
        λ event missing. absurd (let it = first-is o pid in nothing event (missing
        ∙ ap (λ (xs : List LwpEvent). xs ++ event ∷ []) it.nothing));
    reading = λ place l from len stage mine. absurd (reads-none place l from len stage);
  }
    where
      nothing : (event : LwpEvent) → [] ≡ event ∷ [] → ⊥
      nothing event is = cc

      reads-none : (place : ℕ) (l : LwpStatus) (from len : ℕ) → (first_truss o).stage ≡ ReadingText place l from len → ⊥
      reads-none place l from len stage =
          let within : place < length (first_truss o).traced =
          subst (Fits (first_truss o).traced) stage (first-fits o) in
          omega (arith, ap (λ (ts : List Traced). length ts) (first-traced o))

-- ---- the report of the event

-- what truss has reported at the end, where it read the memory of an event on the way
module _ (k : ℕ) (o : Options) (past later : List Entry) (e : Entry) (r : Reply) (c : Call)
    (own : exchange_of k e ≡ Some (record { call = c; reply = r }))
    (fits : Fits (truss_at k o past).traced (truss_at k o past).stage) (place : ℕ) (l : LwpStatus) (from len : ℕ)
    (stage : (truss_at k o past).stage ≡ ReadingText place l from len) where
  abbrev t : TrussState
  t = truss_at k o past

  abbrev report : Report
  report = Reported (traced_at t place).pid l (text_of len (bytes_in r))

  text-reported : Grown (t.reports ++ report ∷ []) (fed t r).reports
  unfolding fed with_reply with_text_answered with_event_shown
  text-reported =
      subst (λ (u : TrussState). Grown (t.reports ++ report ∷ []) u.reports) (sym (ap (with_reply t r) stage))
      (text-grown (with_report t report) place l (answer_of r))

  last-is : truss_at k o (past ++ e ∷ later) ≡ truss_after (fed t r) (exchanges k later)
  last-is =
      ap (truss_after (first_truss o)) (exchanges-both k past (e ∷ later))
      ∙ after-append (first_truss o) (exchanges k past) (exchanges k (e ∷ later))
      ∙ after-next k t e later
      ∙ ap (λ (x : Option Exchange). truss_after (with_exchange t x) (exchanges k later)) own

  reported-then : Grown (t.reports ++ report ∷ []) (truss_at k o (past ++ e ∷ later)).reports
  reported-then =
      subst (λ (u : TrussState). Grown (t.reports ++ report ∷ []) u.reports) (sym last-is)
      (grown-all (t.reports ++ report ∷ []) (fed t r).reports (truss_after (fed t r) (exchanges k later)).reports
      text-reported (after-grown (exchanges k later) (fed t r)))

  -- so this report is of that status
  same-status : (base rest : List Report) (pid : ℕ) (m : LwpStatus) (text : Came) → t.reports ≡ base
      → (truss_at k o (past ++ e ∷ later)).reports ≡ base ++ Reported pid m text ∷ rest → l ≡ m
  same-status base rest pid m text before is =
      by (append_cancel_left base (report ∷ g.more) (Reported pid m text ∷ rest)
      (sym (append_assoc base (report ∷ []) g.more)
      ∙ ap (λ (rs : List Report). (rs ++ report ∷ []) ++ g.more) (sym before) ∙ sym g.is ∙ is))
    where
      g : Grown (t.reports ++ report ∷ []) (truss_at k o (past ++ e ∷ later)).reports
      g = reported-then

      by : report ∷ g.more ≡ Reported pid m text ∷ rest → l ≡ m
      by same = cc

-- ---- the law

-- truss reads memory only where it has to
module _ (k : ℕ) (t : TrussState) (s : TracedState) (files : HasFiles k t s) (fits : Fits t.traced t.stage)
    (handle from len : ℕ) (next : next_call_of t ≡ Some (call.Read handle from len)) (pid : ℕ) (held : Held)
    (there : handle_of s.opens k handle ≡ Some held) (of : held.pid ≡ pid) (file : held.file ≡ Mem) where
  -- the memory of an event of the process is read
  record ReadsText : Type 0 where
    place : ℕ
    status : LwpStatus
    address : ℕ
    size : ℕ
    stage : t.stage ≡ ReadingText place status address size
    mine : (traced_at t place).pid ≡ pid

  same-held : (number owner : ℕ) (f : File) (mode : Mode) → IsFileOf k s owner number f mode → number ≡ handle
      → record { controller = k; pid = owner; lwp = 0; file = f; mode = mode } ≡ held
  same-held number owner f mode its same = same_Some _ held (sym its.is ∙ ap (handle_of s.opens k) same ∙ there)

  other-file : {X : Type 0} (number owner : ℕ) (f : File) (mode : Mode) → (f ≡ Mem → ⊥)
      → IsFileOf k s owner number f mode → number ≡ handle → X
  other-file number owner f mode apart its same =
      absurd (apart (ap (λ (h : Held). h.file) (same-held number owner f mode its same) ∙ file))

  reads-text : ReadsText
  reads-text = by (next-reads t handle from len next)
    where
      by : Reads t handle → ReadsText
      by (answered.status place at same) =
          other-file _ _ Status _ (λ is. cc) (status-read k t s files fits place at) same
      by (answered.old place at same) =
          other-file _ _ Lstatus _ (λ is. cc) (opening-read k t s files fits place at) same
      by (answered.lwps at same) = other-file _ _ Lstatus _ (λ is. cc) (lwps-read k t s files fits at) same
      by (answered.memory place l address size at same) = record {
        place = place;
        status = l;
        address = address;
        size = size;
        stage = at;
        mine =
            ap (λ (h : Held). h.pid) (same-held _ _ Mem _ (memory-read k t s files fits place l address size at) same)
            ∙ of;
      }

reported-is : (pid : ℕ) (rs : List Report) → reported pid rs ≡ filter_map (event_reported pid) rs
unfolding reported
reported-is pid rs = refl

told-event : (l : LwpStatus) (event : LwpEvent) → event_told l ≡ Some event
    → (e : Event) × ((event_of l ≡ Some e) × (event ≡ record { id = l.id; event = e }))
told-event l event told = by (event_of l) refl told
  where
    by : (x : Option Event) → event_of l ≡ x
        → option_map (λ (e : Event). let it : LwpEvent = record { id = l.id; event = e } in it) x ≡ Some event
        → (e : Event) × ((event_of l ≡ Some e) × (event ≡ record { id = l.id; event = e }))
    by None is it = absurd (none-some event it)
    by (Some e) is it = (e, (is, sym (same_Some _ event it)))

-- the memory that a status asks for is what its event asks for
range-told : (o : Options) (l : LwpStatus) (event : LwpEvent) (range : ℕ × ℕ) → event_told l ≡ Some event
    → range_asked o l ≡ Some range → text_range event.event ≡ Some range
unfolding asked_range
range-told o l event range told asked =
    let ev = told-event l event told in
    ap (λ (x : LwpEvent). text_range x.event) ev.1.1
    ∙ by ev.0 o.count (sym (ap (λ (x : Option Event). option_and_then (asked_range o) x) ev.1.0) ∙ asked)
  where
    by : (e : Event) (b : Bool) → cond b None (text_range e) ≡ Some range → text_range e ≡ Some range
    by e true is = absurd (none-some range is)
    by e false is = is

module _ (n k : ℕ) (o : Options) (s : TracedState) (h : List Entry) (run : IsTrussRun n k o s h) (pid : ℕ)
    (g : Along ⊥ n k o pid (first_truss o) s (shown_tally o pid (first_truss o) []) h)
    (earlier later : List Report) (l : LwpStatus) (text : Came) (from len : ℕ)
    (reports : (truss_at k o h).reports ≡ earlier ++ Reported pid l text ∷ later)
    (asked : range_asked o l ≡ Some (from, len)) where
  memory-read-is : IsMemoryRead k o pid from len s h earlier text
  memory-read-is = by (let w = read-texts n k o s h run in w.each earlier later (Reported pid l text) reports)
    where
      by : IsTextOf k o s h earlier pid l text → IsMemoryRead k o pid from len s h earlier text
      by (unasked nothing empty) = absurd (none-some (from, len) (sym nothing ∙ asked))
      by (read address size its m) =
          subst (λ (x : ℕ × ℕ). IsMemoryRead k o pid x.0 x.1 s h earlier text)
          (same_Some (address, size) (from, len) (sym its ∙ asked)) m

  module _ (m : IsMemoryRead k o pid from len s h earlier text) where
    abbrev e : Entry
    e = call_entry k (call.Read m.handle from len) m.reply

    own : exchange_of k e ≡ Some (record { call = call.Read m.handle from len; reply = m.reply })
    own =
        ap (λ b. cond {A = Option Exchange} b
        (Some (record { call = call.Read m.handle from len; reply = m.reply })) None) (eq-eqb k k refl)

    whole : Along ⊥ n k o pid (first_truss o) s (shown_tally o pid (first_truss o) []) (m.before ++ e ∷ m.later)
    whole = subst (Along ⊥ n k o pid (first_truss o) s (shown_tally o pid (first_truss o) [])) m.is g

    arrived : Arrives n k o pid s m.before (e ∷ m.later)
    arrived =
        arrives n k o pid s m.before (e ∷ m.later) [] ⊥ (first_truss o) s [] whole (first-links n k o pid s)
        (first-knows n k o pid s)

    abbrev reached : TrussState
    reached = truss_at k o m.before

    abbrev now : TracedState
    now = state_after s m.before

    its-holds : (a : Arrives n k o pid s m.before (e ∷ m.later))
        → Knows k o pid s m.before reached now (selected_in k o pid s m.before) ×
        (HasFiles k reached now ×
        (Fits reached.traced reached.stage × (next_call_of reached ≡ Some (call.Read m.handle from len))))
    its-holds a =
        let links : Links k o pid s m.before a.t a.s a.base = a.links in
        let along : Along a.K n k o pid a.t a.s (shown_tally o pid a.t a.base) (e ∷ m.later) = a.along in
        let holds : Holds a.K k o pid a.t a.s (shown_tally o pid a.t a.base) = along.holds in
        let owns : Owns k a.t a.s = holds.owns in
        let next : MakesNext a.t (exchange_of k e) = (makes-next k a.t e m.later along.makes).0 in
        let files : HasFiles k reached now =
        subst (λ (u : TrussState). HasFiles k u now) links.at (subst (HasFiles k a.t) links.now holds.files) in
        let knows : Knows k o pid s m.before reached now (selected_in k o pid s m.before) =
        subst (λ (u : TrussState). Knows k o pid s m.before u now (selected_in k o pid s m.before)) links.at
        (subst (λ (v : TracedState). Knows k o pid s m.before a.t v (selected_in k o pid s m.before)) links.now
        (subst (Knows k o pid s m.before a.t a.s) links.all a.knows)) in
        let calls : next_call_of reached ≡ Some (call.Read m.handle from len) =
        ap next_call_of (sym links.at) ∙ subst (MakesNext a.t) own next in
        (knows, (files, (subst (λ (u : TrussState). Fits u.traced u.stage) links.at owns.fits, calls)))

    its : Knows k o pid s m.before reached now (selected_in k o pid s m.before) ×
        (HasFiles k reached now ×
        (Fits reached.traced reached.stage × (next_call_of reached ≡ Some (call.Read m.handle from len))))
    its = its-holds arrived

    text-read : ReadsText k reached now its.1.0 its.1.1.0 m.handle from len its.1.1.1 pid m.held m.there m.of m.file
    text-read = reads-text k reached now its.1.0 its.1.1.0 m.handle from len its.1.1.1 pid m.held m.there m.of m.file

    -- the memory is that of the event
    of-event : IsOfItsEvent k o pid from len s h earlier l text
    of-event = by text-read
      where
        by-memory : (q : TracedProcess) (then : TracedState) (between : List Entry)
            → live_process then.system pid ≡ Some q → q.borrower ≡ None → Stays k o pid s q then between now
            → (text ≡ text_of len (bytes_in (file_read then.system pid 0 from len Mem))) ⊎ WasKilled pid then between
        by-memory q then between lives owns (halts p live halting memory) =
            let kept : (p.borrower ≡ None) × (p.space ≡ q.space) = memory.own owns in
            let seen : space_seen now.system p ≡ space_seen then.system q =
            own-space now.system p kept.0 ∙ kept.1 ∙ sym (own-space then.system q owns) in
            let same = same-read now.system then.system pid from len p q live lives seen in
            inl (m.stood ∙ ap (λ (x : Reply). text_of len (bytes_in x)) same)
        by-memory q then between lives owns (over none killed) = inr killed

        by : ReadsText k reached now its.1.0 its.1.1.0 m.handle from len its.1.1.1 pid m.held m.there m.of m.file
            → IsOfItsEvent k o pid from len s h earlier l text
        by w =
            let same : w.status ≡ l =
            same-status k o m.before m.later e m.reply
            (call.Read m.handle from len) own its.1.1.0 w.place w.status w.address w.size w.stage earlier later pid l
            text m.reported
            (ap (λ (es : List Entry). (truss_at k o es).reports) (sym m.is) ∙ reports) in
            let knows : Knows k o pid s m.before reached now (selected_in k o pid s m.before) = its.0 in
            let r : ReadsIts k o pid s m.before reached l now =
            subst (λ (x : LwpStatus). ReadsIts k o pid s m.before reached x now) same
            (knows.reading w.place w.status w.address w.size w.stage w.mine) in
            let c : HasCome k o pid s m.before r.before r.event now = r.come in
            let ev = told-event l r.event r.tells in
            let shows : r.before ++ r.event ∷ [] ≡ reported pid earlier ++ r.event ∷ [] =
            sym r.shows
            ∙ shown-text pid reached w.place w.address w.size l (w.stage
            ∙ ap (λ (x : LwpStatus). ReadingText w.place x w.address w.size) same)
            ∙ reported-own pid (traced_at reached w.place).pid l None reached.reports ev.0 w.mine ev.1.0
            ∙ ap (λ (x : LwpEvent). reported pid reached.reports ++ x ∷ []) (sym ev.1.1)
            ∙ ap (λ (rs : List Report). reported pid rs ++ r.event ∷ []) m.reported in
            record {
              read = m;
              earlier = c.earlier;
              entry = c.entry;
              between = c.between;
              is = c.is;
              watched = c.watched;
              event = r.event;
              told = r.tells;
              came = c.came;
              in_order =
                  c.order ∙ append_cancel_right r.before (reported pid earlier) (r.event ∷ []) shows
                  ∙ reported-is pid earlier;
              process = c.process;
              lives = c.lives;
              stayed =
                  by-memory c.process (state_after s (c.earlier ++ c.entry ∷ [])) c.between c.lives
                  (c.owns (from, len) (range-told o l r.event (from, len) r.tells asked)) c.stays;
            }

  event-memory : IsOfItsEvent k o pid from len s h earlier l text
  event-memory = of-event memory-read-is

-- where truss opens the process at its birth, if it opens it as the child of a fork
born-memories : (n k : ℕ) (o : Options) (pid : ℕ) (s : TracedState) (h : List Entry)
    → IsReachedTrussRun n k o s h → OpensAtBirth k o pid s h → AreOfTheirEvents k o pid s h (truss_at k o h).reports
born-memories n k o pid s h run born =
    record {
      each = λ earlier later l text from len is asked. event-memory n k o s h run.of pid
          (shown-first n k o pid s h run born) earlier later l text from len is asked;
    }

pub lineage-memories : (n k : ℕ) (o : Options) (pid : ℕ) (s : TracedState) (h : List Entry)
    → IsReachedTrussRun n k o s h → IsLeftToTruss k o pid s h → AreOfTheirEvents k o pid s h (truss_at k o h).reports
lineage-memories n k o pid s h run left =
    born-memories n k o pid s h run (births n k o pid s h run left)

pub left-memories : (n k : ℕ) (o : Options) (pid : ℕ) (s : TracedState) (h : List Entry)
    → IsReachedTrussRun n k o s h → NamesNoChild o h → LeavesForks k o h
    → AreOfTheirEvents k o pid s h (truss_at k o h).reports
left-memories n k o pid s h run named forks =
    lineage-memories n k o pid s h run (all-left k o pid s h named forks)

pub unfollowed-memories : (n k : ℕ) (o : Options) (pid : ℕ) (s : TracedState) (h : List Entry)
    → IsReachedTrussRun n k o s h → IsNeverFollowed k o pid h → AreOfTheirEvents k o pid s h (truss_at k o h).reports
unfollowed-memories n k o pid s h run unfollowed =
    born-memories n k o pid s h run (unfollowed-births k o pid s h unfollowed)

pub birth-memories : (n k : ℕ) (o : Options) (pid : ℕ) (s : TracedState) (h : List Entry)
    → IsReachedTrussRun n k o s h → IsFollowedAtBirth k o pid s h
    → AreOfTheirEvents k o pid s h (truss_at k o h).reports
birth-memories n k o pid s h run at =
    born-memories n k o pid s h run (opens-birth k o pid s h at)

pub ruleset moments = (lineage-memories, left-memories, unfollowed-memories, birth-memories)
