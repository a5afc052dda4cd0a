use Rattle.std.proofs.Common.{◌≡◌, ◌≤◌, ◌<◌, ◌-◌, ◌++◌, ℕ, zero, suc, true, false, Option, Some, None, List, [], ◌∷◌, length, is_some, refl, sym, subst, ap, ◌∙◌, append_assoc, arith}
use Rattle.std.proofs.lemmas.Bool.{eq-eqb, false≢true}
use Rattle.std.proofs.lemmas.List.{append-nil}
use Rattle.std.proofs.lemmas.Option.{none-some, same_Some}
use Rattle.std.specs.List.{slice_get}
use Rattle.std.specs.Option.{option_and_then, option_map}
use Rattle.pr_line.specs.Events.{event_of}
use Rattle.pr_line.specs.declared.events.Event.{Event}
use Rattle.pr_line.specs.declared.options.Options.{Options}
use Rattle.pr_model.proofs.HistoryLemmas.{state_after-push}
use Rattle.pr_model.specs.Handles.{handle_of}
use Rattle.pr_model.specs.Legal.{after, state_after}
use Rattle.pr_model.specs.Replies.{bytes_in, number_of}
use Rattle.pr_model.specs.State.{TracedState}
use Rattle.pr_model.specs.declared.calls.Call.TheVariants as call
use Rattle.pr_model.specs.declared.calls.File.{File}
use Rattle.pr_model.specs.declared.calls.File.TheVariants as file
use Rattle.pr_model.specs.declared.calls.Reply.{Reply}
use Rattle.pr_model.specs.declared.calls.Reply.TheVariants as reply
use Rattle.pr_model.specs.declared.events.Entry.{Entry}
use Rattle.pr_model.specs.declared.handles.Held.{Held}
use Rattle.pr_rec.specs.declared.lwps.LwpStatus.{LwpStatus}
use Rattle.pr_truss.specs.Feeding.{fed, with_reply}
use Rattle.pr_truss.specs.NextCalls.{call_of, next_call_of, opening_call, read_record}
use Rattle.pr_truss.specs.Records.{event_stops, is_on_event, status_lwp}
use Rattle.pr_truss.specs.Replies.{answer_of}
use Rattle.pr_truss.specs.Stops.{with_lwps_answered, with_status_answered, with_stop, with_stop_read}
use Rattle.pr_truss.specs.Trusses.{TrussState, traced_at}
use Rattle.pr_truss.specs.declared.processes.Traced.{Traced}
use Rattle.pr_truss.specs.declared.replies.Answer.TheVariants.{Accepted}
use Rattle.pr_truss.specs.declared.stages.OpeningStep.{OpeningStep}
use Rattle.pr_truss.specs.declared.stages.OpeningStep.TheVariants as opening
use Rattle.pr_truss.specs.declared.stages.Stage.{Stage}
use Rattle.pr_truss.specs.declared.stages.Stage.TheVariants.{Spawning, OpeningControl, Opening, Polling, ReadingStatus, ReadingText, OpeningChildControl, OpeningChild, Running, Closing, Unfollowing, ReadingLwps, FreeingChild, Finished}
use Rattle.pr_truss_laws.proofs.Files.HeldLemmas.{Fits}
use Rattle.pr_truss_laws.proofs.Files.OwnLemmas.{Owns}
use Rattle.pr_truss_laws.specs.Exchanges.{Exchange, exchange_of, truss_at}
use Rattle.pr_truss_laws.specs.Runs.{IsTrussRun}
use Rattle.pr_report_laws.proofs.Files.FileLaws.{HasFiles, IsFileOf}
use Rattle.pr_report_laws.proofs.Files.FileSteps.{MakesNext}
use Rattle.pr_report_laws.proofs.Files.FileUses as uses
use Rattle.pr_report_laws.proofs.Files.FileUses.{place-is, standing}
use Rattle.pr_report_laws.proofs.Files.WatchHistories.{Reaches, run-front, run-next, run-reaches, truss_at-push}
use Rattle.pr_report_laws.proofs.Holding.HoldPlaces.{keeps-rest, keeps-still, more-run, one-run}
use Rattle.pr_report_laws.proofs.Invariant.StandLemmas.{Stands}
use Rattle.pr_report_laws.proofs.Reading.NewReads.{call-is, reads-file}
use Rattle.pr_report_laws.proofs.Replies.NewStops.{told-event}
use Rattle.pr_report_laws.proofs.Replies.StopsRead.{stop-event, stop-old, stop_read-over}
use Rattle.pr_report_laws.proofs.Replies.WatchedPlaces.{IsWatched, StandOnce, watched-place}
use Rattle.pr_report_laws.proofs.ToldForks.OldStops as old
use Rattle.pr_report_laws.proofs.ToldForks.OldStops.{AllLeft, Leaves, ReadsAt, ReadsOld, at_lwps, at_status, fed-left, one-place}
use Rattle.pr_report_laws.proofs.Watching.LeftReads.{child-reads, freeing-reads}
use Rattle.pr_report_laws.specs.Attachments.{ReadsFile}
use Rattle.pr_report_laws.specs.Holds.{KeepsHold}
use Rattle.pr_report_laws.specs.Reads.{AreRead, ReadsEvent, by_lwps, by_status, later, none, now}
use Rattle.pr_report_laws.specs.Shown.{LwpEvent, event_told}
use Rattle.pr_report_laws.specs.Watching.{is_away, place_of, watches, with_exchange}

-- How many old stops are left of a process while truss has hold of it: each read that tells of an event of it makes one
-- less, and nothing else does.

-- ---- an event that an lwp stands on

pub record StandsOn (l : LwpStatus) : Type 0 where
  pub event : Event
  pub is : event_of l ≡ Some event

pub stands-on : (l : LwpStatus) → is_on_event l ≡ true → StandsOn l
unfolding is_on_event
stands-on l on = by (event_of l) refl on
  where
    by : (x : Option Event) → event_of l ≡ x → is_some x ≡ true → StandsOn l
    by None is off = absurd (false≢true off)
    by (Some e) is some = record { event = e; is = is }

pub told-on : (l : LwpStatus) (event : LwpEvent) → event_told l ≡ Some event → is_on_event l ≡ true
unfolding is_on_event
told-on l event told = by (event_of l) refl
  where
    by : (x : Option Event) → event_of l ≡ x → is_some x ≡ true
    by None is =
        let f : Event → LwpEvent = λ e. record { id = l.id; event = e } in
        absurd (none-some event (sym (ap (option_map f) is) ∙ told))
    by (Some e) is = refl

-- ---- which file a read is of

opening-reads : (o : Options) (u : Traced) (step : OpeningStep) (handle from len : ℕ)
    → opening_call o u step ≡ call.Read handle from len
    → (step ≡ opening.ReadLwps) × (number_of u.lstatus ≡ handle)
unfolding opening_call
opening-reads o u opening.ReadLwps handle from len is = (refl, cc)
opening-reads o u opening.OpenStatus handle from len is = cc
opening-reads o u _ handle from len is = cc

-- the stages that read
pub data ReadsBy (t : TrussState) (handle : ℕ) (stage : Stage) : Type 0 where
  look : (place : ℕ) → stage ≡ Opening place opening.ReadLwps → number_of (traced_at t place).lstatus ≡ handle
      → ReadsBy t handle stage
  status : (place : ℕ) → stage ≡ ReadingStatus place → number_of (traced_at t place).status ≡ handle
      → ReadsBy t handle stage
  text : (place : ℕ) (l : LwpStatus) (from len : ℕ) → stage ≡ ReadingText place l from len
      → number_of (traced_at t place).memory ≡ handle → ReadsBy t handle stage
  lwps : stage ≡ ReadingLwps → number_of (traced_at t 0).lstatus ≡ handle → ReadsBy t handle stage

module _ (t : TrussState) (handle from len : ℕ) where
  same-handle : {a b c : ℕ} → Some (call.Read a b c) ≡ Some (call.Read handle from len) → a ≡ handle
  same-handle is = cc

  stage-reads : (stage : Stage) → call_of t stage ≡ Some (call.Read handle from len) → ReadsBy t handle stage
  unfolding call_of
  stage-reads (Opening place step) is =
      let w = opening-reads t.options (traced_at t place) step handle from len (same_Some _ _ is) in
      look place (ap (λ n. Opening place n) w.0) w.1
  stage-reads (ReadingStatus place) is = status place refl (same-handle is)
  stage-reads (ReadingText place l at size) is = text place l at size refl (same-handle is)
  stage-reads ReadingLwps is = lwps refl (same-handle is)
  stage-reads (Spawning program) is = cc
  stage-reads (OpeningControl pid) is = cc
  stage-reads Polling is = cc
  stage-reads (OpeningChildControl parent pid) is = cc
  stage-reads (OpeningChild parent place step) is =
      absurd (child-reads (traced_at t place) step handle from len (same_Some _ _ is))
  stage-reads (Running place) is = cc
  stage-reads (Closing place next) is = cc
  stage-reads Unfollowing is = cc
  stage-reads (FreeingChild pid step) is =
      absurd (freeing-reads pid step handle from len (same_Some _ _ is))
  stage-reads Finished is = cc

  pub next-reads : next_call_of t ≡ Some (call.Read handle from len) → ReadsBy t handle t.stage
  unfolding next_call_of
  next-reads is = stage-reads t.stage is

-- ---- truss and its state

module _ (k pid : ℕ) (t : TrussState) (s : TracedState) (g : Reaches k t s) where
  files : HasFiles k t s
  files = g.files

  pub once : StandOnce t
  once = let f = files in f.one

  pub fits : Fits t.traced t.stage
  fits = let owns : Owns k t s = g.owns in owns.fits

  -- ---- the read of a file, by its entry

  module _ (e : Entry) (next : MakesNext t (exchange_of k e)) (f : File) (r : ReadsFile k pid f s e) where
    abbrev pub read_exchange : Exchange
    read_exchange = record { call = call.Read r.handle r.from r.len; reply = reply.Bytes r.bytes }

    calls : next_call_of t ≡ Some (call.Read r.handle r.from r.len)
    calls = subst (MakesNext t) r.is next

    its-file : (of number : ℕ) (other : File) (mode : _) → IsFileOf k s of number other mode → number ≡ r.handle
        → (other ≡ f) × (of ≡ pid)
    its-file of number other mode its same =
        let held : Held = record { controller = k; pid = of; lwp = 0; file = other; mode = mode } in
        let is : held ≡ r.held =
        same_Some held r.held (sym its.is ∙ ap (λ m. handle_of s.opens k m) same ∙ r.there) in
        (ap (λ (h : Held). h.file) is ∙ r.file, ap (λ (h : Held). h.pid) is ∙ r.of)

    -- the status of a process is read at one stage alone
    pub status-stage : f ≡ file.Status → (place : ℕ) ×
        ((t.stage ≡ ReadingStatus place) × ((traced_at t place).pid ≡ pid))
    status-stage its = by (next-reads t r.handle r.from r.len calls)
      where
        by : ReadsBy t r.handle t.stage → (place : ℕ) ×
            ((t.stage ≡ ReadingStatus place) × ((traced_at t place).pid ≡ pid))
        by (look place is same) =
            let w = its-file _ _ file.Lstatus _ (uses.opening-read k t s files fits place is) same in
            absurd (let clash : file.Lstatus ≡ file.Status = w.0 ∙ its in cc)
        by (status place is same) =
            let w = its-file _ _ file.Status _ (uses.status-read k t s files fits place is) same in
            (place, (is, w.1))
        by (text place l from len is same) =
            let w = its-file _ _ file.Mem _ (uses.memory-read k t s files fits place l from len is) same in
            absurd (let clash : file.Mem ≡ file.Status = w.0 ∙ its in cc)
        by (lwps is same) =
            let w = its-file _ _ file.Lstatus _ (uses.lwps-read k t s files fits is) same in
            absurd (let clash : file.Lstatus ≡ file.Status = w.0 ∙ its in cc)

    -- the statuses of its lwps, once truss watches it, where truss leaves it
    pub lwps-stage : f ≡ file.Lstatus → watches t pid ≡ true
        → (t.stage ≡ ReadingLwps) × ((traced_at t 0).pid ≡ pid)
    lwps-stage its on = by (next-reads t r.handle r.from r.len calls)
      where
        by : ReadsBy t r.handle t.stage → (t.stage ≡ ReadingLwps) × ((traced_at t 0).pid ≡ pid)
        by (look place is same) =
            let w = its-file _ _ file.Lstatus _ (uses.opening-read k t s files fits place is) same in
            let p = watched-place t pid on in
            let i : IsWatched t pid p.0 = p.1 in
            let f : Fits t.traced (Opening place opening.ReadLwps) = subst (Fits t.traced) is fits in
            let at : p.0 ≡ place = one-place t once p.0 place i.within f.0 (i.of ∙ sym w.1) in
            absurd (false≢true (sym i.here ∙ ap (is_away t.leaving t.stage) at
            ∙ ap (λ x. is_away t.leaving x place) is ∙ eq-eqb place place refl))
        by (status place is same) =
            let w = its-file _ _ file.Status _ (uses.status-read k t s files fits place is) same in
            absurd (let clash : file.Status ≡ file.Lstatus = w.0 ∙ its in cc)
        by (text place l from len is same) =
            let w = its-file _ _ file.Mem _ (uses.memory-read k t s files fits place l from len is) same in
            absurd (let clash : file.Mem ≡ file.Lstatus = w.0 ∙ its in cc)
        by (lwps is same) =
            let w = its-file _ _ file.Lstatus _ (uses.lwps-read k t s files fits is) same in
            (is, w.1)

  -- ---- the read of a file, by the stage

  -- an entry reads a file, with the bytes of this reply
  pub record IsReadOf (e : Entry) (f : File) (r : Reply) : Type 0 where
    pub read : ReadsFile k pid f s e
    pub same : bytes_in r ≡ Some read.bytes

  module _ (e : Entry) (x : Exchange) (own : exchange_of k e ≡ Some x) (next : next_call_of t ≡ Some x.call) where
    status-of : (event : LwpEvent) (place : ℕ) → t.stage ≡ ReadingStatus place → (traced_at t place).pid ≡ pid
        → (bytes : Option (List ℕ)) → bytes_in x.reply ≡ bytes → (l : LwpStatus)
        → option_and_then status_lwp bytes ≡ Some l → IsReadOf e file.Status x.reply
    unfolding call_of reads-file
    status-of event place is of None got l told = absurd (none-some l told)
    status-of event place is of (Some bytes) got l told =
        let f = uses.status-read k t s files fits place is in
        record {
          read =
              reads-file k pid t s e g x own next event file.Status (traced_at t place).pid
              (number_of (traced_at t place).status) f.is of
              (call-is k pid t s e g x own next event (ReadingStatus place) (read_record (traced_at t place).status)
              is refl) bytes got;
          same = got;
        }

    no-stops : slice_get (event_stops None) 0 ≡ None
    unfolding event_stops
    no-stops = refl

    lwps-of : (event : LwpEvent) → t.stage ≡ ReadingLwps → (traced_at t 0).pid ≡ pid
        → (bytes : Option (List ℕ)) → bytes_in x.reply ≡ bytes → (l : LwpStatus)
        → slice_get (event_stops bytes) 0 ≡ Some l → IsReadOf e file.Lstatus x.reply
    unfolding call_of reads-file
    lwps-of event is of None got l told = absurd (none-some l (sym no-stops ∙ told))
    lwps-of event is of (Some bytes) got l told =
        let f = uses.lwps-read k t s files fits is in
        record {
          read =
              reads-file k pid t s e g x own next event file.Lstatus (traced_at t 0).pid
              (number_of (traced_at t 0).lstatus) f.is of
              (call-is k pid t s e g x own next event ReadingLwps (read_record (traced_at t 0).lstatus) is refl) bytes
              got;
          same = got;
        }

    pub reads-event : (place : ℕ) (l : LwpStatus) → ReadsAt t x.reply place l → (traced_at t place).pid ≡ pid
        → (on : StandsOn l) → ReadsEvent k pid s e (record { id = l.id; event = on.event })
    reads-event place l (at_status is told) of on =
        let event : LwpEvent = record { id = l.id; event = on.event } in
        let w = status-of event place is of (bytes_in x.reply) refl l told in
        by_status (record {
          read = w.read;
          lwp = l;
          tells = sym (ap (option_and_then status_lwp) w.same) ∙ told;
          on = told-event l l.id on.event on.is refl;
        })
    reads-event place l (at_lwps is first told) of on =
        let event : LwpEvent = record { id = l.id; event = on.event } in
        let w = lwps-of event is (ap (λ q. (traced_at t q).pid) (sym first) ∙ of) (bytes_in x.reply) refl l told in
        by_lwps (record {
          read = w.read;
          lwp = l;
          first = sym (ap (λ (b : Option (List ℕ)). slice_get (event_stops b) 0) w.same) ∙ told;
          on = told-event l l.id on.event on.is refl;
        })

    pub reads-status : (place : ℕ) → t.stage ≡ ReadingStatus place → (traced_at t place).pid ≡ pid → (l : LwpStatus)
        → option_and_then status_lwp (bytes_in x.reply) ≡ Some l → StandsOn l → IsReadOf e file.Status x.reply
    reads-status place is of l told on =
        status-of (record { id = l.id; event = on.event }) place is of (bytes_in x.reply) refl l told

    pub reads-lwps : t.stage ≡ ReadingLwps → (traced_at t 0).pid ≡ pid → (l : LwpStatus)
        → slice_get (event_stops (bytes_in x.reply)) 0 ≡ Some l → StandsOn l → IsReadOf e file.Lstatus x.reply
    reads-lwps is of l told on =
        lwps-of (record { id = l.id; event = on.event }) is of (bytes_in x.reply) refl l told

  -- ---- a read that tells of an event leaves one old stop less

  module _ (r : Reply) (accepted : answer_of r ≡ Accepted) (place : ℕ) (l : LwpStatus) (on : StandsOn l) where
    stop-fed : ReadsAt t r place l → fed t r ≡ with_stop t place l
    unfolding fed with_reply with_status_answered with_lwps_answered
    stop-fed (at_status is told) =
        ap (with_reply t r) is ∙ ap (with_status_answered t place r) accepted ∙ ap (with_stop_read t place) told
    stop-fed (at_lwps is first told) =
        ap (with_reply t r) is ∙ ap (with_lwps_answered t r) accepted ∙ ap (with_stop_read t 0) told
        ∙ ap (λ q. with_stop t q l) (sym first)

    first-place : ReadsAt t r place l → t.leaving ≡ true → place ≡ 0
    first-place (at_status is told) leaves =
        let w : Stands t.traced t.leaving (ReadingStatus place) = standing k t s (ReadingStatus place) files is in
        absurd (false≢true (sym w.leaves ∙ leaves))
    first-place (at_lwps is first told) leaves = first

    place-fits : ReadsAt t r place l → place < length t.traced
    place-fits (at_status is told) = subst (Fits t.traced) is fits
    place-fits (at_lwps is first told) =
        subst (λ q. q < length t.traced) (sym first) (subst (Fits t.traced) is fits)

    stop-left : (within : place < length t.traced) → is_on_event l ≡ true → (traced_at t place).seen ≡ false → (m : ℕ)
        → (traced_at t place).old ≡ m → (traced_at (with_stop t place l) place).old ≡ m - 1
    stop-left within stands unseen zero old = stop-event t place within l on.event on.is old unseen
    stop-left within stands unseen (suc m) old = stop-old t place within l m stands old ∙ omega arith

    pub read-left : (m : ℕ) → ReadsAt t r place l → (traced_at t place).pid ≡ pid → watches t pid ≡ true
        → is_on_event l ≡ true → StandOnce (fed t r) → AllLeft pid m t.traced → AllLeft pid (m - 1) (fed t r).traced
    read-left m reads of watched stands again all q inside own =
        let within = place-fits reads in
        let p = watched-place t pid watched in
        let i : IsWatched t pid p.0 = p.1 in
        let at : p.0 ≡ place = one-place t once p.0 place i.within within (i.of ∙ sym of) in
        let f : HasFiles k t s = files in
        let unseen : (traced_at t place).seen ≡ false =
        f.unseen place within (subst (λ z. (traced_at t z).attached ≡ true) at i.attached) in
        let v : TrussState = fed t r in
        let is : v ≡ with_stop t place l = stop-fed reads in
        let over = stop_read-over t place within (first-place reads) (Some l) in
        let there : place_of v pid ≡ Some place =
        ap (λ (z : TrussState). place_of z pid) is ∙ over.places pid
        ∙ subst (λ z. place_of t z ≡ Some place) of (once place within) in
        let mine : place_of v pid ≡ Some q = subst (λ z. place_of v z ≡ Some q) own (again q inside) in
        let same : q ≡ place = same_Some q place (sym mine ∙ there) in
        ap (λ z. (traced_at v z).old) same ∙ ap (λ (z : TrussState). (traced_at z place).old) is
        ∙ stop-left within stands unseen m (all place within of)

-- ---- along a history

module _ (n k : ℕ) (o : Options) (pid : ℕ) (s : TracedState) where
  abbrev Run : List Entry → Type 0
  Run h = IsTrussRun n k o s h

  abbrev On : List Entry → Type 0
  On h = watches (truss_at k o h) pid ≡ true

  abbrev Left : ℕ → List Entry → Type 0
  Left m h = AllLeft pid m (truss_at k o h).traced

  -- the entry leaves as many as there were, or it reads an event, and one less is left
  data Then (m : ℕ) (before : List Entry) (e : Entry) : Type 0 where
    as_many : Left m (before ++ e ∷ []) → Then m before e
    one_less : (event : LwpEvent) (left : ℕ) → ReadsEvent k pid (state_after s before) e event → m ≡ suc left
        → Left left (before ++ e ∷ []) → Then m before e

  module _ (before : List Entry) (e : Entry) (run : Run (before ++ e ∷ [])) (on : On before) where
    reached : Reaches k (truss_at k o before) (state_after s before)
    reached = run-reaches n k o s before (run-front n k o s before e run)

    next-once : StandOnce (truss_at k o (before ++ e ∷ []))
    next-once = once k pid (truss_at k o (before ++ e ∷ [])) _ (run-reaches n k o s (before ++ e ∷ []) run)

    then-is : (x : Option Exchange) → exchange_of k e ≡ x
        → truss_at k o (before ++ e ∷ []) ≡ with_exchange (truss_at k o before) x
    then-is x its = truss_at-push k o before e ∙ ap (with_exchange (truss_at k o before)) its

    then-left : (m : ℕ) → Left m before → Then m before e
    then-left m all = by (exchange_of k e) refl
      where
        by : (x : Option Exchange) → exchange_of k e ≡ x → Then m before e
        by None its = as_many (subst (λ (z : TrussState). AllLeft pid m z.traced) (sym (then-is None its)) all)
        by (Some x) its =
            let t : TrussState = truss_at k o before in
            let is : truss_at k o (before ++ e ∷ []) ≡ fed t x.reply = then-is (Some x) its in
            let w = watched-place t pid on in
            from (fed-left t x.reply pid m w.0 (once k pid t _ reached) w.1 all (fits k pid t _ reached)
            (subst StandOnce is next-once))
          where
            from : Leaves (truss_at k o before) x.reply pid m (fed (truss_at k o before) x.reply).traced
                → Then m before e
            from (old.as_many rest) =
                as_many (subst (λ (z : TrussState). AllLeft pid m z.traced) (sym (then-is (Some x) its)) rest)
            from (old.one_less d) =
                let c : ReadsOld (truss_at k o before) x.reply pid m _ = d in
                let l = stands-on c.lwp c.event in
                one_less (record { id = c.lwp.id; event = l.event }) c.left
                (reads-event k pid (truss_at k o before) (state_after s before) reached e x its
                (subst (MakesNext (truss_at k o before)) its (run-next n k o s before e run)) c.place c.lwp c.reads c.of
                l) c.was (subst (λ (z : TrussState). AllLeft pid c.left z.traced) (sym (then-is (Some x) its)) c.less)

    -- where the entry reads an event
    bytes-accepted : (bytes : List ℕ) → answer_of (reply.Bytes bytes) ≡ Accepted
    unfolding answer_of
    bytes-accepted bytes = refl

    one-read : (m : ℕ) (event : LwpEvent) → ReadsEvent k pid (state_after s before) e event → Left m before
        → Left (m - 1) (before ++ e ∷ [])
    unfolding bytes_in
    one-read m event (by_status w) all =
        let t : TrussState = truss_at k o before in
        let at = status-stage k pid t _ reached e (run-next n k o s before e run) file.Status w.read refl in
        let stands = told-on w.lwp event w.on in
        let is = then-is (Some _) w.read.is in
        subst (λ (z : TrussState). AllLeft pid (m - 1) z.traced) (sym is)
        (read-left k pid t _ reached (reply.Bytes w.read.bytes) (bytes-accepted w.read.bytes) at.0 w.lwp
        (stands-on w.lwp stands) m (at_status at.1.0 w.tells) at.1.1 on stands (subst StandOnce is next-once) all)
    one-read m event (by_lwps w) all =
        let t : TrussState = truss_at k o before in
        let at = lwps-stage k pid t _ reached e (run-next n k o s before e run) file.Lstatus w.read refl on in
        let stands = told-on w.lwp event w.on in
        let is = then-is (Some _) w.read.is in
        subst (λ (z : TrussState). AllLeft pid (m - 1) z.traced) (sym is)
        (read-left k pid t _ reached (reply.Bytes w.read.bytes) (bytes-accepted w.read.bytes) 0 w.lwp
        (stands-on w.lwp stands) m (at_lwps at.0 refl w.first) at.1 on stands (subst StandOnce is next-once) all)

  -- ---- so many reads leave none

  none-along : (hold before : List Entry) (m : ℕ) (events : List LwpEvent) → Run (before ++ hold) → On before
      → KeepsHold k pid s before hold → Left m before → (v : TracedState) → state_after s before ≡ v
      → AreRead k pid v hold events → m ≤ length events → Left 0 (before ++ hold)
  none-along [] before m [] run on keeps all v is none few =
      let zero_left : m ≡ 0 = omega (arith, few) in
      subst (Left 0) (sym (append-nil before)) (subst (λ z. Left z before) zero_left all)
  none-along [] before m (event ∷ events) run on keeps all v is reads few = elim reads [ ]
  none-along (e ∷ hold) before m events run on keeps all v is (later rest) few =
      by (then-left before e (one-run n k o pid s before hold e run) on m all)
      (λ left some enough.
      subst (Left 0) (append_assoc before (e ∷ []) hold)
      (none-along hold (before ++ e ∷ []) left events (more-run n k o pid s before hold e run)
      (keeps-still n k o pid s before hold e run on keeps) (keeps-rest n k o pid s before hold e keeps) some
      (after v e) (state_after-push s before e ∙ ap (λ (u : TracedState). after u e) is) rest enough))
    where
      by : Then m before e → ((left : ℕ) → Left left (before ++ e ∷ []) → left ≤ length events → Left 0
          (before ++ e ∷ hold)) → Left 0 (before ++ e ∷ hold)
      by (as_many same) go = go m same few
      by (one_less event left reads was less) go = go left less (omega (arith, few, was))
  none-along (e ∷ hold) before m (event ∷ events) run on keeps all v is (now reads rest) few =
      let here : ReadsEvent k pid (state_after s before) e event =
      subst (λ (u : TracedState). ReadsEvent k pid u e event) (sym is) reads in
      subst (Left 0) (append_assoc before (e ∷ []) hold)
      (none-along hold (before ++ e ∷ []) (m - 1) events (more-run n k o pid s before hold e run)
      (keeps-still n k o pid s before hold e run on keeps) (keeps-rest n k o pid s before hold e keeps)
      (one-read before e (one-run n k o pid s before hold e run) on m event here all) (after v e)
      (state_after-push s before e ∙ ap (λ (u : TracedState). after u e) is) rest (omega (arith, few)))

  pub none-left : (hold before : List Entry) (m : ℕ) (events : List LwpEvent) → Run (before ++ hold) → On before
      → KeepsHold k pid s before hold → Left m before → AreRead k pid (state_after s before) hold events
      → m ≤ length events → Left 0 (before ++ hold)
  none-left hold before m events run on keeps all reads few =
      none-along hold before m events run on keeps all (state_after s before) refl reads few

  -- ---- where none is left, there were so many reads

  pub record HasRead (m : ℕ) (hold before : List Entry) : Type 0 where
    pub events : List LwpEvent
    pub read : AreRead k pid (state_after s before) hold events
    pub enough : m ≤ length events

  pub reads-since : (hold before : List Entry) (m : ℕ) → Run (before ++ hold) → On before
      → KeepsHold k pid s before hold → Left m before → Left 0 (before ++ hold) → HasRead m hold before
  reads-since [] before m run on keeps all last =
      let w = watched-place (truss_at k o before) pid on in
      let i : IsWatched (truss_at k o before) pid w.0 = w.1 in
      let end : Left 0 before = subst (Left 0) (append-nil before) last in
      record {
        events = [];
        read = none;
        enough = omega (arith, all w.0 i.within i.of, end w.0 i.within i.of);
      }
  reads-since (e ∷ hold) before m run on keeps all last =
      by (then-left before e (one-run n k o pid s before hold e run) on m all)
      (λ left some.
      reads-since hold (before ++ e ∷ []) left (more-run n k o pid s before hold e run)
      (keeps-still n k o pid s before hold e run on keeps) (keeps-rest n k o pid s before hold e keeps) some
      (subst (Left 0) (sym (append_assoc before (e ∷ []) hold)) last))
    where
      state-on : (events : List LwpEvent) → AreRead k pid (state_after s (before ++ e ∷ [])) hold events
          → AreRead k pid (after (state_after s before) e) hold events
      state-on events reads =
          subst (λ (u : TracedState). AreRead k pid u hold events) (state_after-push s before e) reads

      by : Then m before e → ((left : ℕ) → Left left (before ++ e ∷ []) → HasRead left hold (before ++ e ∷ []))
          → HasRead m (e ∷ hold) before
      by (as_many same) rest = let d = rest m same in record {
        events = d.events;
        read = later (state-on d.events d.read);
        enough = d.enough;
      }
      by (one_less event left reads was less) rest = let d = rest left less in record {
        events = event ∷ d.events;
        read = now reads (state-on d.events d.read);
        enough = omega (arith, was, d.enough);
      }
