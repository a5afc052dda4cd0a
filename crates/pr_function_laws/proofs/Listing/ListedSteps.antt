use Rattle.std.proofs.Common.{◌≡◌, ◌≢◌, ◌<◌, ◌==◌, ◌++◌, nat_lt, not, ℕ, zero, suc, true, false, cond, Option, Some, None, List, [], ◌∷◌, length, position, append-nil, append_assoc, refl, sym, subst, ap, ◌∙◌, arith, inl, inr}
use Rattle.std.proofs.lemmas.Bool.{cases_eq, eq-eqb, false≢true, lt-ltb, ne_eqb}
use Rattle.std.proofs.lemmas.List.{length-map}
use Rattle.std.proofs.lemmas.List.Sums.{position_or_len_is}
use Rattle.std.specs.List.{cons_option, position_or_len}
use Rattle.std.specs.Option.{option_and_then}
use Rattle.pr_line.specs.Events.{event_of}
use Rattle.pr_line.specs.Selections.{is_selected}
use Rattle.pr_line.specs.declared.options.Options.{Options}
use Rattle.pr_model.specs.Legal.{after, state_after}
use Rattle.pr_model.specs.Replies.{bytes_in}
use Rattle.pr_model.specs.State.{TracedState}
use Rattle.pr_model.specs.declared.calls.Reply.{Reply}
use Rattle.pr_model.specs.declared.events.Entry.{Entry}
use Rattle.pr_rec.specs.declared.lwps.LwpStatus.{LwpStatus}
use Rattle.pr_report_laws.proofs.Files.FileLaws.{HasFiles}
use Rattle.pr_report_laws.proofs.Files.FileUses.{standing}
use Rattle.pr_report_laws.proofs.Files.WatchHistories.{Reaches, cons-exchanges, no-exchanges}
use Rattle.pr_report_laws.proofs.Invariant.OtherSteps.{is-watched}
use Rattle.pr_report_laws.proofs.Invariant.StandLemmas.{IsAttached, RestBut, Rests, Stands, busy, rest-stays}
use Rattle.pr_report_laws.proofs.Invariant.Tallies.{told_in}
use Rattle.pr_report_laws.proofs.Replies.NewStops.{new-old, new-other, new-own, new_of, read-is, read_at}
use Rattle.pr_report_laws.specs.Positions.{if_in}
use Rattle.pr_report_laws.specs.Shown.{LwpEvent, shown}
use Rattle.pr_report_laws.specs.Watching.{is_away, is_of, place_of, watches}
use Rattle.pr_truss.specs.Asides.{marks_at}
use Rattle.pr_truss.specs.Records.{status_lwp}
use Rattle.pr_truss.specs.Trusses.{TrussState, nobody, traced_at}
use Rattle.pr_truss.specs.declared.processes.Traced.{Traced}
use Rattle.pr_truss.specs.declared.stages.AfterClosing.TheVariants.{OpenNext, GoOn}
use Rattle.pr_truss.specs.declared.stages.Stage.{Stage}
use Rattle.pr_truss.specs.declared.stages.Stage.TheVariants.{Spawning, OpeningControl, Opening, Polling, ReadingStatus, ReadingText, Running, Closing, ReadingLwps, Finished}
use Rattle.pr_truss_laws.proofs.Files.HeldLemmas.{at_place}
use Rattle.pr_truss_laws.proofs.Files.OwnLemmas.{Owns}
use Rattle.pr_truss_laws.specs.Exchanges.{Exchange, exchange_of, exchanges}
use Rattle.pr_truss_laws.specs.Sent.{sends}
use Rattle.pr_function_laws.proofs.Listing.ListedReads as reads
use Rattle.pr_function_laws.proofs.Marks.KeptPlaces.{Apart, AtStage, Kept, Position, apart-at}
use Rattle.pr_function_laws.proofs.OrdinaryTruss.OrdinaryFiles.{Follows, run-halfway}
use Rattle.pr_function_laws.proofs.OrdinaryTruss.OrdinaryReplies.{at-ordinary}
use Rattle.pr_function_laws.proofs.OrdinaryTruss.OrdinaryRows.{no-status}
use Rattle.pr_function_laws.proofs.OrdinaryTruss.OrdinaryStops.{FitsAside}
use Rattle.pr_function_laws.proofs.OrdinaryTruss.OrdinaryShown.{ShownStep, as_before, as_like, shown-step}
use Rattle.pr_function_laws.proofs.Pending.PendingPlaces.{IsSame, Pends}
use Rattle.pr_function_laws.proofs.Pending.PendingWalk.{is_to_run}
use Rattle.pr_function_laws.proofs.Listing.RestPlaces.{RestsAt}
use Rattle.pr_function_laws.specs.ListedEvents.{events_to_show, is_to_show, to_show_in}
use Rattle.pr_function_laws.specs.Opened.{IsFunctionRun, functions_at, is_opened}
use Rattle.pr_function_laws.specs.Ordinary.{unmarked, OwnFaultRead, SeesTo, ordinary}
use Rattle.pr_function_laws.specs.Runs.{functions_after, functions_on}

-- What truss with calls of functions is to show of events, and what it shows of them, entry by entry.

-- ---- one entry more

after-first : (t : TrussState) (x : Option Exchange) (xs : List Exchange)
    → functions_after t (cons_option x xs) ≡ functions_after (functions_on t x) xs
after-first t None xs = refl
after-first t (Some x) xs = refl

pub events-push : (k pid : ℕ) (front : List Entry) (t : TrussState) (s : TracedState) (e : Entry)
    → events_to_show k pid t s (front ++ e ∷ [])
    ≡ events_to_show k pid t s front
    ++ to_show_in (functions_after t (exchanges k front)) (state_after s front) pid e
unfolding events_to_show
events-push k pid [] t s e =
    append-nil (to_show_in t s pid e)
    ∙ ap (λ u. to_show_in u s pid e) (ap (functions_after t) (sym (no-exchanges k)))
events-push k pid (x ∷ front) t s e =
    ap (λ es. to_show_in t s pid x ++ es)
    (events-push k pid front (functions_on t (exchange_of k x)) (after s x) e
    ∙ ap (λ u. events_to_show k pid (functions_on t (exchange_of k x)) (after s x) front
    ++ to_show_in u (state_after (after s x) front) pid e)
    (sym (ap (functions_after t) (cons-exchanges k x front)
    ∙ after-first t (exchange_of k x) (exchanges k front))))
    ∙ sym (append_assoc (to_show_in t s pid x)
    (events_to_show k pid (functions_on t (exchange_of k x)) (after s x) front)
    (to_show_in (functions_after t (exchanges k (x ∷ front))) (state_after (after s x) front) pid e))

pub no-events-yet : (k pid : ℕ) (t : TrussState) (s : TracedState) → events_to_show k pid t s [] ≡ []
unfolding events_to_show
no-events-yet k pid t s = refl

-- ---- a process that rests

-- the place of a process of which truss has one record
pub place-of : (pid : ℕ) (ts : List Traced) (place : ℕ) → Apart ts → place < length ts → (at_place ts place).pid ≡ pid
    → position (is_of pid) ts ≡ Some place
place-of pid ts place apart within own =
    let here : position_or_len (is_of pid) ts ≡ place =
    position_or_len_is (is_of pid) ts place nobody (omega (arith, within))
    (λ j less. ne_eqb (at_place ts j).pid pid (λ same.
    apart-at ts j place (omega (arith, less, within)) within (λ (one : j ≡ place). absurd (omega (arith, less, one)))
    apart (same ∙ sym own)))
    (λ inside. eq-eqb (at_place ts place).pid pid own) in
    ap (λ i. cond (nat_lt i (length ts)) (Some i) None) here
    ∙ ap (λ b. cond b (Some place) None) (lt-ltb place (length ts) within)

opened-differs : (q j : ℕ) → not (q == j) ≡ true → j ≢ q
opened-differs q j is one = absurd (false≢true (sym (ap not (eq-eqb q j (sym one))) ∙ is))

-- it is not away
opened-here : (P : Position → Traced → Type 0) (ts : List Traced) (place : ℕ) (stage : Stage) → AtStage P ts stage
    → is_opened stage place ≡ true → is_away false stage place ≡ false
opened-here P ts place (Opening q step) w opened = ne_eqb q place (λ one. opened-differs q place opened (sym one))
opened-here P ts place (Closing q OpenNext) w opened = ne_eqb q place (λ one. opened-differs q place opened (sym one))
opened-here P ts place (Closing q GoOn) w opened = ne_eqb q place (λ one. opened-differs q place opened (sym one))
opened-here P ts place (ReadingText q l from len) w opened = refl
opened-here P ts place (Spawning program) w opened = refl
opened-here P ts place (OpeningControl pid) w opened = refl
opened-here P ts place Polling w opened = refl
opened-here P ts place (ReadingStatus q) w opened = refl
opened-here P ts place (Running q) w opened = refl
opened-here P ts place Finished w opened = refl
opened-here P ts place _ w opened = absurd w

-- the process is attached
rests-attached : (P : Position → Traced → Type 0) (us ts : List Traced) (place : ℕ) (stage : Stage) → AtStage P us stage
    → RestBut false ts (busy stage) → place < length ts → is_opened stage place ≡ true → Rests false (at_place ts place)
rests-attached P us ts place (Opening q step) w all within opened = all place within (opened-differs q place opened)
rests-attached P us ts place (Closing q OpenNext) w all within opened = all place within (opened-differs q place opened)
rests-attached P us ts place (Closing q GoOn) w all within opened = all place within (opened-differs q place opened)
rests-attached P us ts place (ReadingText q l from len) w all within opened = all place within
rests-attached P us ts place (Spawning program) w all within opened = all place within
rests-attached P us ts place (OpeningControl pid) w all within opened = all place within
rests-attached P us ts place Polling w all within opened = all place within
rests-attached P us ts place (ReadingStatus q) w all within opened = all place within
rests-attached P us ts place (Running q) w all within opened = all place within
rests-attached P us ts place Finished w all within opened = all place within
rests-attached P us ts place _ w all within opened = absurd w

-- one that is not read, run or closed rests, with the marks that it had
module _ (pid : ℕ) (was : Traced) (t : TrussState) (kept : Kept (Pends pid was) t) (place : ℕ)
    (within : place < length t.traced) (its : (traced_at t place).pid ≡ pid) where
  abbrev ts : List Traced
  ts = t.traced

  not-it : (q : ℕ) → (at_place ts q).pid ≢ pid → (q == place) ≡ false
  not-it q other = ne_eqb q place (λ one. other (ap (λ i. (at_place ts i).pid) one ∙ its))

  differs : (q : ℕ) → (at_place ts q).pid ≢ pid → place ≢ q
  differs q other one = other (ap (λ i. (at_place ts i).pid) (sym one) ∙ its)

  still-opened : (stage : Stage) → AtStage (Pends pid was) ts stage → is_opened stage place ≡ true
  still-opened (Opening q step) w = ap not (not-it q w.1.1)
  still-opened (Closing q OpenNext) w = ap not (not-it q w.1.1)
  still-opened (Closing q GoOn) w = ap not (not-it q w.1.1)
  still-opened (Spawning program) w = refl
  still-opened (OpeningControl number) w = refl
  still-opened Polling w = refl
  still-opened (ReadingStatus q) w = refl
  still-opened (ReadingText q l from len) w = refl
  still-opened (Running q) w = refl
  still-opened Finished w = refl
  still-opened _ w = absurd w

  still-away : (stage : Stage) → AtStage (Pends pid was) ts stage → is_to_run stage place ≡ false
  still-away (ReadingText q l from len) w = not-it q w.1.1
  still-away (Running q) w = not-it q w.1.1
  still-away _ w = refl

  still-same : (stage : Stage) → AtStage (Pends pid was) ts stage → IsSame pid was (at_place ts place)
  still-same (Opening q step) w = w.1.0 place within (differs q w.1.1) its
  still-same (Closing q OpenNext) w = w.1.0 place within (differs q w.1.1) its
  still-same (Closing q GoOn) w = w.1.0 place within (differs q w.1.1) its
  still-same (Spawning program) w = w place within its
  still-same (OpeningControl number) w = w place within its
  still-same Polling w = w place within its
  still-same (ReadingStatus q) w = w.1.0 place within its
  still-same (ReadingText q l from len) w = w.1.0 place within its
  still-same (Running q) w = w.1.0 place within (differs q w.1.1) its
  still-same Finished w = w place within its
  still-same _ w = absurd w

  pub pends-rests : RestsAt t pid place
  pends-rests = record {
    within = within;
    its = its;
    opened = still-opened t.stage kept.stage;
    away = still-away t.stage kept.stage;
    new = let w = still-same t.stage kept.stage in w.new;
  }

  pub pends-marks : marks_at t place ≡ was.marks
  pends-marks = let w = still-same t.stage kept.stage in w.marks

-- ---- truss after a history

module _ (n k : ℕ) (o : Options) (s : TracedState) (before rest : List Entry) (pid : ℕ)
    (run : IsFunctionRun n k o s (before ++ rest)) where
  abbrev tr : TrussState
  tr = functions_at k o before

  abbrev st : TracedState
  st = state_after s before

  follows : Follows k o tr st
  follows = let half = run-halfway n k o s before rest run in half.follows

  reached : Reaches k (ordinary tr) st
  reached = let f = follows in f.reaches

  files : HasFiles k (ordinary tr) st
  files = let g = reached in g.files

  pub options : tr.options ≡ o
  options = let f = follows in let fit = f.fit in fit.options

  pub fits : FitsAside tr.aside tr.stage
  fits = let f = follows in let fit = f.fit in fit.fits

  -- the process rests, and is attached
  pub opened-attached : (P : Position → Traced → Type 0) → Kept P tr → (place : ℕ) → place < length tr.traced
      → is_opened tr.stage place ≡ true → IsAttached (traced_at (ordinary tr) place)
  opened-attached P kept place within opened =
      let g = reached in
      let owns : Owns k (ordinary tr) st = g.owns in
      let stands : Stands (ordinary tr).traced tr.leaving tr.stage =
      standing k (ordinary tr) st tr.stage files refl in
      let all : RestBut false (ordinary tr).traced (busy tr.stage) =
      subst (λ b. RestBut b (ordinary tr).traced (busy tr.stage)) kept.off stands.rests in
      rest-stays false (traced_at (ordinary tr) place)
      (rests-attached P tr.traced (ordinary tr).traced place tr.stage kept.stage all
      (subst (λ m. place < m) (sym (length-map tr.traced unmarked)) within) opened) refl

  -- it is watched
  pub opened-watched : (P : Position → Traced → Type 0) → Kept P tr → (place : ℕ) → place < length tr.traced
      → (traced_at tr place).pid ≡ pid → is_opened tr.stage place ≡ true → watches tr pid ≡ true
  opened-watched P kept place within its opened =
      let a = opened-attached P kept place within opened in
      is-watched tr pid place (place-of pid tr.traced place kept.apart within its)
      (ap (λ (u : Traced). u.attached) (sym (at-ordinary tr place)) ∙ a.attached)
      (ap (λ b. is_away b tr.stage place) kept.off ∙ opened-here P tr.traced place tr.stage kept.stage opened)

  module _ (P : Position → Traced → Type 0) (kept : Kept P tr) (place : ℕ) (at_rest : RestsAt tr pid place) where
    pub attached : IsAttached (traced_at (ordinary tr) place)
    attached = opened-attached P kept place at_rest.within at_rest.opened

    pub unseen : (traced_at tr place).seen ≡ false
    unseen = let a = attached in ap (λ (u : Traced). u.seen) (sym (at-ordinary tr place)) ∙ a.unseen

    pub its-place : place_of tr pid ≡ Some place
    its-place = place-of pid tr.traced place kept.apart at_rest.within at_rest.its

    pub watched : watches tr pid ≡ true
    watched = opened-watched P kept place at_rest.within at_rest.its at_rest.opened

-- ---- what is shown in an entry

module _ (n k : ℕ) (o : Options) (s : TracedState) (before later : List Entry) (e : Entry) (pid : ℕ)
    (run : IsFunctionRun n k o s (before ++ e ∷ later)) where
  abbrev t : TrussState
  t = functions_at k o before

  abbrev v : TracedState
  v = state_after s before

  its-options : t.options ≡ o
  its-options = options n k o s before (e ∷ later) pid run

  pid-there : (q : ℕ) → (traced_at (ordinary t) q).pid ≡ (traced_at t q).pid
  pid-there q = ap (λ (u : Traced). u.pid) (at-ordinary t q)

  abbrev ShownNext : List LwpEvent → Type 0
  ShownNext more = shown pid (functions_at k o (before ++ e ∷ [])) ≡ shown pid t ++ more

  abbrev AsBefore : Type 0
  AsBefore = shown pid (functions_at k o (before ++ e ∷ [])) ≡ shown pid t

  nothing-more : ShownNext [] → AsBefore
  nothing-more is = is ∙ append-nil (shown pid t)

  -- where the status of the process is not read, or a stop is left that stood before truss came
  pub shown-other : (t.stage ≢ ReadingLwps)
      → ((q : ℕ) → t.stage ≡ ReadingStatus q → (traced_at t q).pid ≡ pid → (traced_at t q).old ≢ 0)
      → AsBefore
  shown-other no_lwps other = by (shown-step n k o s before later e pid run)
    where
      some-old : (m : ℕ) → m ≢ 0 → (i : ℕ) × (m ≡ suc i)
      some-old zero old = absurd (old refl)
      some-old (suc i) old = (i, refl)

      old-none : (z : Traced) → z.old ≢ 0 → (l : Option LwpStatus) → new_of z l ≡ None
      old-none z old None = refl
      old-none z old (Some l) = let m = some-old z.old old in new-old z l m.0 m.1

      none : (r : Reply) (stage : Stage) → t.stage ≡ stage → read_at pid (ordinary t) r stage ≡ None
      none r (ReadingStatus q) at = elim (cases_eq (traced_at (ordinary t) q).pid pid) [
        | inl its ↦
            new-own pid (traced_at (ordinary t) q) _ its
            ∙ old-none (traced_at (ordinary t) q)
            (λ new. other q at (sym (pid-there q) ∙ its)
            (ap (λ (u : Traced). u.old) (sym (at-ordinary t q)) ∙ new)) _
        | inr apart ↦ new-other pid (traced_at (ordinary t) q) _ apart
      ]
      none r ReadingLwps at = absurd (no_lwps at)
      none r _ at = refl

      by : ShownStep n k o s before later e pid run → AsBefore
      by (as_before sees is) = is
      by (as_like x own y like is) =
          nothing-more
          (is ∙ ap (λ (r : Option LwpEvent). shown pid t ++ told_in (is_selected o) r)
          (read-is pid (ordinary t) y.reply t.stage refl ∙ none y.reply t.stage refl))

  -- the process rests
  module _ (P : Position → Traced → Type 0) (kept : Kept P t) (place : ℕ) (rest : RestsAt t pid place) where
    its-unseen : (traced_at t place).seen ≡ false
    its-unseen = unseen n k o s before (e ∷ later) pid run P kept place rest

    -- where the status of the process is read, and tells of an lwp
    module _ (at : t.stage ≡ ReadingStatus place) (x : Exchange) (own : exchange_of k e ≡ Some x)
        (unsent : sends x.call ≡ false) (l : LwpStatus)
        (told : option_and_then status_lwp (bytes_in x.reply) ≡ Some l) where
      its-read : reads.IsRead n k o s before later e pid run place x (λ r. option_and_then status_lwp (bytes_in r))
      its-read = record {
        new = rest.new;
        unseen = its-unseen;
        own = own;
        unsent = unsent;
        value = λ r.
            read-is pid (ordinary t) r (ReadingStatus place) at
            ∙ new-own pid (traced_at (ordinary t) place) (option_and_then status_lwp (bytes_in r))
            (pid-there place ∙ rest.its);
        tells = λ tells. subst (OwnFaultRead t x.reply) at tells;
        is_told = λ its. subst (OwnFaultRead t x.reply) (sym at) its;
        nothing = no-status;
        never = λ sees. subst (λ stage. SeesTo t stage x.call) at sees;
      }

      -- no event is told: nothing more is shown
      pub shown-none : event_of l ≡ None → AsBefore
      shown-none = reads.shown-none n k o s before later e pid run place x _ its-read l told

      -- an event is told: it is shown if it is to be shown
      pub shown-event : (event : LwpEvent) → event_of l ≡ Some event.event → l.id ≡ event.id
          → ShownNext (if_in (is_to_show o (marks_at t place)) event)
      shown-event = reads.shown-event n k o s before later e pid run place x _ its-read l told
