use Rattle.std.proofs.Common.{◌≡◌, ◌++◌, ℕ, Bool, true, false, cond, Option, Some, None, List, [], ◌∷◌, append-nil, refl, sym, subst, ap, ◌∙◌}
use Rattle.std.proofs.lemmas.Bool.{false≢true}
use Rattle.std.proofs.lemmas.List.Elements.{filter_map-append}
use Rattle.std.proofs.lemmas.Option.{none-some, same_Some}
use Rattle.std.specs.List.{cons_option, filter_map, slice_get}
use Rattle.std.specs.Option.{option_and_then}
use Rattle.pr_line.specs.Selections.{is_selected}
use Rattle.pr_line.specs.declared.options.Options.{Options}
use Rattle.pr_model.specs.Legal.{state_after}
use Rattle.pr_model.specs.Replies.{bytes_in}
use Rattle.pr_model.specs.State.{TracedState}
use Rattle.pr_model.specs.declared.calls.Call.{Call}
use Rattle.pr_model.specs.declared.calls.Reply.{Reply}
use Rattle.pr_model.specs.declared.calls.Reply.TheVariants as reply
use Rattle.pr_model.specs.declared.events.Entry.{Entry}
use Rattle.pr_num.specs.declared.errnos.Errno.{Errno}
use Rattle.pr_report_laws.proofs.Files.WatchHistories.{Reaches, exchanges-push}
use Rattle.pr_report_laws.proofs.Invariant.Tallies.{told_in}
use Rattle.pr_report_laws.proofs.Reading.NewReads.{new-event, new-stop}
use Rattle.pr_report_laws.proofs.Replies.NewStops.{read_at, read_now}
use Rattle.pr_report_laws.proofs.Replies.ShownReads.{shown-fed}
use Rattle.pr_report_laws.specs.Reads.{ReadsEvent}
use Rattle.pr_report_laws.specs.Shown.{LwpEvent, event_reported, shown}
use Rattle.pr_truss.specs.Feeding.{fed}
use Rattle.pr_truss.specs.FunctionFeeding.{fed_functions}
use Rattle.pr_truss.specs.NextCalls.{call_of, next_call_of}
use Rattle.pr_truss.specs.Records.{event_stops, status_lwp}
use Rattle.pr_truss.specs.Reports.{all_reports, pending_at}
use Rattle.pr_truss.specs.Trusses.{TrussState, first_truss, traced_at}
use Rattle.pr_truss.specs.declared.reports.Report.{Report}
use Rattle.pr_truss.specs.declared.reports.Report.TheVariants.{CannotStart, CannotTrace, Called, Event as Shown}
use Rattle.pr_truss.specs.declared.stages.Stage.{Stage}
use Rattle.pr_truss.specs.declared.stages.Stage.TheVariants.{ReadingStatus, ReadingLwps}
use Rattle.pr_truss_laws.specs.Exchanges.{Exchange, exchange_of, exchanges}
use Rattle.pr_truss_laws.specs.Sent.{sends}
use Rattle.pr_function_laws.proofs.OrdinaryTruss.OrdinaryCalls.{stands-sends}
use Rattle.pr_function_laws.proofs.OrdinaryTruss.OrdinaryExchanges.{Turn, goes_on, goes_out, turn}
use Rattle.pr_function_laws.proofs.OrdinaryTruss.OrdinaryFiles.{Follows, MakesOwn, entry-calm, own-next, run-halfway, with_own}
use Rattle.pr_function_laws.proofs.OrdinaryTruss.OrdinaryLines.{pending-ordinary}
use Rattle.pr_function_laws.proofs.OrdinaryTruss.OrdinaryRows.{no-lwps, no-status}
use Rattle.pr_function_laws.specs.Opened.{IsFunctionRun, functions_at}
use Rattle.pr_function_laws.specs.Ordinary.{IsLike, SeesTo, TellsOfOwnFault, in_place, ordinary, ordinary_among, own_fault, refused, same}
use Rattle.pr_function_laws.specs.OrdinaryRuns.{ReadsNoOwnFault, ShowsInEntry, ShowsWhatItReadsOf, nothing_new, one_more}
use Rattle.pr_function_laws.specs.Runs.{functions_after}

-- Truss with calls of functions shows each event that it shows in the entry in which it reads it.

-- ---- what is shown without the calls

among-shows : (pid : ℕ) (reports : List Report)
    → filter_map (event_reported pid) (ordinary_among reports) ≡ filter_map (event_reported pid) reports
unfolding ordinary_among event_reported
among-shows pid [] = refl
among-shows pid (CannotStart program errno ∷ reports) = among-shows pid reports
among-shows pid (CannotTrace of errno ∷ reports) = among-shows pid reports
among-shows pid (Called of lwp function arguments ∷ reports) = among-shows pid reports
among-shows pid (Shown of l text ∷ reports) =
    ap (cons_option (event_reported pid (Shown of l text))) (among-shows pid reports)

pub shown-ordinary : (pid : ℕ) (t : TrussState) → shown pid (ordinary t) ≡ shown pid t
unfolding shown all_reports
shown-ordinary pid t =
    ap (λ ps. filter_map (event_reported pid) (ordinary_among t.reports ++ ps)) (pending-ordinary t t.stage)
    ∙ filter_map-append (event_reported pid) (ordinary_among t.reports) (pending_at t t.stage)
    ∙ ap (λ xs. xs ++ filter_map (event_reported pid) (pending_at t t.stage)) (among-shows pid t.reports)
    ∙ sym (filter_map-append (event_reported pid) t.reports (pending_at t t.stage))

-- ---- a history with one entry more

after-more : (t : TrussState) (xs ys : List Exchange)
    → functions_after t (xs ++ ys) ≡ functions_after (functions_after t xs) ys
after-more t [] ys = refl
after-more t (x ∷ xs) ys = after-more (fed_functions t x.reply) xs ys

after-option : (t : TrussState) (x : Option Exchange) → functions_after t (cons_option x []) ≡ with_own t x
after-option t None = refl
after-option t (Some x) = refl

pub functions_at-push : (k : ℕ) (o : Options) (h : List Entry) (e : Entry)
    → functions_at k o (h ++ e ∷ []) ≡ with_own (functions_at k o h) (exchange_of k e)
functions_at-push k o h e =
    ap (functions_after (first_truss o)) (exchanges-push k h e)
    ∙ after-more (first_truss o) (exchanges k h) (cons_option (exchange_of k e) [])
    ∙ after-option (functions_at k o h) (exchange_of k e)

-- ---- one entry

-- an event is read by the same exchange alone
module _ (pid : ℕ) (u : TrussState) (event : LwpEvent) where
  message-reads : {A : Type 0} (d : Call) (r : Reply) (stage : Stage) → sends d ≡ true
      → call_of u stage ≡ Some d → read_at pid u r stage ≡ Some event → A
  unfolding call_of
  message-reads d r (ReadingStatus place) sent next reads =
      absurd (false≢true (ap sends (same_Some _ d next) ∙ sent))
  message-reads d r ReadingLwps sent next reads = absurd (false≢true (ap sends (same_Some _ d next) ∙ sent))
  message-reads d r _ sent next reads = absurd (none-some event reads)

  refused-reads : {A : Type 0} (errno : Errno) (stage : Stage) → read_at pid u (reply.Fail errno) stage ≡ Some event
      → A
  unfolding bytes_in event_stops
  refused-reads errno (ReadingStatus place) reads =
      let n = new-stop pid (traced_at u place) None event reads in absurd (none-some n.lwp n.is)
  refused-reads errno ReadingLwps reads =
      let n = new-stop pid (traced_at u 0) None event reads in absurd (none-some n.lwp n.is)
  refused-reads errno _ reads = absurd (none-some event reads)

  empty-reads : {A : Type 0} (stage : Stage) → read_at pid u (reply.Bytes []) stage ≡ Some event → A
  empty-reads (ReadingStatus place) reads =
      let n =
      new-stop pid (traced_at u place) (option_and_then status_lwp (bytes_in (reply.Bytes []))) event reads in
      absurd (none-some n.lwp (sym no-status ∙ n.is))
  empty-reads ReadingLwps reads =
      let n =
      new-stop pid (traced_at u 0) (slice_get (event_stops (bytes_in (reply.Bytes []))) 0) event reads in
      absurd (none-some n.lwp (sym no-lwps ∙ n.is))
  empty-reads _ reads = absurd (none-some event reads)

  -- and it tells of no fault of truss's own
  like-reads : {t : TrussState} (x y : Exchange) → IsLike t x y → next_call_of u ≡ Some y.call
      → read_now pid u y.reply ≡ Some event → (x ≡ y) × (TellsOfOwnFault t x.reply → ⊥)
  unfolding next_call_of read_now
  like-reads x y (same unsent none_own) next reads = (refl, none_own)
  like-reads x y (in_place {d = d} {r = r} stands) next reads =
      let sent = stands-sends stands in message-reads d r u.stage sent.1 next reads
  like-reads x y (refused {errno = errno} sees may is) next reads = refused-reads errno u.stage reads
  like-reads x y (own_fault own) next reads = empty-reads u.stage reads

-- what is shown after an exchange that is like one of truss
pub shown-told : (k : ℕ) (o : Options) (before : List Entry) (e : Entry) (pid : ℕ) (x : Exchange)
    → exchange_of k e ≡ Some x → (y : Exchange)
    → ordinary (fed_functions (functions_at k o before) x.reply) ≡ fed (ordinary (functions_at k o before)) y.reply
    → (functions_at k o before).options ≡ o
    → shown pid (functions_at k o (before ++ e ∷ []))
    ≡ shown pid (functions_at k o before)
    ++ told_in (is_selected o) (read_now pid (ordinary (functions_at k o before)) y.reply)
shown-told k o before e pid x own y now options =
    let t : TrussState = functions_at k o before in
    ap (shown pid) (functions_at-push k o before e ∙ ap (with_own t) own)
    ∙ sym (shown-ordinary pid (fed_functions t x.reply)) ∙ ap (shown pid) now ∙ shown-fed pid (ordinary t) y.reply
    ∙ ap (λ (p : Options). shown pid (ordinary t) ++ told_in (is_selected p) (read_now pid (ordinary t) y.reply))
    options
    ∙ ap (λ xs. xs ++ told_in (is_selected o) (read_now pid (ordinary t) y.reply)) (shown-ordinary pid t)

module _ (n k : ℕ) (o : Options) (s : TracedState) (before later : List Entry) (e : Entry) (pid : ℕ)
    (run : IsFunctionRun n k o s (before ++ e ∷ later)) where
  abbrev t : TrussState
  t = functions_at k o before

  abbrev v : TracedState
  v = state_after s before

  follows : Follows k o t v
  follows = let half = run-halfway n k o s before (e ∷ later) run in half.follows

  reached : Reaches k (ordinary t) v
  reached = let f = follows in f.reaches

  next : MakesOwn t (exchange_of k e)
  next =
      let half = run-halfway n k o s before (e ∷ later) run in
      let m = own-next k t e later half.makes in
      m.0

  -- nothing more is shown
  same-shown : ordinary (with_own t (exchange_of k e)) ≡ ordinary t
      → shown pid (functions_at k o (before ++ e ∷ [])) ≡ shown pid t
  same-shown still =
      ap (shown pid) (functions_at-push k o before e)
      ∙ sym (shown-ordinary pid (with_own t (exchange_of k e))) ∙ ap (shown pid) still ∙ shown-ordinary pid t

  stays : ordinary (with_own t (exchange_of k e)) ≡ ordinary t → ShowsInEntry k o pid s before e
  stays still = nothing_new (same-shown still)

  -- what is shown: nothing more, or what an exchange tells that is like the one of truss
  pub data ShownStep : Type 0 where
    as_before : ((x : Exchange) → exchange_of k e ≡ Some x → SeesTo t t.stage x.call)
        → shown pid (functions_at k o (before ++ e ∷ [])) ≡ shown pid t → ShownStep
    as_like : (x : Exchange) → exchange_of k e ≡ Some x → (y : Exchange) → IsLike t x y
        → shown pid (functions_at k o (before ++ e ∷ []))
        ≡ shown pid t ++ told_in (is_selected o) (read_now pid (ordinary t) y.reply) → ShownStep

  step-turned : (x : Exchange) → exchange_of k e ≡ Some x → Turn t x → ShownStep
  step-turned x own (goes_out sees over still) =
      as_before
      (λ z of. subst (λ (w : Exchange). SeesTo t t.stage w.call) (same_Some x z (sym own ∙ of)) sees)
      (same-shown (ap (λ q. ordinary (with_own t q)) own ∙ still))
  step-turned x own (goes_on y like called now) =
      let f = follows in
      let fit = f.fit in
      as_like x own y like (shown-told k o before e pid x own y now fit.options)

  step-by : (x : Option Exchange) → exchange_of k e ≡ x → MakesOwn t x → ShownStep
  step-by None own made =
      as_before (λ z of. absurd (none-some z (sym own ∙ of))) (same-shown (ap (λ q. ordinary (with_own t q)) own))
  step-by (Some x) own made =
      let f = follows in
      let half = run-halfway n k o s before (e ∷ later) run in
      step-turned x own
      (turn o run.has run.follows_none t x f.fit made (entry-calm n k v e x half.legal.0 own))

  pub shown-step : ShownStep
  shown-step = step-by (exchange_of k e) refl next

  module _ (x : Exchange) (own : exchange_of k e ≡ Some x) (y : Exchange) (like : IsLike t x y)
      (called : next_call_of (ordinary t) ≡ Some y.call)
      (now : ordinary (fed_functions t x.reply) ≡ fed (ordinary t) y.reply) (options : t.options ≡ o) where
    shown-now : shown pid (functions_at k o (before ++ e ∷ []))
        ≡ shown pid t ++ told_in (is_selected o) (read_now pid (ordinary t) y.reply)
    shown-now = shown-told k o before e pid x own y now options

    none-new : told_in (is_selected o) (read_now pid (ordinary t) y.reply) ≡ [] → ShowsInEntry k o pid s before e
    none-new none =
        nothing_new (shown-now ∙ ap (λ (xs : List LwpEvent). shown pid t ++ xs) none ∙ append-nil (shown pid t))

    reads-it : (event : LwpEvent) → read_now pid (ordinary t) y.reply ≡ Some event → ReadsEvent k pid v e event
    reads-it event read =
        let it = like-reads pid (ordinary t) event x y like called read in
        let is : x ≡ y = it.0 in
        new-event k pid (ordinary t) v e reached x own
        (subst (λ (z : Exchange). next_call_of (ordinary t) ≡ Some z.call) (sym is) called) event
        (subst (λ (z : Exchange). read_now pid (ordinary t) z.reply ≡ Some event) (sym is) read)

    -- no fault of truss's own
    none-own : (event : LwpEvent) → read_now pid (ordinary t) y.reply ≡ Some event → ReadsNoOwnFault k t e
    none-own event read =
        let it = like-reads pid (ordinary t) event x y like called read in
        record {
          none = λ z of tells. it.1
              (subst (λ (q : Exchange). TellsOfOwnFault t q.reply) (same_Some z x (sym of ∙ own)) tells);
        }

    shows-or : (read : Option LwpEvent) → read_now pid (ordinary t) y.reply ≡ read → ShowsInEntry k o pid s before e
    shows-or None read = none-new (ap (told_in (is_selected o)) read)
    shows-or (Some event) read = chosen (is_selected o event.event) refl
      where
        chosen : (b : Bool) → is_selected o event.event ≡ b → ShowsInEntry k o pid s before e
        chosen true is =
            one_more (record {
              event = event;
              is = shown-now
                  ∙ ap (λ (q : Option LwpEvent). shown pid t ++ told_in (is_selected o) q) read
                  ∙ ap (λ b. shown pid t ++ cond {A = List LwpEvent} b (event ∷ []) []) is;
            }) (reads-it event read) is (none-own event read)
        chosen false is =
            none-new
            (ap (told_in (is_selected o)) read ∙ ap (λ b. cond {A = List LwpEvent} b (event ∷ []) []) is)

  turned : (x : Exchange) → exchange_of k e ≡ Some x → Turn t x → ShowsInEntry k o pid s before e
  turned x own (goes_out sees over still) = stays (ap (λ q. ordinary (with_own t q)) own ∙ still)
  turned x own (goes_on y like called now) =
      let f = follows in
      let fit = f.fit in
      shows-or x own y like called now fit.options (read_now pid (ordinary t) y.reply) refl

  by : (x : Option Exchange) → exchange_of k e ≡ x → MakesOwn t x → ShowsInEntry k o pid s before e
  by None own made = stays (ap (λ q. ordinary (with_own t q)) own)
  by (Some x) own made =
      let f = follows in
      let half = run-halfway n k o s before (e ∷ later) run in
      turned x own
      (turn o run.has run.follows_none t x f.fit made (entry-calm n k v e x half.legal.0 own))

  pub shows-in-entry : ShowsInEntry k o pid s before e
  shows-in-entry = by (exchange_of k e) refl next

pub shows-what-it-reads : (n k : ℕ) (o : Options) (s : TracedState) (h : List Entry) → IsFunctionRun n k o s h
    → ShowsWhatItReadsOf k o s h
shows-what-it-reads n k o s h run = record {
  each = λ before later e pid is.
      shows-in-entry n k o s before later e pid (subst (IsFunctionRun n k o s) is run);
}

pub ruleset shown_now = (shows-what-it-reads)
