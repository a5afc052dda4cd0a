use Rattle.std.proofs.Common.{◌≡◌, ◌<◌, ◌++◌, ℕ, true, cond, Option, Some, List, [], ◌∷◌, length, refl, sym, subst, ap, ◌∙◌}
use Rattle.std.proofs.lemmas.Bool.{false≢true}
use Rattle.std.proofs.lemmas.List.{length-map}
use Rattle.std.specs.List.{slice_get}
use Rattle.pr_line.specs.Selections.{is_selected}
use Rattle.pr_line.specs.declared.options.Options.{Options}
use Rattle.pr_model.specs.Legal.{state_after}
use Rattle.pr_model.specs.Replies.{bytes_in}
use Rattle.pr_model.specs.State.{TracedState}
use Rattle.pr_model.specs.declared.calls.Call.TheVariants as call
use Rattle.pr_model.specs.declared.calls.File.{File}
use Rattle.pr_model.specs.declared.calls.File.TheVariants as file
use Rattle.pr_model.specs.declared.calls.Reply.TheVariants as reply
use Rattle.pr_model.specs.declared.events.Entry.{Entry}
use Rattle.pr_report_laws.proofs.Files.FileLaws.{HasFiles}
use Rattle.pr_report_laws.proofs.Files.FileSteps.{MakesNext}
use Rattle.pr_report_laws.proofs.Files.FileUses.{standing}
use Rattle.pr_report_laws.proofs.Files.WatchHistories.{Reaches}
use Rattle.pr_report_laws.proofs.Invariant.StandLemmas.{IsAttached, Stands, rest-stays}
use Rattle.pr_report_laws.proofs.Invariant.Tallies.{told_in}
use Rattle.pr_report_laws.proofs.Replies.NewStops.{new-event, new-own, new_of, read-is, read_now}
use Rattle.pr_report_laws.proofs.ToldForks.OldHolds.{status-stage}
use Rattle.pr_report_laws.specs.Attachments.{ReadsFile}
use Rattle.pr_report_laws.specs.Reads.{ReadsLwpsOf, ReadsStatusOf}
use Rattle.pr_report_laws.specs.Shown.{LwpEvent, shown}
use Rattle.pr_truss.specs.NextCalls.{next_call_of}
use Rattle.pr_truss.specs.Records.{event_stops, status_lwp}
use Rattle.pr_truss.specs.Trusses.{TrussState, traced_at}
use Rattle.pr_truss.specs.declared.processes.Traced.{Traced}
use Rattle.pr_truss.specs.declared.stages.Stage.TheVariants.{ReadingLwps, ReadingStatus}
use Rattle.pr_truss_laws.proofs.Files.HeldLemmas.{Fits}
use Rattle.pr_truss_laws.proofs.Files.OwnLemmas.{Owns}
use Rattle.pr_truss_laws.specs.Exchanges.{Exchange, exchange_of}
use Rattle.pr_truss_laws.specs.Sent.{sends}
use Rattle.pr_function_laws.proofs.OrdinaryTruss.OrdinaryCalls.{sees-sends, stands-sends}
use Rattle.pr_function_laws.proofs.OrdinaryTruss.OrdinaryExchanges.{Turn, goes_on, goes_out, turn}
use Rattle.pr_function_laws.proofs.OrdinaryTruss.OrdinaryFiles.{Follows, MakesOwn, entry-calm, own-next, run-halfway}
use Rattle.pr_function_laws.proofs.OrdinaryTruss.OrdinaryReplies.{at-ordinary}
use Rattle.pr_function_laws.proofs.OrdinaryTruss.OrdinaryShown.{shown-told}
use Rattle.pr_function_laws.specs.Opened.{IsFunctionRun, functions_at}
use Rattle.pr_function_laws.specs.Ordinary.{IsLike, TellsOfOwnFault, in_place, ordinary, own_fault, refused, same, unmarked}
use Rattle.pr_function_laws.specs.OrdinaryRuns.{HasNoOldLeft, LooksLast, ReadsNoOwnFault, ShowsOneMore, ShowsWhatIsNewOf}

-- Each new event that truss with calls of functions reads, that the options select and that is no fault of its own, it
-- shows.

-- a read of a file of a process that got bytes
module _ (n k : ℕ) (o : Options) (s : TracedState) (before later : List Entry) (e : Entry) (pid : ℕ)
    (run : IsFunctionRun n k o s (before ++ e ∷ later)) (event : LwpEvent) (f : File)
    (r : ReadsFile k pid f (state_after s before) e) (not_own : ReadsNoOwnFault k (functions_at k o before) e) where
  abbrev t : TrussState
  t = functions_at k o before

  abbrev v : TracedState
  v = state_after s before

  follows : Follows k o t v
  follows = let half = run-halfway n k o s before (e ∷ later) run in half.follows

  reached : Reaches k (ordinary t) v
  reached = let f = follows in f.reaches

  files : HasFiles k (ordinary t) v
  files = let g = reached in g.files

  abbrev x : Exchange
  x = record { call = call.Read r.handle r.from r.len; reply = reply.Bytes r.bytes }

  own : exchange_of k e ≡ Some x
  own = r.is

  made : MakesOwn t (Some x)
  made =
      let half = run-halfway n k o s before (e ∷ later) run in
      let m = own-next k t e later half.makes in
      subst (MakesOwn t) own m.0

  -- it is an exchange of truss as it stands
  like-same : {y z : Exchange} → IsLike t y z → y ≡ x → y ≡ z
  like-same (same unsent none_own) is = refl
  like-same (in_place stands) is =
      let sent = stands-sends stands in
      absurd (false≢true (sym (ap (λ (z : Exchange). sends z.call) is) ∙ sent.0))
  like-same (refused {c = c} sees may called) is =
      absurd (false≢true (sym (ap (λ (z : Exchange). sends z.call) is) ∙ sees-sends t t.stage c sees))
  like-same (own_fault tells) is =
      absurd (not_own.none x own (subst (TellsOfOwnFault t) (ap (λ (z : Exchange). z.reply) is) tells))

  -- what it shows then
  abbrev IsTold : Type 0
  IsTold =
      (next_call_of (ordinary t) ≡ Some x.call)
      × (shown pid (functions_at k o (before ++ e ∷ []))
      ≡ shown pid t ++ told_in (is_selected o) (read_now pid (ordinary t) x.reply))

  told : Turn t x → IsTold
  told (goes_out sees over still) = absurd (false≢true (sees-sends t t.stage x.call sees))
  told (goes_on y like called now) =
      let f = follows in
      let fit = f.fit in
      let is : x ≡ y = like-same like refl in (
        subst (λ (z : Exchange). next_call_of (ordinary t) ≡ Some z.call) (sym is) called,
        subst
            (λ (z : Exchange). shown pid (functions_at k o (before ++ e ∷ []))
            ≡ shown pid t ++ told_in (is_selected o) (read_now pid (ordinary t) z.reply))
            (sym is) (shown-told k o before e pid x own y now fit.options),
      )

  is-told : IsTold
  is-told =
      let half = run-halfway n k o s before (e ∷ later) run in
      let f = follows in
      told (turn o run.has run.follows_none t x f.fit made (entry-calm n k v e x half.legal.0 own))

  next : MakesNext (ordinary t) (exchange_of k e)
  next = let all = is-told in subst (MakesNext (ordinary t)) (sym own) all.0

  shows-read : read_now pid (ordinary t) (reply.Bytes r.bytes) ≡ Some event → is_selected o event.event ≡ true
      → (more : ShowsOneMore k o pid before e) × (more.event ≡ event)
  shows-read read chosen =
      let all = is-told in (
        record {
          event = event;
          is = all.1
              ∙ ap (λ (q : Option LwpEvent). shown pid t ++ told_in (is_selected o) q) read
              ∙ ap (λ b. shown pid t ++ cond {A = List LwpEvent} b (event ∷ []) []) chosen;
        },
        refl,
      )

-- ---- in the loop

module _ (n k : ℕ) (o : Options) (s : TracedState) (before later : List Entry) (e : Entry) (pid : ℕ)
    (run : IsFunctionRun n k o s (before ++ e ∷ later)) (none_old : HasNoOldLeft k o pid before) (event : LwpEvent)
    (w : ReadsStatusOf k pid (state_after s before) e event)
    (not_own : ReadsNoOwnFault k (functions_at k o before) e) where
  abbrev u : TrussState
  u = functions_at k o before

  abbrev read : ReadsFile k pid file.Status (state_after s before) e
  read = w.read

  -- the event is new
  read-it : read_now pid (ordinary u) (reply.Bytes read.bytes) ≡ Some event
  unfolding bytes_in
  read-it =
      let r : ReadsFile k pid file.Status (state_after s before) e = w.read in
      let g = reached n k o s before later e pid run event file.Status read not_own in
      let owns : Owns k (ordinary u) (state_after s before) = g.owns in
      let at =
      status-stage k pid (ordinary u) (state_after s before) g e
      (next n k o s before later e pid run event file.Status read not_own) file.Status r refl in
      let place = at.0 in
      let z : Traced = traced_at (ordinary u) place in
      let within : place < length (ordinary u).traced = subst (Fits (ordinary u).traced) at.1.0 owns.fits in
      let stands : Stands (ordinary u).traced u.leaving (ReadingStatus place) =
      standing k (ordinary u) (state_after s before) (ReadingStatus place) g.files at.1.0 in
      let on : IsAttached z = rest-stays u.leaving z (stands.rests place within) stands.leaves in
      let mine : (traced_at u place).pid ≡ pid = sym (ap (λ (v : Traced). v.pid) (at-ordinary u place)) ∙ at.1.1 in
      let old : z.old ≡ 0 =
      ap (λ (v : Traced). v.old) (at-ordinary u place)
      ∙ none_old place (subst (λ m. place < m) (length-map u.traced unmarked) within) mine in
      read-is pid (ordinary u) (reply.Bytes read.bytes) (ReadingStatus place) at.1.0
      ∙ new-own pid z (status_lwp r.bytes) at.1.1
      ∙ ap (new_of z) w.tells ∙ new-event z w.lwp old on.unseen ∙ w.on

  shows-new : is_selected o event.event ≡ true → (more : ShowsOneMore k o pid before e) × (more.event ≡ event)
  shows-new chosen = shows-read n k o s before later e pid run event file.Status read not_own read-it chosen

-- ---- where truss leaves the process

module _ (n k : ℕ) (o : Options) (s : TracedState) (before later : List Entry) (e : Entry) (pid : ℕ)
    (run : IsFunctionRun n k o s (before ++ e ∷ later)) (looks : LooksLast (functions_at k o before) pid)
    (event : LwpEvent) (w : ReadsLwpsOf k pid (state_after s before) e event)
    (not_own : ReadsNoOwnFault k (functions_at k o before) e) where
  abbrev q : TrussState
  q = functions_at k o before

  abbrev lwps : ReadsFile k pid file.Lstatus (state_after s before) e
  lwps = w.read

  last-read : read_now pid (ordinary q) (reply.Bytes lwps.bytes) ≡ Some event
  unfolding bytes_in
  last-read =
      let z : Traced = traced_at (ordinary q) 0 in
      let same = at-ordinary q 0 in
      read-is pid (ordinary q) (reply.Bytes lwps.bytes) ReadingLwps looks.looks
      ∙ new-own pid z (slice_get (event_stops (Some lwps.bytes)) 0) (ap (λ (v : Traced). v.pid) same ∙ looks.its)
      ∙ ap (new_of z) w.first
      ∙ new-event z w.lwp (ap (λ (v : Traced). v.old) same ∙ looks.none_old)
      (ap (λ (v : Traced). v.seen) same ∙ looks.unseen)
      ∙ w.on

  shows-last : is_selected o event.event ≡ true → (more : ShowsOneMore k o pid before e) × (more.event ≡ event)
  shows-last chosen = shows-read n k o s before later e pid run event file.Lstatus lwps not_own last-read chosen

pub shows-what-is-new : (n k : ℕ) (o : Options) (s : TracedState) (h : List Entry) → IsFunctionRun n k o s h
    → ShowsWhatIsNewOf k o s h
shows-what-is-new n k o s h run = record {
  each = λ before later e pid event is none_old reads not_own chosen.
      shows-new n k o s before later e pid (subst (IsFunctionRun n k o s) is run) none_old event reads not_own chosen;
  last = λ before later e pid event is looks reads not_own chosen.
      shows-last n k o s before later e pid (subst (IsFunctionRun n k o s) is run) looks event reads not_own chosen;
}

pub ruleset new_shown = (shows-what-is-new)
