use Rattle.std.proofs.Common.{◌≡◌, ◌<◌, ◌++◌, ℕ, true, false, cond, Option, Some, List, [], ◌∷◌, length, slice_get, refl, subst, ap, ◌∙◌}
use Rattle.pr_line.specs.Selections.{is_selected}
use Rattle.pr_line.specs.declared.options.Options.{Options}
use Rattle.pr_model.specs.Legal.{state_after}
use Rattle.pr_model.specs.Replies.{bytes_in}
use Rattle.pr_model.specs.State.{TracedState}
use Rattle.pr_model.specs.declared.calls.File.TheVariants as file
use Rattle.pr_model.specs.declared.events.Entry.{Entry}
use Rattle.pr_rec.specs.declared.lwps.LwpStatus.{LwpStatus}
use Rattle.pr_truss.specs.Records.{event_stops, status_lwp}
use Rattle.pr_truss.specs.Trusses.{TrussState, first_truss, traced_at}
use Rattle.pr_truss.specs.declared.processes.Traced.{Traced}
use Rattle.pr_truss.specs.declared.stages.Stage.TheVariants.{ReadingStatus, ReadingLwps}
use Rattle.pr_truss_laws.proofs.Files.HeldLemmas.{Fits}
use Rattle.pr_truss_laws.proofs.OwnBusiness.KnownLemmas.{Knows, after-knows, first-knows}
use Rattle.pr_truss_laws.specs.Exchanges.{exchange_of, exchanges, truss_at}
use Rattle.pr_truss_laws.specs.Runs.{IsTrussRun}
use Rattle.pr_report_laws.proofs.Asking.OnceShown.{shows-stops-once}
use Rattle.pr_report_laws.proofs.Asking.ShownLaws.{shows-read}
use Rattle.pr_report_laws.proofs.Files.FileLaws.{HasFiles}
use Rattle.pr_report_laws.proofs.Files.FileSteps.{MakesNext, makes-next}
use Rattle.pr_report_laws.proofs.Files.FileUses.{standing}
use Rattle.pr_report_laws.proofs.Files.WatchHistories.{Reaches, run-reaches, truss_at-push}
use Rattle.pr_report_laws.proofs.Holding.HoldPlaces.{hold-watched}
use Rattle.pr_report_laws.proofs.Invariant.HistorySteps.{read_of}
use Rattle.pr_report_laws.proofs.Invariant.ShownTallies.{exchange-shows}
use Rattle.pr_report_laws.proofs.Invariant.StandLemmas.{IsAttached, Stands, rest-stays}
use Rattle.pr_report_laws.proofs.Invariant.Tallies.{told_in}
use Rattle.pr_report_laws.proofs.Replies.NewStops.{new-event, new-own, new_of, read-is}
use Rattle.pr_report_laws.proofs.ToldForks.OldHolds.{fits, lwps-stage, status-stage}
use Rattle.pr_report_laws.proofs.ToldForks.ToldReads.{none-old}
use Rattle.pr_report_laws.proofs.Watching.HistoryParts.{front-run, rest-makes}
use Rattle.pr_report_laws.specs.Attachments.{ReadsFile}
use Rattle.pr_report_laws.specs.Reads.{ReadsEvent, by_lwps, by_status}
use Rattle.pr_report_laws.specs.Shown.{LwpEvent, event_told, shown}
use Rattle.pr_report_laws.specs.ShownOnce.{ShowsIn, ShowsWhatIsNew}
use Rattle.pr_report_laws.specs.ToldForks.{HasNoOldStop}

-- Once no old stop of a process is left, truss shows each selected event that it reads.

module _ (n k : ℕ) (o : Options) (pid : ℕ) (s : TracedState) (before later : List Entry) (e : Entry)
    (run : IsTrussRun n k o s (before ++ e ∷ later)) (none : HasNoOldStop k o pid s before) (event : LwpEvent)
    (chosen : is_selected o event.event ≡ true) where
  abbrev t : TrussState
  t = truss_at k o before

  abbrev v : TracedState
  v = state_after s before

  front : IsTrussRun n k o s before
  front = front-run n k o s before (e ∷ later) run

  reached : Reaches k t v
  reached = run-reaches n k o s before front

  files : HasFiles k t v
  files = let g = reached in g.files

  next : MakesNext t (exchange_of k e)
  next = let m = makes-next k t e later (rest-makes n k o s before (e ∷ later) run) in m.0

  -- a status of a process of which no stop is old or was looked at
  told-new : (x : Traced) (l : LwpStatus) → x.pid ≡ pid → x.old ≡ 0 → x.seen ≡ false
      → event_told l ≡ Some event → (y : Option LwpStatus) → y ≡ Some l → new_of x y ≡ Some event
  told-new x l own old unseen tells y is = ap (new_of x) is ∙ new-event x l old unseen ∙ tells

  -- the event is read now
  status-now : ReadsEvent k pid v e event → read_of pid t (exchange_of k e) ≡ Some event
  unfolding bytes_in
  status-now (by_status w) =
      let r : ReadsFile k pid file.Status v e = w.read in
      let at = status-stage k pid t v reached e next file.Status r refl in
      let place = at.0 in
      let x : Traced = traced_at t place in
      let within : place < length t.traced = subst (Fits t.traced) at.1.0 (fits k pid t v reached) in
      let stands : Stands t.traced t.leaving (ReadingStatus place) =
      standing k t v (ReadingStatus place) files at.1.0 in
      let on : IsAttached x = rest-stays t.leaving x (stands.rests place within) stands.leaves in
      ap (read_of pid t) r.is ∙ read-is pid t _ (ReadingStatus place) at.1.0
      ∙ new-own pid x (status_lwp r.bytes) at.1.1
      ∙ told-new x w.lwp at.1.1 (none-old n k o pid s before front none place within at.1.1) on.unseen w.on
      (status_lwp r.bytes) w.tells
  status-now (by_lwps w) =
      let r : ReadsFile k pid file.Lstatus v e = w.read in
      let watched = hold-watched n k o pid s before front none.held in
      let at = lwps-stage k pid t v reached e next file.Lstatus r refl watched in
      let x : Traced = traced_at t 0 in
      let within : 0 < length t.traced = subst (Fits t.traced) at.0 (fits k pid t v reached) in
      let stands : Stands t.traced t.leaving ReadingLwps = standing k t v ReadingLwps files at.0 in
      let on : IsAttached x = stands.at in
      ap (read_of pid t) r.is ∙ read-is pid t _ ReadingLwps at.0
      ∙ new-own pid x (slice_get (event_stops (Some r.bytes)) 0) at.1
      ∙ told-new x w.lwp at.1 (none-old n k o pid s before front none 0 within at.1) on.unseen w.on
      (slice_get (event_stops (Some r.bytes)) 0) w.first

  options : t.options ≡ o
  options =
      let run_before = front in
      let knows : Knows o (exchanges k before) t =
      after-knows o (exchanges k before) [] (first_truss o) (first-knows o) run_before.makes in
      knows.options

  pub shows-new : ReadsEvent k pid v e event → (w : ShowsIn k o pid before e) × (w.event ≡ event)
  shows-new reads = (
    record {
      event = event;
      is =
          ap (shown pid) (truss_at-push k o before e) ∙ exchange-shows o pid t (exchange_of k e) options
          ∙ ap (λ (x : Option LwpEvent). shown pid t ++ told_in (is_selected o) x) (status-now reads)
          ∙ ap (λ b. shown pid t ++ cond {A = List LwpEvent} b (event ∷ []) []) chosen;
    },
    refl,
  )

pub shows-what-is-new : (n k : ℕ) (o : Options) (first : TracedState) (h : List Entry) → IsTrussRun n k o first h
    → ShowsWhatIsNew k o first h
shows-what-is-new n k o first h run = record {
  each = λ before later e pid event is none reads chosen.
      shows-new n k o pid first before later e (subst (IsTrussRun n k o first) is run) none event chosen reads;
}

pub ruleset shown_laws = (shows-read, shows-stops-once, shows-what-is-new)
