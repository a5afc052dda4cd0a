use Rattle.std.proofs.Common.{◌≡◌, ◌++◌, ℕ, Bool, true, false, cond, Option, Some, None, List, [], ◌∷◌, refl, subst, ap, ◌∙◌}
use Rattle.std.proofs.lemmas.List.{append-nil}
use Rattle.pr_line.specs.Selections.{is_selected}
use Rattle.pr_line.specs.declared.options.Options.{Options}
use Rattle.pr_model.specs.Legal.{state_after}
use Rattle.pr_model.specs.State.{TracedState}
use Rattle.pr_model.specs.declared.events.Entry.{Entry}
use Rattle.pr_truss.specs.Trusses.{TrussState, first_truss}
use Rattle.pr_truss_laws.proofs.OwnBusiness.KnownLemmas.{Knows, after-knows, first-knows}
use Rattle.pr_truss_laws.specs.Exchanges.{exchange_of, exchanges, truss_at}
use Rattle.pr_truss_laws.specs.Runs.{IsTrussRun}
use Rattle.pr_report_laws.proofs.Files.FileSteps.{makes-next}
use Rattle.pr_report_laws.proofs.Files.WatchHistories.{run-reaches, truss_at-push}
use Rattle.pr_report_laws.proofs.Invariant.HistorySteps.{read_of}
use Rattle.pr_report_laws.proofs.Invariant.ShownTallies.{exchange-shows}
use Rattle.pr_report_laws.proofs.Invariant.Tallies.{told_in}
use Rattle.pr_report_laws.proofs.Reading.NewReads.{entry-event}
use Rattle.pr_report_laws.proofs.Watching.HistoryParts.{front-run, rest-makes}
use Rattle.pr_report_laws.specs.Reads.{ReadsEvent}
use Rattle.pr_report_laws.specs.Shown.{LwpEvent, shown}
use Rattle.pr_report_laws.specs.ShownOnce.{Shows, ShowsWhatItReads, nothing_new, one_more}

-- Whatever truss shows, of any process, it reads right then.

module _ (k : ℕ) (o : Options) (pid : ℕ) (s : TracedState) (before : List Entry) (e : Entry)
    (options : (truss_at k o before).options ≡ o)
    (reads : (event : LwpEvent) → read_of pid (truss_at k o before) (exchange_of k e) ≡ Some event
    → ReadsEvent k pid (state_after s before) e event) where
  abbrev t : TrussState
  t = truss_at k o before

  shown-now : shown pid (truss_at k o (before ++ e ∷ []))
      ≡ shown pid t ++ told_in (is_selected o) (read_of pid t (exchange_of k e))
  shown-now = ap (shown pid) (truss_at-push k o before e) ∙ exchange-shows o pid t (exchange_of k e) options

  none-new : told_in (is_selected o) (read_of pid t (exchange_of k e)) ≡ [] → Shows k o pid s before e
  none-new none =
      nothing_new (shown-now ∙ ap (λ (xs : List LwpEvent). shown pid t ++ xs) none ∙ append-nil (shown pid t))

  shows-or : Shows k o pid s before e
  shows-or = by (read_of pid t (exchange_of k e)) refl
    where
      chosen : (event : LwpEvent) (b : Bool) → is_selected o event.event ≡ b
          → read_of pid t (exchange_of k e) ≡ Some event → Shows k o pid s before e
      chosen event true is read =
          one_more (record {
            event = event;
            is = shown-now
                ∙ ap (λ (x : Option LwpEvent). shown pid t ++ told_in (is_selected o) x) read
                ∙ ap (λ b. shown pid t ++ cond {A = List LwpEvent} b (event ∷ []) []) is;
          }) (reads event read)
      chosen event false is read =
          none-new
          (ap (told_in (is_selected o)) read ∙ ap (λ b. cond {A = List LwpEvent} b (event ∷ []) []) is)

      by : (x : Option LwpEvent) → read_of pid t (exchange_of k e) ≡ x → Shows k o pid s before e
      by None read = none-new (ap (told_in (is_selected o)) read)
      by (Some event) read = chosen event (is_selected o event.event) refl read

pub shows-read : (n k : ℕ) (o : Options) (s : TracedState) (h : List Entry) → IsTrussRun n k o s h
    → ShowsWhatItReads k o s h
shows-read n k o s h run = record {
  each = λ before later e pid is.
      let all : IsTrussRun n k o s (before ++ e ∷ later) = subst (IsTrussRun n k o s) is run in
      let front = front-run n k o s before (e ∷ later) all in
      let knows : Knows o (exchanges k before) (truss_at k o before) =
      after-knows o (exchanges k before) [] (first_truss o) (first-knows o) front.makes in
      let next = makes-next k (truss_at k o before) e later (rest-makes n k o s before (e ∷ later) all) in
      shows-or k o pid s before e knows.options
      (λ event read. entry-event k pid (truss_at k o before) (state_after s before) e
      (run-reaches n k o s before front) next.0 event read);
}
