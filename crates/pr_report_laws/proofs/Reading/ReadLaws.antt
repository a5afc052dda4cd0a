use Rattle.std.proofs.Common.{◌≡◌, ◌++◌, ℕ, Bool, true, false, cond, Option, Some, None, List, [], ◌∷◌, filter, refl, sym, ap, ◌∙◌}
use Rattle.std.proofs.lemmas.List.Elements.{filter-append}
use Rattle.pr_line.specs.Selections.{is_selected}
use Rattle.pr_line.specs.declared.events.Event.{Event}
use Rattle.pr_line.specs.declared.options.Options.{Options}
use Rattle.pr_model.specs.Legal.{IsLegal, after}
use Rattle.pr_model.specs.State.{TracedState}
use Rattle.pr_model.specs.declared.events.Entry.{Entry}
use Rattle.pr_truss.specs.Trusses.{TrussState, first_truss}
use Rattle.pr_truss_laws.specs.Exchanges.{Makes, exchange_of, exchanges}
use Rattle.pr_report_laws.specs.ReachedRuns.{IsReachedTrussRun}
use Rattle.pr_report_laws.proofs.Files.FileSteps.{makes-next}
use Rattle.pr_report_laws.proofs.Files.WatchHistories.{Reaches, entry-reaches, first-reaches}
use Rattle.pr_report_laws.proofs.Invariant.HistoryLaw.{OpensAtBirth, told_along}
use Rattle.pr_report_laws.proofs.Invariant.HistorySteps.{read_of}
use Rattle.pr_report_laws.proofs.Invariant.ShownTallies.{shown-all-along}
use Rattle.pr_report_laws.proofs.Invariant.Tallies.{told_in}
use Rattle.pr_report_laws.proofs.Invariant.UnreadLaws.{TellsAll, truss-told}
use Rattle.pr_report_laws.proofs.Machine.SelectedPoints.{selects-traced}
use Rattle.pr_report_laws.proofs.Machine.TracedPoints.{PicksTraced, picks-traced}
use Rattle.pr_report_laws.proofs.Reading.NewReads.{entry-event}
use Rattle.pr_report_laws.proofs.UnopenedChildren.Births.{all-left, births, opens-birth, unfollowed-births}
use Rattle.pr_report_laws.specs.AtBirth.{IsFollowedAtBirth}
use Rattle.pr_report_laws.specs.Births.{IsNeverFollowed, LeavesForks, NamesNoChild}
use Rattle.pr_report_laws.specs.Lineages.{IsLeftToTruss}
use Rattle.pr_report_laws.specs.Reads.{AreRead, HasRead, ReadsEvent, is_chosen_of, later, none, now, traces}
use Rattle.pr_report_laws.specs.Shown.{LwpEvent}
use Rattle.pr_report_laws.specs.Watching.{fed_by_entry}

-- What truss has read of a process along a history, and what it has shown of that.

-- ---- each event has a read of its own

module _ (picks : Event → Bool) (n k pid : ℕ) where
  read-first : (t : TrussState) (s : TracedState) (e : Entry) (h : List Entry) (events : List LwpEvent)
      → ((event : LwpEvent) → read_of pid t (exchange_of k e) ≡ Some event → ReadsEvent k pid s e event)
      → AreRead k pid (after s e) h events
      → AreRead k pid s (e ∷ h) (told_in picks (read_of pid t (exchange_of k e)) ++ events)
  read-first t s e h events reads rest = by (read_of pid t (exchange_of k e)) refl
    where
      by : (x : Option LwpEvent) → read_of pid t (exchange_of k e) ≡ x
          → AreRead k pid s (e ∷ h) (told_in picks x ++ events)
      by None nothing = later rest
      by (Some event) is = chosen (picks event.event)
        where
          chosen : (b : Bool) → AreRead k pid s (e ∷ h) (cond b (event ∷ []) [] ++ events)
          chosen true = now (reads event is) rest
          chosen false = later rest

  pub are-read : (h : List Entry) (t : TrussState) (s : TracedState) → Reaches k t s → IsLegal n s h
      → Makes t (exchanges k h) → AreRead k pid s h (told_along picks k pid t h)
  are-read [] t s g legal makes = none
  are-read (e ∷ h) t s g legal makes =
      let next = makes-next k t e h makes in
      read-first t s e h (told_along picks k pid (fed_by_entry k t e) h)
      (λ event is. entry-event k pid t s e g next.0 event is)
      (are-read h (fed_by_entry k t e) (after s e) (entry-reaches n k t s e g legal.0 next.0) legal.1 next.1)

-- ---- what is shown was read

chosen-one : (o : Options) (x : Option LwpEvent)
    → told_in (is_selected o) x ≡ filter (is_chosen_of o) (told_in (traces o) x)
chosen-one o None = refl
chosen-one o (Some e) = by (traces o e.event) refl
  where
    by : (b : Bool) → traces o e.event ≡ b
        → cond (is_selected o e.event) (e ∷ []) [] ≡ filter (is_chosen_of o) (cond b (e ∷ []) [])
    by true traced = refl
    by false untraced =
        let within : PicksTraced o (is_selected o) = selects-traced o in
        ap (λ b. cond {A = List LwpEvent} b (e ∷ []) []) (within.untraced e.event untraced)

chosen-along : (k : ℕ) (o : Options) (pid : ℕ) (t : TrussState) (h : List Entry)
    → told_along (is_selected o) k pid t h ≡ filter (is_chosen_of o) (told_along (traces o) k pid t h)
chosen-along k o pid t [] = refl
chosen-along k o pid t (e ∷ h) =
    let x : Option LwpEvent = read_of pid t (exchange_of k e) in
    ap (λ (xs : List LwpEvent). xs ++ told_along (is_selected o) k pid (fed_by_entry k t e) h) (chosen-one o x)
    ∙ ap (λ (xs : List LwpEvent). filter (is_chosen_of o) (told_in (traces o) x) ++ xs)
    (chosen-along k o pid (fed_by_entry k t e) h)
    ∙ sym (filter-append (is_chosen_of o) (told_in (traces o) x) (told_along (traces o) k pid (fed_by_entry k t e) h))

-- ---- the law

born-reads : (n k : ℕ) (o : Options) (pid : ℕ) (s : TracedState) (h : List Entry)
    → IsReachedTrussRun n k o s h → OpensAtBirth k o pid s h → HasRead k o pid s h
born-reads n k o pid s h run born =
    let r : TellsAll (traces o) k o pid s h = truss-told (traces o) n k o pid s h
    (picks-traced o) run born in
    record {
      events = told_along (traces o) k pid (first_truss o) h;
      read =
          are-read (traces o) n k pid h (first_truss o) s (first-reaches k o s run.of.lawful run.of.nothing_open)
          run.of.legal run.of.makes;
      missing = r.missing;
      came = r.is;
      few = r.few;
      shows = shown-all-along k o pid h ∙ chosen-along k o pid (first_truss o) h;
    }

pub lineage-reads : (n k : ℕ) (o : Options) (pid : ℕ) (s : TracedState) (h : List Entry)
    → IsReachedTrussRun n k o s h → IsLeftToTruss k o pid s h → HasRead k o pid s h
lineage-reads n k o pid s h run left =
    born-reads n k o pid s h run (births n k o pid s h run left)

pub birth-reads : (n k : ℕ) (o : Options) (pid : ℕ) (s : TracedState) (h : List Entry)
    → IsReachedTrussRun n k o s h → IsFollowedAtBirth k o pid s h → HasRead k o pid s h
birth-reads n k o pid s h run at =
    born-reads n k o pid s h run (opens-birth k o pid s h at)

pub left-reads : (n k : ℕ) (o : Options) (pid : ℕ) (s : TracedState) (h : List Entry)
    → IsReachedTrussRun n k o s h → NamesNoChild o h → LeavesForks k o h → HasRead k o pid s h
left-reads n k o pid s h run named forks =
    lineage-reads n k o pid s h run (all-left k o pid s h named forks)

pub unfollowed-reads : (n k : ℕ) (o : Options) (pid : ℕ) (s : TracedState) (h : List Entry)
    → IsReachedTrussRun n k o s h → IsNeverFollowed k o pid h → HasRead k o pid s h
unfollowed-reads n k o pid s h run unfollowed =
    born-reads n k o pid s h run (unfollowed-births k o pid s h unfollowed)

pub ruleset readings = (lineage-reads, birth-reads, left-reads, unfollowed-reads)
