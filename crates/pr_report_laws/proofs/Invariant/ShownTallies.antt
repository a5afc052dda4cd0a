use Rattle.std.proofs.Common.{◌≡◌, ◌++◌, ◌⊎◌, ℕ, Option, Some, None, List, [], ◌∷◌, sym, subst, ap, ◌∙◌, append_assoc}
use Rattle.std.proofs.lemmas.List.{append-nil}
use Rattle.pr_line.specs.Selections.{is_selected}
use Rattle.pr_line.specs.declared.options.Options.{Options}
use Rattle.pr_model.specs.Legal.{after}
use Rattle.pr_model.specs.State.{TracedState}
use Rattle.pr_model.specs.declared.events.Entry.{Entry}
use Rattle.pr_truss.specs.Trusses.{TrussState, first_truss}
use Rattle.pr_truss_laws.specs.Exchanges.{Exchange, exchange_of, exchanges, truss_after}
use Rattle.pr_report_laws.specs.ReachedRuns.{IsReachedTrussRun}
use Rattle.pr_report_laws.proofs.Invariant.EntrySteps.{EndsByKill}
use Rattle.pr_report_laws.proofs.Invariant.HistoryLaw.{Along, OpensAtBirth, after-next, along-next, first-along, first-is, no-exchanges, told_along}
use Rattle.pr_report_laws.proofs.Invariant.HistorySteps.{Holds, picked_of, read_of, tally_after}
use Rattle.pr_report_laws.proofs.Invariant.Tallies.{Tally, told_in}
use Rattle.pr_report_laws.proofs.Invariant.UnreadLaws.{TellsAll, truss-told}
use Rattle.pr_report_laws.proofs.Machine.SelectedPoints.{selects-traced}
use Rattle.pr_report_laws.proofs.Replies.OptionLemmas.{told-options}
use Rattle.pr_report_laws.proofs.Replies.ShownReads.{shown-fed}
use Rattle.pr_report_laws.specs.Reported.{IsReported}
use Rattle.pr_report_laws.specs.Shown.{LwpEvent, shown}
use Rattle.pr_report_laws.specs.Watching.{fed_by_entry, with_exchange}

-- What truss has shown of a process is what it was told of the events that its options select.

-- what is selected of a process, and what truss has shown of it
abbrev pub shown_tally : Options → ℕ → TrussState → List LwpEvent → Tally
shown_tally o pid t came = record { picks = is_selected o; came = came; told = shown pid t }

-- what was selected of an entry while truss watched
abbrev pub selected_of : Options → ℕ → TrussState → TracedState → Entry → List LwpEvent
selected_of o pid t s e = picked_of (is_selected o) pid t s e

-- ---- one entry

pub exchange-shows : (o : Options) (pid : ℕ) (t : TrussState) (x : Option Exchange) → t.options ≡ o
    → shown pid (with_exchange t x) ≡ shown pid t ++ told_in (is_selected o) (read_of pid t x)
exchange-shows o pid t None options = sym (append-nil (shown pid t))
exchange-shows o pid t (Some x) options =
    shown-fed pid t x.reply
    ∙ ap (λ (p : Options). shown pid t ++ told_in (is_selected p) (read_of pid t (Some x))) options

entry-tally : (k : ℕ) (o : Options) (pid : ℕ) (t : TrussState) (s : TracedState) (base : List LwpEvent) (e : Entry)
    → t.options ≡ o
    → tally_after k pid t s (shown_tally o pid t base) e ≡
    shown_tally o pid (fed_by_entry k t e) (base ++ selected_of o pid t s e)
entry-tally k o pid t s base e options =
    ap (λ (xs : List LwpEvent). let y : Tally = record {
      picks = is_selected o;
      came = base ++ selected_of o pid t s e;
      told = xs;
    } in y)
    (sym (exchange-shows o pid t (exchange_of k e) options))

-- ---- along a history

pub shown-next : (K : Type 0) (n k : ℕ) (o : Options) (pid : ℕ) (t : TrussState) (s : TracedState)
    (base : List LwpEvent) (e : Entry) (h : List Entry) → Along K n k o pid t s (shown_tally o pid t base) (e ∷ h)
    → Along (K ⊎ EndsByKill pid t s e) n k o pid (fed_by_entry k t e) (after s e)
    (shown_tally o pid (fed_by_entry k t e) (base ++ selected_of o pid t s e)) h
shown-next K n k o pid t s base e h g =
    let holds : Holds K k o pid t s (shown_tally o pid t base) = g.holds in
    subst (λ (y : Tally). Along (K ⊎ EndsByKill pid t s e) n k o pid (fed_by_entry k t e) (after s e) y h)
    (entry-tally k o pid t s base e holds.options)
    (along-next K n k o pid t s (shown_tally o pid t base) e h g)

-- truss has shown nothing before its first call
pub shown-first : (n k : ℕ) (o : Options) (pid : ℕ) (s : TracedState) (h : List Entry)
    → IsReachedTrussRun n k o s h → OpensAtBirth k o pid s h
    → Along ⊥ n k o pid (first_truss o) s (shown_tally o pid (first_truss o) []) h
shown-first n k o pid s h run births =
    let first = first-is o pid in
    subst (λ (xs : List LwpEvent). let y : Tally = record {
      picks = is_selected o;
      came = [];
      told = xs;
    } in Along ⊥ n k o pid (first_truss o) s y h)
    (sym first.nothing)
    (first-along (is_selected o) n k o pid s h (selects-traced o) run births)

pub shown-along : (k : ℕ) (o : Options) (pid : ℕ) (t : TrussState) (h : List Entry) → t.options ≡ o
    → shown pid (truss_after t (exchanges k h)) ≡ shown pid t ++ told_along (is_selected o) k pid t h
shown-along k o pid t [] options = ap (shown pid) (no-exchanges k t) ∙ sym (append-nil (shown pid t))
shown-along k o pid t (e ∷ h) options =
    ap (shown pid) (after-next k t e h) ∙ shown-along k o pid (fed_by_entry k t e) h (told-options k t e ∙ options)
    ∙ ap (λ (xs : List LwpEvent). xs ++ told_along (is_selected o) k pid (fed_by_entry k t e) h)
    (exchange-shows o pid t (exchange_of k e) options)
    ∙ append_assoc (shown pid t) (told_in (is_selected o) (read_of pid t (exchange_of k e)))
    (told_along (is_selected o) k pid (fed_by_entry k t e) h)

pub shown-all-along : (k : ℕ) (o : Options) (pid : ℕ) (h : List Entry)
    → shown pid (truss_after (first_truss o) (exchanges k h)) ≡ told_along (is_selected o) k pid (first_truss o) h
shown-all-along k o pid h =
    let first = first-is o pid in
    shown-along k o pid (first_truss o) h first.options
    ∙ ap (λ (xs : List LwpEvent). xs ++ told_along (is_selected o) k pid (first_truss o) h) first.nothing

-- ---- the law

pub truss-reports : (n k : ℕ) (o : Options) (pid : ℕ) (s : TracedState) (h : List Entry)
    → IsReachedTrussRun n k o s h → OpensAtBirth k o pid s h → IsReported k o pid s h
truss-reports n k o pid s h run births =
    let r : TellsAll (is_selected o) k o pid s h =
    truss-told (is_selected o) n k o pid s h (selects-traced o) run births in
    record {
      missing = r.missing;
      is = r.is ∙ ap (λ (xs : List LwpEvent). xs ++ r.missing) (sym (shown-all-along k o pid h));
      few = r.few;
    }
