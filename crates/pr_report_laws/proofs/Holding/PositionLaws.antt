use Rattle.std.proofs.Common.{◌≡◌, ◌⊎◌, ◌++◌, ℕ, true, Some, List, [], ◌∷◌, sym, subst, ap, ap₂, ◌∙◌, append_assoc, inl, inr}
use Rattle.std.proofs.lemmas.Bool.{false≢true}
use Rattle.std.proofs.lemmas.List.{append-nil}
use Rattle.std.proofs.lemmas.Option.{none-some, same_Some}
use Rattle.pr_line.specs.declared.options.Options.{Options}
use Rattle.pr_model.specs.Events.{Logged}
use Rattle.pr_model.specs.Legal.{after, state_after}
use Rattle.pr_model.specs.State.{TracedProcess, TracedState, live_process}
use Rattle.pr_model.specs.declared.events.Entry.{Entry}
use Rattle.pr_truss.specs.Trusses.{TrussState, first_truss, traced_at}
use Rattle.pr_truss_laws.specs.Exchanges.{exchange_of, exchanges, truss_after, truss_at}
use Rattle.pr_report_laws.specs.ReachedRuns.{IsReachedTrussRun}
use Rattle.pr_report_laws.proofs.Files.WatchHistories.{first-reaches}
use Rattle.pr_report_laws.proofs.Holding.HeldLaws.{never-followed}
use Rattle.pr_report_laws.proofs.Holding.HoldEvents.{came-is}
use Rattle.pr_report_laws.proofs.Holding.HoldPlaces.{came, hold-watched}
use Rattle.pr_report_laws.proofs.Invariant.EntrySteps.{EndsByKill, Lost}
use Rattle.pr_report_laws.proofs.Invariant.HistoryLaw.{Along, OpensAtBirth, after-next, along-next, first-along, first_tally, no-exchanges, told_along, watched-next}
use Rattle.pr_report_laws.proofs.Invariant.HistorySteps.{Holds, read_of, tally_after}
use Rattle.pr_report_laws.proofs.Invariant.Standing.{Standing, apart, lives, over}
use Rattle.pr_report_laws.proofs.Invariant.Tallies.{told_in}
use Rattle.pr_report_laws.proofs.Machine.TracedPoints.{picks-traced}
use Rattle.pr_report_laws.proofs.Reading.ReadLaws.{are-read}
use Rattle.pr_report_laws.proofs.UnopenedChildren.Births.{births, unfollowed-births}
use Rattle.pr_report_laws.specs.AsChildren.{IsNeverOpenedAsChild}
use Rattle.pr_report_laws.specs.AtBirth.{IsTracedBy}
use Rattle.pr_report_laws.specs.Lineages.{IsLeftToTruss}
use Rattle.pr_report_laws.specs.Positions.{Position, StandsWithTruss, Tally}
use Rattle.pr_report_laws.specs.Reads.{traced, traces}
use Rattle.pr_report_laws.specs.Shown.{LwpEvent, picked}
use Rattle.pr_report_laws.specs.Watching.{events_watched, fed_by_entry, place_of, watches}

-- How a process stands with truss after a history.

module _ (n k : ℕ) (o : Options) (pid : ℕ) (p : TracedProcess) where
  -- how it stands, where so much came and was told
  record Placed (t : TrussState) (tally : Tally) : Type 0 where
    traced_so : IsTracedBy o p
    place : ℕ
    at : place_of t pid ≡ Some place
    position : Position o t.stage place (traced_at t place).old p tally

  placed-now : (Why : Type 0) (t : TrussState) (s : TracedState) (tally : Tally) → Standing Why o pid t s tally
      → watches t pid ≡ true → live_process s.system pid ≡ Some p → Placed t tally
  placed-now Why t s tally (apart off a) on live = absurd (false≢true (sym off ∙ on))
  placed-now Why t s tally (over watched none a) on live = absurd (none-some p (sym none ∙ live))
  placed-now Why t s tally (lives place q at attached here there traced_so position) on live =
      let same : q ≡ p = same_Some q p (sym there ∙ live) in
      record {
        traced_so = subst (IsTracedBy o) same traced_so;
        place = place;
        at = at;
        position =
            subst (λ (x : TracedProcess). Position o t.stage place (traced_at t place).old x tally) same position;
      }

  -- what came and was told after these entries
  abbrev tally_end : TrussState → TracedState → Tally → List Entry → Tally
  tally_end t s y h = record y {
    came = y.came ++ picked y.picks pid (events_watched k pid t s h);
    told = y.told ++ told_along y.picks k pid t h;
  }

  tally-none : (t : TrussState) (s : TracedState) (y : Tally) → tally_end t s y [] ≡ y
  unfolding picked
  tally-none t s y =
      ap₂ (λ (xs ys : List LwpEvent). record y { came = xs; told = ys }) (append-nil y.came) (append-nil y.told)

  tally-next : (t : TrussState) (s : TracedState) (y : Tally) (e : Entry) (h : List Entry)
      → tally_end (fed_by_entry k t e) (after s e) (tally_after k pid t s y e) h ≡ tally_end t s y (e ∷ h)
  tally-next t s y e h =
      ap₂ (λ (xs ys : List LwpEvent). record y { came = xs; told = ys })
      (sym (watched-next k o pid y.picks t s y.came e h))
      (append_assoc y.told (told_in y.picks (read_of pid t (exchange_of k e)))
      (told_along y.picks k pid (fed_by_entry k t e) h))

  placed-end : (h : List Entry) (K : Type 0) (t : TrussState) (s : TracedState) (tally : Tally)
      → Along K n k o pid t s tally h → watches (truss_after t (exchanges k h)) pid ≡ true
      → live_process (state_after s h).system pid ≡ Some p
      → Placed (truss_after t (exchanges k h)) (tally_end t s tally h)
  placed-end [] K t s tally g on live =
      let holds : Holds K k o pid t s tally = g.holds in
      subst (λ (u : TrussState). Placed u (tally_end t s tally [])) (sym (no-exchanges k t))
      (subst (λ (y : Tally). Placed t y) (sym (tally-none t s tally))
      (placed-now (Lost K pid s) t s tally holds.standing
      (ap (λ (u : TrussState). watches u pid) (sym (no-exchanges k t)) ∙ on) live))
  placed-end (e ∷ h) K t s tally g on live =
      let later =
      placed-end h (K ⊎ EndsByKill pid t s e) (fed_by_entry k t e) (after s e) (tally_after k pid t s tally e)
      (along-next K n k o pid t s tally e h g)
      (ap (λ (u : TrussState). watches u pid) (sym (after-next k t e h)) ∙ on) live in
      subst (λ (u : TrussState). Placed u (tally_end t s tally (e ∷ h))) (sym (after-next k t e h))
      (subst (λ (y : Tally). Placed (truss_after (fed_by_entry k t e) (exchanges k h)) y)
      (tally-next t s tally e h) later)

born-stands : (n k : ℕ) (o : Options) (pid : ℕ) (s : TracedState) (h : List Entry)
    → IsReachedTrussRun n k o s h → OpensAtBirth k o pid s h → StandsWithTruss k o pid s h
born-stands n k o pid s h run born = record {
  each = λ p held live.
      let g = first-along (traces o) n k o pid s h (picks-traced o) run born in
      let w =
      placed-end n k o pid p h ⊥ (first_truss o) s (first_tally (traces o)) g (hold-watched n k o pid s h run.of held)
      live in
      let c = came n k o pid s h run.of in
      record {
        traced_so = w.traced_so;
        place = w.place;
        at = w.at;
        events = told_along (traces o) k pid (first_truss o) h;
        read =
            are-read (traces o) n k pid h (first_truss o) s (first-reaches k o s run.of.lawful run.of.nothing_open)
            run.of.legal run.of.makes;
        logged = c.logged;
        held = c.held;
        position =
            subst (λ (ls : List Logged). Position o (truss_at k o h).stage w.place
            (traced_at (truss_at k o h) w.place).old p
            (record {
              picks = traces o;
              came = traced o pid ls;
              told = told_along (traces o) k pid (first_truss o) h;
            })) (came-is n k o pid s h run.of c.logged c.held) w.position;
      };
}

pub stands-with-truss : (n k : ℕ) (o : Options) (pid : ℕ) (s : TracedState) (h : List Entry)
    → IsReachedTrussRun n k o s h → IsLeftToTruss k o pid s h ⊎ IsNeverOpenedAsChild k o pid s h
    → StandsWithTruss k o pid s h
stands-with-truss n k o pid s h run (inl left) =
    born-stands n k o pid s h run (births n k o pid s h run left)
stands-with-truss n k o pid s h run (inr unopened) =
    born-stands n k o pid s h run
    (unfollowed-births k o pid s h (never-followed n k o pid s h run.of unopened))

pub ruleset positions = (stands-with-truss)
