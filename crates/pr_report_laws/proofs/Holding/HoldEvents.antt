use Rattle.std.proofs.Common.{◌≡◌, ◌++◌, ◌⊎◌, ℕ, Bool, true, false, cond, List, [], ◌∷◌, refl, sym, subst, ap, ap₂, ◌∙◌, append_assoc, inl, inr}
use Rattle.std.proofs.lemmas.Bool.{cases_Bool}
use Rattle.std.proofs.lemmas.List.{append-nil}
use Rattle.pr_line.specs.declared.options.Options.{Options}
use Rattle.pr_model.proofs.HistoryLemmas.{state_after-push}
use Rattle.pr_model.specs.Events.{Logged, events_from, events_of}
use Rattle.pr_model.specs.Legal.{after, state_after}
use Rattle.pr_model.specs.State.{TracedState}
use Rattle.pr_model.specs.declared.events.Entry.{Entry}
use Rattle.pr_truss.specs.Trusses.{TrussState, first_truss}
use Rattle.pr_truss_laws.specs.Exchanges.{exchanges, truss_after, truss_at}
use Rattle.pr_truss_laws.specs.Runs.{IsTrussRun}
use Rattle.pr_report_laws.proofs.Files.WatchHistories.{truss_at-push}
use Rattle.pr_report_laws.proofs.Holding.HoldPlaces.{gets-off, gets-on, keeps-on, keeps-rest, keeps-still, more-run, one-run, watched-hold}
use Rattle.pr_report_laws.proofs.Holding.OverEnds.{goes-off}
use Rattle.pr_report_laws.proofs.Invariant.UnreadLaws.{state_after-append}
use Rattle.pr_report_laws.proofs.Watching.GripLaws.{IsUnwatched, events_watched-append, front-unwatched, unwatched-none}
use Rattle.pr_report_laws.proofs.Watching.HistoryParts.{front-run, truss_at-both}
use Rattle.pr_report_laws.proofs.Watching.OnceLaws.{PastAfter, past-after, past-let}
use Rattle.pr_report_laws.proofs.Watching.QuietOpenings.{own-logs}
use Rattle.pr_report_laws.specs.Holds.{CameHeld, HasHold, IsHold, IsNeverHeld, KeepsHold, LetsGoIn, LetsGoThen, ends_in, in_hold, leaves_it, never, not_yet, told_end}
use Rattle.pr_report_laws.specs.Watching.{events_watched, fed_by_entry, watches}

-- What comes while truss watches a process is what comes while it has hold of it.

module _ (n k : ℕ) (o : Options) (pid : ℕ) (s : TracedState) where
  abbrev Run : List Entry → Type 0
  Run h = IsTrussRun n k o s h

  abbrev On : List Entry → Type 0
  On h = watches (truss_at k o h) pid ≡ true

  -- ---- in the hold

  hold-logs : (hold before : List Entry) → Run (before ++ hold) → On before → KeepsHold k pid s before hold
      → events_watched k pid (truss_at k o before) (state_after s before) hold ≡ events_from (state_after s before) hold
  hold-logs [] before run on keeps = refl
  hold-logs (e ∷ hold) before run on keeps =
      let t : TrussState = truss_at k o before in
      let now : TracedState = state_after s before in
      let told : fed_by_entry k t e ≡ truss_at k o (before ++ e ∷ []) = sym (truss_at-push k o before e) in
      let next : after now e ≡ state_after s (before ++ e ∷ []) = sym (state_after-push s before e) in
      let rest =
      hold-logs hold (before ++ e ∷ []) (more-run n k o pid s before hold e run)
      (keeps-still n k o pid s before hold e run on keeps) (keeps-rest n k o pid s before hold e keeps) in
      ap (λ b. cond b (events_of now e) [] ++ events_watched k pid (fed_by_entry k t e) (after now e) hold) on
      ∙ ap (λ (ls : List Logged). events_of now e ++ ls)
      (ap₂ (λ (u : TrussState) (v : TracedState). events_watched k pid u v hold) told next ∙ rest
      ∙ ap (λ (v : TracedState). events_from v hold) (sym next))

  -- ---- after it

  -- a call of truss logs nothing
  goes-logs : (before : List Entry) (e : Entry) → LetsGoIn k pid s before e
      → cond (watches (truss_at k o before) pid) (events_of (state_after s before) e) [] ≡ []
  goes-logs before e w = by (watches (truss_at k o before) pid)
    where
      none : LetsGoIn k pid s before e → events_of (state_after s before) e ≡ []
      none (told_end x) = own-logs k (state_after s before) e _ x.is
      none (leaves_it x) = let r = x.reads in own-logs k (state_after s before) e _ r.is

      by : (b : Bool) → cond b (events_of (state_after s before) e) [] ≡ []
      by true = none w
      by false = refl

  off-later : (later before : List Entry) → Run (before ++ later) → PastAfter n k o pid s before
      → IsUnwatched k pid (truss_at k o before) later
  off-later later before run past = record {
    off = λ first rest f is.
        let whole : before ++ later ≡ (before ++ first) ++ f ∷ rest =
        ap (λ (es : List Entry). before ++ es) is ∙ sym (append_assoc before first (f ∷ rest)) in
        let here : Run (before ++ first) = front-run n k o s (before ++ first) (f ∷ rest) (subst Run whole run) in
        let p = past-after n k o pid s first before here past in
        ap (λ (u : TrussState). watches u pid) (sym (truss_at-both k o before first)) ∙ p.off;
  }

  later-none : (later before : List Entry) → Run (before ++ later) → On before → LetsGoThen k pid s before later
      → events_watched k pid (truss_at k o before) (state_after s before) later ≡ []
  later-none [] before run on not_yet = refl
  later-none (e ∷ later) before run on (ends_in _ _ w) =
      let t : TrussState = truss_at k o before in
      let now : TracedState = state_after s before in
      let told : fed_by_entry k t e ≡ truss_at k o (before ++ e ∷ []) = sym (truss_at-push k o before e) in
      let next : after now e ≡ state_after s (before ++ e ∷ []) = sym (state_after-push s before e) in
      let one = one-run n k o pid s before later e run in
      let past = past-let n k o pid s before e one on (goes-off n k o pid s before e one on w) in
      ap₂ (λ (xs ys : List Logged). xs ++ ys) (goes-logs before e w)
      (ap₂ (λ (u : TrussState) (v : TracedState). events_watched k pid u v later) told next
      ∙ unwatched-none k pid later (truss_at k o (before ++ e ∷ [])) (state_after s (before ++ e ∷ []))
      (off-later later (before ++ e ∷ []) (more-run n k o pid s before later e run) past))

  -- ---- the whole history

  parts-logs : (front hold later : List Entry) (opening : Entry)
      → Run ((front ++ opening ∷ []) ++ (hold ++ later)) → IsHold k o pid s front opening hold later
      → events_watched k pid (first_truss o) s ((front ++ opening ∷ []) ++ (hold ++ later))
      ≡ events_from (state_after s (front ++ opening ∷ [])) hold
  parts-logs front hold later opening run w =
      let h : List Entry = front ++ opening ∷ [] in
      let one : Run h = front-run n k o s h (hold ++ later) run in
      let both : Run ((h ++ hold) ++ later) = subst Run (sym (append_assoc h hold later)) run in
      let middle : Run (h ++ hold) = front-run n k o s (h ++ hold) later both in
      let off = gets-off n k o pid s front opening one w.begins in
      let on = gets-on n k o pid s front opening one w.begins in
      let t : TrussState = truss_at k o h in
      let now : TracedState = state_after s h in
      let first : events_watched k pid (first_truss o) s h ≡ [] =
      unwatched-none k pid h (first_truss o) s (front-unwatched n k o pid s front opening one off on) in
      let last : events_watched k pid (truss_after t (exchanges k hold)) (state_after now hold) later ≡ [] =
      ap₂ (λ (u : TrussState) (v : TracedState). events_watched k pid u v later) (sym (truss_at-both k o h hold))
      (sym (state_after-append s h hold))
      ∙ later-none later (h ++ hold) both (keeps-on n k o pid s hold h middle on w.keeps) w.ends in
      events_watched-append k pid (first_truss o) s h (hold ++ later)
      ∙ ap (λ (ls : List Logged). ls ++ events_watched k pid t now (hold ++ later)) first
      ∙ events_watched-append k pid t now hold later
      ∙ ap (λ (ls : List Logged). events_watched k pid t now hold ++ ls) last
      ∙ append-nil (events_watched k pid t now hold)
      ∙ hold-logs hold h middle on w.keeps

  never-watched : (h : List Entry) → Run h → IsNeverHeld k o pid h → IsUnwatched k pid (first_truss o) h
  never-watched h run w = record {
    off = λ before later e is. by before later e is (cases_Bool (watches (truss_at k o before) pid));
  }
    where
      by : (before later : List Entry) (e : Entry) → h ≡ before ++ e ∷ later
          → (watches (truss_at k o before) pid ≡ true) ⊎ (watches (truss_at k o before) pid ≡ false)
          → watches (truss_at k o before) pid ≡ false
      by before later e is (inr off) = off
      by before later e is (inl on) =
          let g : HasHold k o pid s before =
          watched-hold n k o pid s before (front-run n k o s before (e ∷ later) (subst Run is run)) on in
          absurd (w.none g.front (g.hold ++ e ∷ later) g.opening
          (is ∙ ap (λ (es : List Entry). es ++ e ∷ later) g.is
          ∙ append_assoc g.front (g.opening ∷ g.hold) (e ∷ later)) g.begins)

  -- What comes while truss watches the process is what comes while it has hold of it.
  pub came-is : (h : List Entry) → Run h → (logged : List Logged) → CameHeld k o pid s h logged
      → events_watched k pid (first_truss o) s h ≡ logged
  came-is h run _ (never w) = unwatched-none k pid h (first_truss o) s (never-watched h run w)
  came-is h run _ (in_hold front hold later opening is w) =
      let all : h ≡ (front ++ opening ∷ []) ++ (hold ++ later) =
      is ∙ sym (append_assoc front (opening ∷ []) (hold ++ later)) in
      ap (λ (es : List Entry). events_watched k pid (first_truss o) s es) all
      ∙ parts-logs front hold later opening (subst Run all run) w
