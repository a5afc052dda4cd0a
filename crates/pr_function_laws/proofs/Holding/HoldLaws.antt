use Rattle.std.proofs.Common.{◌≡◌, ◌++◌, ℕ, true, false, None, List, [], ◌∷◌, append-nil, append_assoc, refl, sym, subst, ap, ◌∙◌, inl, inr}
use Rattle.std.proofs.lemmas.Bool.{cases_Bool, false≢true}
use Rattle.std.proofs.lemmas.Option.{none-some}
use Rattle.pr_line.specs.declared.options.Options.{Options}
use Rattle.pr_model.specs.Legal.{state_after}
use Rattle.pr_model.specs.State.{TracedState}
use Rattle.pr_model.specs.declared.calls.File.TheVariants as file
use Rattle.pr_model.specs.declared.calls.Mode.TheVariants.{WriteExcl}
use Rattle.pr_model.specs.declared.events.Entry.{Entry}
use Rattle.pr_report_laws.proofs.Files.FileLaws.{IsFileOf}
use Rattle.pr_report_laws.proofs.Files.FileUses.{IsWatchedAt, watched-at}
use Rattle.pr_report_laws.proofs.Files.WatchHistories.{Reaches, no-exchanges}
use Rattle.pr_report_laws.proofs.Watching.BeginLaws.{first-watches-none}
use Rattle.pr_report_laws.specs.Holds.{KeepsHold, LetsGoIn}
use Rattle.pr_report_laws.specs.Watching.{watches}
use Rattle.pr_truss.specs.FunctionCalls.{next_function_call_of}
use Rattle.pr_truss.specs.Trusses.{TrussState, first_truss, traced_at}
use Rattle.pr_truss_laws.specs.Exchanges.{truss_after}
use Rattle.pr_truss_laws.specs.Handles.{HasNothingOpen}
use Rattle.pr_function_laws.proofs.Holding.HoldBegins.{begins-gets}
use Rattle.pr_function_laws.proofs.Holding.HoldEnds.{goes-off, watched-goes}
use Rattle.pr_function_laws.proofs.Holding.HoldOpens.{gets-watches}
use Rattle.pr_function_laws.proofs.OrdinaryTruss.OrdinaryEntries.{along, front-run, watches-ordinary}
use Rattle.pr_function_laws.proofs.OrdinaryTruss.OrdinaryFiles.{Halfway, run-halfway}
use Rattle.pr_function_laws.proofs.OrdinaryTruss.OrdinaryLaws.{nothing-left}
use Rattle.pr_function_laws.specs.Holds.{HasHoldWithFunctions, WatchesWhatItHolds}
use Rattle.pr_function_laws.specs.Opened.{IsFunctionRun, functions_at}
use Rattle.pr_function_laws.specs.Ordinary.{ordinary}
use Rattle.pr_function_laws.specs.Runs.{functions_after}

-- Truss with calls of functions watches a process just while it has hold of it.

-- ---- the last entry of a history

-- where an entry stands in a list with one more at its end
pub data StandsIn (hold first rest : List Entry) (e f : Entry) : Type 0 where
  last : first ≡ hold → f ≡ e → StandsIn hold first rest e f
  earlier : (between : List Entry) → hold ≡ first ++ f ∷ between → StandsIn hold first rest e f

pub nowhere : (first rest : List Entry) (f : Entry) → [] ≡ first ++ f ∷ rest → ⊥
nowhere [] rest f is = cc
nowhere (x ∷ first) rest f is = cc

further : (x y : Entry) (hold first rest : List Entry) (e f : Entry) → x ≡ y → StandsIn hold first rest e f
    → StandsIn (x ∷ hold) (y ∷ first) rest e f
further x y hold first rest e f same (last is its) =
    last (ap (λ z. z ∷ first) (sym same) ∙ ap (λ (es : List Entry). x ∷ es) is) its
further x y hold first rest e f same (earlier between is) =
    earlier between
    (ap (λ (es : List Entry). x ∷ es) is ∙ ap (λ z. z ∷ (first ++ f ∷ between)) same)

pub stands-in : (hold first rest : List Entry) (e f : Entry) → hold ++ e ∷ [] ≡ first ++ f ∷ rest
    → StandsIn hold first rest e f
stands-in [] [] rest e f is = let same : f ≡ e = cc in last refl same
stands-in [] (y ∷ first) rest e f is = let none : [] ≡ first ++ f ∷ rest = cc in absurd (nowhere first rest f none)
stands-in (x ∷ hold) [] rest e f is = let same : x ≡ f = cc in earlier hold (ap (λ z. z ∷ hold) same)
stands-in (x ∷ hold) (y ∷ first) rest e f is =
    let same : x ≡ y = cc in
    let tail : hold ++ e ∷ [] ≡ first ++ f ∷ rest = cc in
    further x y hold first rest e f same (stands-in hold first rest e f tail)

-- ---- the hold

module _ (n k : ℕ) (o : Options) (pid : ℕ) (s : TracedState) where
  abbrev Run : List Entry → Type 0
  Run h = IsFunctionRun n k o s h

  abbrev On : List Entry → Type 0
  On h = watches (functions_at k o h) pid ≡ true

  one-run : (before later : List Entry) (e : Entry) → Run (before ++ e ∷ later) → Run (before ++ e ∷ [])
  one-run before later e run =
      front-run n k o s (before ++ e ∷ []) later (subst Run (sym (append_assoc before (e ∷ []) later)) run)

  more-run : (before later : List Entry) (e : Entry) → Run (before ++ e ∷ later) → Run ((before ++ e ∷ []) ++ later)
  more-run before later e run = subst Run (sym (append_assoc before (e ∷ []) later)) run

  keeps-none : (before : List Entry) → KeepsHold k pid s before []
  keeps-none before = record { none = λ first rest e is w. nowhere first rest e is }

  -- one entry more
  keeps-push : (before hold : List Entry) (e : Entry) → KeepsHold k pid s before hold
      → (LetsGoIn k pid s (before ++ hold) e → ⊥) → KeepsHold k pid s before (hold ++ e ∷ [])
  keeps-push before hold e keeps here = record {
    none = λ first rest f is w. by first rest f (stands-in hold first rest e f is) w;
  }
    where
      by : (first rest : List Entry) (f : Entry) → StandsIn hold first rest e f → LetsGoIn k pid s (before ++ first) f
          → ⊥
      by first rest f (last is its) w =
          here (subst (λ z. LetsGoIn k pid s (before ++ hold) z) its
          (subst (λ (es : List Entry). LetsGoIn k pid s (before ++ es) f) is w))
      by first rest f (earlier between is) w = keeps.none first between f is w

  keeps-rest : (before hold : List Entry) (e : Entry) → KeepsHold k pid s before (e ∷ hold)
      → KeepsHold k pid s (before ++ e ∷ []) hold
  keeps-rest before hold e keeps = record {
    none = λ first rest f is w. keeps.none (e ∷ first) rest f (ap (λ (es : List Entry). e ∷ es) is)
        (subst (λ (es : List Entry). LetsGoIn k pid s es f) (append_assoc before (e ∷ []) first) w);
  }

  -- it watches the process still
  keeps-still : (before hold : List Entry) (e : Entry) → Run (before ++ e ∷ hold) → On before
      → KeepsHold k pid s before (e ∷ hold) → On (before ++ e ∷ [])
  keeps-still before hold e run on keeps =
      elim (cases_Bool (watches (functions_at k o (before ++ e ∷ [])) pid)) [
        | inl still ↦ still
        | inr off ↦ absurd (keeps.none [] hold e refl
            (subst (λ (es : List Entry). LetsGoIn k pid s es e) (sym (append-nil before))
            (watched-goes n k o pid s before hold e run on off)))
      ]

  keeps-on : (hold before : List Entry) → Run (before ++ hold) → On before → KeepsHold k pid s before hold
      → On (before ++ hold)
  keeps-on [] before run on keeps = subst On (sym (append-nil before)) on
  keeps-on (e ∷ hold) before run on keeps =
      subst On (append_assoc before (e ∷ []) hold)
      (keeps-on hold (before ++ e ∷ []) (more-run before hold e run) (keeps-still before hold e run on keeps)
      (keeps-rest before hold e keeps))

  -- What it has hold of it watches.
  pub hold-watched : (h : List Entry) → Run h → HasHoldWithFunctions k o pid s h → On h
  hold-watched h run w =
      let all : Run (w.front ++ w.opening ∷ w.hold) = subst Run w.is run in
      let on =
      gets-watches n k o pid s w.front w.opening (one-run w.front w.hold w.opening all) w.begins in
      subst On (append_assoc w.front (w.opening ∷ []) w.hold ∙ sym w.is)
      (keeps-on w.hold (w.front ++ w.opening ∷ []) (more-run w.front w.hold w.opening all) on w.keeps)

  -- At first it watches none.
  first-off : watches (functions_at k o []) pid ≡ false
  first-off =
      ap (λ xs. watches (functions_after (first_truss o) xs) pid) (no-exchanges k)
      ∙ sym (ap (λ xs. watches (truss_after (first_truss o) xs) pid) (no-exchanges k)) ∙ first-watches-none k o pid

  hold-push : (before later : List Entry) (e : Entry) → Run (before ++ e ∷ later)
      → (On before → HasHoldWithFunctions k o pid s before) → On (before ++ e ∷ [])
      → HasHoldWithFunctions k o pid s (before ++ e ∷ [])
  hold-push before later e run was on = elim (cases_Bool (watches (functions_at k o before) pid)) [
    | inl still ↦
        let w = was still in
        record {
          front = w.front;
          opening = w.opening;
          hold = w.hold ++ e ∷ [];
          is =
              ap (λ (es : List Entry). es ++ e ∷ []) w.is
              ∙ append_assoc w.front (w.opening ∷ w.hold) (e ∷ []);
          begins = w.begins;
          keeps =
              keeps-push (w.front ++ w.opening ∷ []) w.hold e w.keeps
              (λ goes. false≢true
              (sym (goes-off n k o pid s before later e run still
              (subst (λ (es : List Entry). LetsGoIn k pid s es e)
              (append_assoc w.front (w.opening ∷ []) w.hold ∙ sym w.is) goes)) ∙ on));
        }
    | inr off ↦ record {
      front = before;
      opening = e;
      hold = [];
      is = refl;
      begins = begins-gets n k o pid s before later e run off on;
      keeps = keeps-none (before ++ e ∷ []);
    }
  ]

  -- And it has hold of what it watches.
  pub watched-hold : (h : List Entry) → Run h → On h → HasHoldWithFunctions k o pid s h
  watched-hold h run =
      along (λ es. On es → HasHoldWithFunctions k o pid s es) (λ on. absurd (false≢true (sym first-off ∙ on))) h
      (λ before later e is was. hold-push before later e (subst Run is run) was)

  -- Once it has finished it has hold of none.
  pub finished-none : (h : List Entry) → Run h → next_function_call_of (functions_at k o h) ≡ None
      → HasHoldWithFunctions k o pid s h → ⊥
  finished-none h run none w =
      let t : TrussState = functions_at k o h in
      let half : Halfway n k o (first_truss o) s h [] = run-halfway n k o s h [] (subst Run (sym (append-nil h)) run) in
      let follows = half.follows in
      let reaches : Reaches k (ordinary t) (state_after s h) = follows.reaches in
      let found =
      watched-at k (ordinary t) (state_after s h) reaches.files pid (watches-ordinary t pid ∙ hold-watched h run w) in
      let a : IsWatchedAt k (ordinary t) (state_after s h) pid found.0 = found.1 in
      let control : IsFileOf k (state_after s h) pid (traced_at (ordinary t) found.0).control file.Ctl WriteExcl =
      a.control in
      let nothing : HasNothingOpen k (state_after s h) = nothing-left n k o s h run none in
      none-some _ (sym (nothing.none (traced_at (ordinary t) found.0).control) ∙ control.is)

pub watches-what-it-holds : (n k : ℕ) (o : Options) (s : TracedState) (h : List Entry) → IsFunctionRun n k o s h
    → WatchesWhatItHolds k o s h
watches-what-it-holds n k o s h run = record {
  held = λ before later pid is w.
      hold-watched n k o pid s before (front-run n k o s before later (subst (IsFunctionRun n k o s) is run)) w;
  watched = λ before later pid is on.
      watched-hold n k o pid s before (front-run n k o s before later (subst (IsFunctionRun n k o s) is run)) on;
  finished = λ pid none w. finished-none n k o pid s h run none w;
}

pub ruleset holds = (watches-what-it-holds)
