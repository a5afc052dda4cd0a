use Rattle.std.proofs.Common.{◌≡◌, ◌⊎◌, ◌++◌, ℕ, Bool, true, false, cond, Some, None, List, [], ◌∷◌, refl, sym, subst, ap, ap₂, ◌∙◌, append_assoc, inl, inr}
use Rattle.std.proofs.lemmas.Bool.{cases_Bool, false≢true, ne_eqb}
use Rattle.std.proofs.lemmas.List.{append-nil}
use Rattle.std.proofs.lemmas.List.Elements.{All-append, All-head, All-nil, All-tail}
use Rattle.std.proofs.lemmas.Option.{none-some}
use Rattle.std.specs.List.{All, cons_option}
use Rattle.pr_line.specs.Selections.{is_selected}
use Rattle.pr_line.specs.declared.options.Options.{Options}
use Rattle.pr_model.proofs.HistoryLemmas.{state_after-push}
use Rattle.pr_model.specs.Events.{Logged, events_from, events_of}
use Rattle.pr_model.specs.Lawful.{IsLawful}
use Rattle.pr_model.specs.Legal.{IsLegal, after, state_after}
use Rattle.pr_model.specs.State.{TracedState}
use Rattle.pr_model.specs.declared.events.Entry.{Entry}
use Rattle.pr_truss.specs.Trusses.{TrussState, first_truss}
use Rattle.pr_truss_laws.proofs.Machine.OverLemmas.{stays-made, stays-over}
use Rattle.pr_truss_laws.specs.Exchanges.{Exchange, exchange_of, exchanges, truss_after, truss_at}
use Rattle.pr_report_laws.specs.ReachedRuns.{IsReachedTrussRun}
use Rattle.pr_truss_laws.specs.Runs.{IsTrussRun}
use Rattle.pr_report_laws.proofs.Files.FileSteps.{entry-lawful}
use Rattle.pr_report_laws.proofs.Files.WatchHistories.{cons-exchanges, exchanges-both, no-exchanges, run-reaches, truss_at-push}
use Rattle.pr_report_laws.proofs.Invariant.HistoryLaw.{after-next, picked-both}
use Rattle.pr_report_laws.proofs.Invariant.UnreadLaws.{state_after-append}
use Rattle.pr_report_laws.proofs.NewbornChildren.NewbornLaws.{left-silent}
use Rattle.pr_report_laws.proofs.Watching.EndLaws.{watched-let}
use Rattle.pr_report_laws.proofs.Watching.HistoryParts.{front-reached, front-run, rest-legal, truss_at-both}
use Rattle.pr_report_laws.proofs.Watching.LeavingOn.{after-leaves, interrupted-leaves}
use Rattle.pr_report_laws.proofs.Watching.LeftReads.{left-off}
use Rattle.pr_report_laws.proofs.Watching.OnceLaws.{HasEnded, PastAfter, held-once, hold-off, hold-on, past-after, watched-made, watched-once}
use Rattle.pr_report_laws.proofs.Watching.OpeningQuiet.{events_from-append, opening-silent}
use Rattle.pr_report_laws.proofs.Watching.OpeningWaits.{opening-waits}
use Rattle.pr_report_laws.proofs.Watching.QuietOpenings.{own-logs, quiet-entry}
use Rattle.pr_report_laws.specs.Attachments.{HasFollowed, HasOpened, IsLetGo, ended, left}
use Rattle.pr_report_laws.specs.Lineages.{IsLeftToTruss}
use Rattle.pr_report_laws.specs.Grips.{EndsThere, IsGrip, IsGripOfChild, IsLeftIn, IsNotLeft, IsOfOther, IsOpenedFrom, left_in, with_history}
use Rattle.pr_report_laws.specs.Shown.{LwpEvent, event_picked, picked, selected}
use Rattle.pr_report_laws.specs.WatchedGrips.{HasGrips}
use Rattle.pr_report_laws.specs.Watching.{events_watched, fed_by_entry, watches}

-- What is selected of a process in the grip of truss is what is selected of it while truss watches it.

-- ---- what is selected

-- nothing of the events of other processes
other-selected : (o : Options) (pid : ℕ) (l : Logged) → IsOfOther pid l → event_picked (is_selected o) pid l ≡ None
unfolding event_picked
other-selected o pid l w = rw (ne_eqb l.pid pid w.other) refl

pub others-selected : (o : Options) (pid : ℕ) (ls : List Logged) → All (IsOfOther pid) ls → selected o pid ls ≡ []
unfolding picked
others-selected o pid [] all = refl
others-selected o pid (l ∷ ls) all =
    ap₂ cons_option (other-selected o pid l (All-head (IsOfOther pid) l ls all))
    (others-selected o pid ls (All-tail (IsOfOther pid) l ls all))

-- ---- what comes while truss watches

pub events_watched-append : (k pid : ℕ) (t : TrussState) (s : TracedState) (xs ys : List Entry)
    → events_watched k pid t s (xs ++ ys) ≡ events_watched k pid t s xs ++ events_watched k pid
    (truss_after t (exchanges k xs)) (state_after s xs) ys
events_watched-append k pid t s [] ys =
    ap (λ (u : TrussState). events_watched k pid u s ys) (sym (ap (truss_after t) (no-exchanges k)))
events_watched-append k pid t s (x ∷ xs) ys =
    let one : List Logged = cond (watches t pid) (events_of s x) [] in
    let u : TrussState = fed_by_entry k t x in
    ap (λ (ls : List Logged). one ++ ls) (events_watched-append k pid u (after s x) xs ys)
    ∙ sym (append_assoc one (events_watched k pid u (after s x) xs)
    (events_watched k pid (truss_after u (exchanges k xs)) (state_after (after s x) xs) ys))
    ∙ ap (λ (v : TrussState). (one ++ events_watched k pid u (after s x) xs) ++ events_watched k pid v
    (state_after (after s x) xs) ys) (sym (after-next k t x xs))

-- in no entry is the process watched
pub record IsUnwatched (k pid : ℕ) (t : TrussState) (h : List Entry) : Type 0 where
  pub off : (before later : List Entry) (e : Entry) → h ≡ before ++ e ∷ later
      → watches (truss_after t (exchanges k before)) pid ≡ false

pub unwatched-none : (k pid : ℕ) (h : List Entry) (t : TrussState) (s : TracedState) → IsUnwatched k pid t h
    → events_watched k pid t s h ≡ []
unwatched-none k pid [] t s w = refl
unwatched-none k pid (e ∷ h) t s w =
    let now : watches t pid ≡ false =
    ap (λ (u : TrussState). watches u pid) (sym (ap (truss_after t) (no-exchanges k))) ∙ w.off [] h e refl in
    ap (λ b. cond b (events_of s e) [] ++ events_watched k pid (fed_by_entry k t e) (after s e) h) now
    ∙ unwatched-none k pid h (fed_by_entry k t e) (after s e) (record {
      off = λ before later f is. ap (λ (u : TrussState). watches u pid) (sym (after-next k t e before))
          ∙ w.off (e ∷ before) later f (ap (λ (es : List Entry). e ∷ es) is);
    })

-- ---- a process that has ended

module _ (n k pid : ℕ) where
  ended-quiet : (s : TracedState) (e : Entry) → HasEnded pid s → IsLegal n s (e ∷ [])
      → All (IsOfOther pid) (events_of s e)
  ended-quiet s e h legal = quiet-entry n s pid (λ p live. absurd (none-some p (sym h.over ∙ live))) e legal.0

  ended-next : (s : TracedState) (e : Entry) → IsLawful s → HasEnded pid s → IsLegal n s (e ∷ [])
      → HasEnded pid (after s e)
  ended-next s e lawful h legal = record {
    made = stays-made n s e pid lawful legal.0 h.made;
    over = stays-over n s e pid lawful legal.0 h.made h.over;
  }

  ended-logs : (h : List Entry) (s : TracedState) → IsLawful s → IsLegal n s h → HasEnded pid s
      → All (IsOfOther pid) (events_from s h)
  ended-logs [] s lawful legal over = All-nil (IsOfOther pid)
  ended-logs (e ∷ h) s lawful legal over =
      All-append (IsOfOther pid) (events_of s e) (events_from (after s e) h) (ended-quiet s e over (legal.0, tt))
      (ended-logs h (after s e) (entry-lawful n s e lawful legal.0) legal.1 (ended-next s e lawful over (legal.0, tt)))

  ended-watched : (h : List Entry) (t : TrussState) (s : TracedState) → IsLawful s → IsLegal n s h → HasEnded pid s
      → All (IsOfOther pid) (events_watched k pid t s h)
  ended-watched [] t s lawful legal over = All-nil (IsOfOther pid)
  ended-watched (e ∷ h) t s lawful legal over =
      All-append (IsOfOther pid) (cond (watches t pid) (events_of s e) [])
      (events_watched k pid (fed_by_entry k t e) (after s e) h)
      (by (watches t pid))
      (ended-watched h (fed_by_entry k t e) (after s e) (entry-lawful n s e lawful legal.0) legal.1
      (ended-next s e lawful over (legal.0, tt)))
    where
      by : (b : Bool) → All (IsOfOther pid) (cond b (events_of s e) [])
      by true = ended-quiet s e over (legal.0, tt)
      by false = All-nil (IsOfOther pid)

-- ---- before the opening is complete

-- a front of a history is a front of it without its last entry
record IsFront (front whole : List Entry) : Type 0 where
  rest : List Entry
  is : whole ≡ front ++ rest

front-of : (whole front later : List Entry) (last e : Entry) → whole ++ last ∷ [] ≡ front ++ e ∷ later
    → IsFront front whole
front-of whole [] later last e is = record { rest = whole; is = refl }
front-of [] (x ∷ front) later last e is = absurd (nothing front later e (tail is))
  where
    tail : last ∷ [] ≡ x ∷ (front ++ e ∷ later) → [] ≡ front ++ e ∷ later
    tail same = cc

    nothing : (xs ys : List Entry) (y : Entry) → [] ≡ xs ++ y ∷ ys → ⊥
    nothing [] ys y same = cc
    nothing (z ∷ xs) ys y same = cc
front-of (w ∷ whole) (x ∷ front) later last e is =
    let rest = front-of whole front later last e (tail is) in
    record { rest = rest.rest; is = ap₂ (λ (y : Entry) (ys : List Entry). y ∷ ys) (head is) rest.is }
  where
    tail : w ∷ (whole ++ last ∷ []) ≡ x ∷ (front ++ e ∷ later) → whole ++ last ∷ [] ≡ front ++ e ∷ later
    tail same = cc

    head : w ∷ (whole ++ last ∷ []) ≡ x ∷ (front ++ e ∷ later) → w ≡ x
    head same = cc

module _ (n k : ℕ) (o : Options) (pid : ℕ) (s : TracedState) where
  abbrev Run : List Entry → Type 0
  Run h = IsTrussRun n k o s h

  -- where the last entry makes truss watch a process
  pub front-unwatched : (before : List Entry) (e : Entry) → Run (before ++ e ∷ [])
      → watches (truss_at k o before) pid ≡ false → watches (truss_at k o (before ++ e ∷ [])) pid ≡ true
      → IsUnwatched k pid (first_truss o) (before ++ e ∷ [])
  front-unwatched before e run off on = record {
    off = λ front later f is.
        by front (front-of before front later e f is) (cases_Bool (watches (truss_at k o front) pid));
  }
    where
      by : (front : List Entry) → IsFront front before
          → (watches (truss_at k o front) pid ≡ true) ⊎ (watches (truss_at k o front) pid ≡ false)
          → watches (truss_at k o front) pid ≡ false
      by front w (inr not) = not
      by front w (inl was) =
          let same : before ++ e ∷ [] ≡ front ++ (w.rest ++ e ∷ []) =
          ap (λ (es : List Entry). es ++ e ∷ []) w.is ∙ append_assoc front w.rest (e ∷ []) in
          let again =
          watched-once n k o pid s front w.rest (e ∷ []) (subst Run same run) was
          (ap (λ h. watches (truss_at k o h) pid) (sym w.is) ∙ off) in
          absurd (false≢true (sym again ∙ ap (λ h. watches (truss_at k o h) pid) (sym same) ∙ on))

  -- ---- while it is watched

  abbrev Watched : List Entry → List Entry → List LwpEvent
  Watched before h = selected o pid (events_watched k pid (truss_at k o before) (state_after s before) h)

  abbrev Logs : List Entry → List Entry → List LwpEvent
  Logs before h = selected o pid (events_from (state_after s before) h)

  -- one entry more
  watched-cons : (before h : List Entry) (e : Entry) → watches (truss_at k o before) pid ≡ true
      → Watched (before ++ e ∷ []) h ≡ Logs (before ++ e ∷ []) h → Watched before (e ∷ h) ≡ Logs before (e ∷ h)
  watched-cons before h e on rest =
      let t : TrussState = truss_at k o before in
      let now : TracedState = state_after s before in
      let told : fed_by_entry k t e ≡ truss_at k o (before ++ e ∷ []) = sym (truss_at-push k o before e) in
      let next : after now e ≡ state_after s (before ++ e ∷ []) = sym (state_after-push s before e) in
      ap (λ b. selected o pid (cond b (events_of now e) []
      ++ events_watched k pid (fed_by_entry k t e) (after now e) h)) on
      ∙ picked-both (is_selected o) pid (events_of now e) (events_watched k pid (fed_by_entry k t e) (after now e) h)
      ∙ ap (λ (xs : List LwpEvent). selected o pid (events_of now e) ++ xs)
      (ap₂ (λ (u : TrussState) (v : TracedState). selected o pid (events_watched k pid u v h)) told next
      ∙ rest ∙ ap (λ (v : TracedState). selected o pid (events_from v h)) (sym next))
      ∙ sym (picked-both (is_selected o) pid (events_of now e) (events_from (after now e) h))

  ended-both : (before h : List Entry) → Run (before ++ h) → HasEnded pid (state_after s before)
      → Watched before h ≡ Logs before h
  ended-both before h run over =
      let g = run-reaches n k o s before (front-run n k o s before h run) in
      let legal = rest-legal n k o s before h run in
      others-selected o pid (events_watched k pid (truss_at k o before) (state_after s before) h)
      (ended-watched n k pid h (truss_at k o before) (state_after s before) g.lawful legal over)
      ∙ sym (others-selected o pid (events_from (state_after s before) h)
      (ended-logs n k pid h (state_after s before) g.lawful legal over))

  let-ended : (before later : List Entry) (e : Entry) → Run (before ++ e ∷ []) → IsNotLeft k pid s before (e ∷ later)
      → watches (truss_at k o before) pid ≡ true → IsLetGo k pid s before e
      → HasEnded pid (state_after s (before ++ e ∷ []))
  let-ended before later e run kept on (ended over) =
      let g = run-reaches n k o s before (front-run n k o s before (e ∷ []) run) in
      subst (HasEnded pid) (sym (state_after-push s before e))
      (ended-next n k pid (state_after s before) e g.lawful
      (record { made = watched-made n k o pid s before e run on; over = over })
      (rest-legal n k o s before (e ∷ []) run))
  let-ended before later e run kept on (left interrupted reads) =
      absurd (kept.none [] later e refl
      (subst (λ h. IsLeftIn k pid s h e) (sym (append-nil before))
      (record { interrupted = interrupted; reads = reads })))

  -- Until truss leaves it, all that is logged of it comes while truss watches it.
  kept-watched : (h before : List Entry) → Run (before ++ h) → watches (truss_at k o before) pid ≡ true
      → IsNotLeft k pid s before h → Watched before h ≡ Logs before h
  kept-watched [] before run on kept = refl
  kept-watched (e ∷ h) before run on kept =
      watched-cons before h e on
      (elim (cases_Bool (watches (truss_at k o (before ++ e ∷ [])) pid)) [
        | inl still ↦ kept-watched h (before ++ e ∷ []) later still
            (record {
              none = λ first rest f is w. kept.none (e ∷ first) rest f
                  (ap (λ (es : List Entry). e ∷ es) is)
                  (subst (λ g. IsLeftIn k pid s g f) (append_assoc before (e ∷ []) first) w);
            })
        | inr over ↦ ended-both (before ++ e ∷ []) h later
            (let-ended before h e one kept on (watched-let n k o pid s before e one on over))
      ])
    where
      later : Run ((before ++ e ∷ []) ++ h)
      later = subst Run (sym (append_assoc before (e ∷ []) h)) run

      one : Run (before ++ e ∷ [])
      one = front-run n k o s (before ++ e ∷ []) h (subst Run (sym (append_assoc before (e ∷ []) h)) run)

  -- ---- once truss has left it

  -- a call of truss logs nothing
  left-logs : (before : List Entry) (e : Entry) → IsLeftIn k pid s before e
      → cond (watches (truss_at k o before) pid) (events_of (state_after s before) e) [] ≡ []
  left-logs before e w = by (watches (truss_at k o before) pid)
    where
      by : (b : Bool) → cond b (events_of (state_after s before) e) [] ≡ []
      by true = let r = w.reads in own-logs k (state_after s before) e _ r.is
      by false = refl

  left-past : (before : List Entry) (e : Entry) → Run (before ++ e ∷ []) → IsLeftIn k pid s before e
      → PastAfter n k o pid s (before ++ e ∷ [])
  left-past before e run w = record {
    off = left-off n k o pid s before e run w;
    why =
        inl (ap (λ (u : TrussState). u.leaving) (truss_at-both k o before (e ∷ []))
        ∙ after-leaves (exchanges k (e ∷ [])) (truss_at k o before)
        (interrupted-leaves n k o s before (front-run n k o s before (e ∷ []) run) w.interrupted));
  }

  later-none : (before later : List Entry) → Run (before ++ later) → EndsThere k pid s before later
      → events_watched k pid (truss_at k o before) (state_after s before) later ≡ []
  later-none before [] run with_history = refl
  later-none before (e ∷ later) run (left_in _ _ w) =
      let all : Run ((before ++ e ∷ []) ++ later) = subst Run (sym (append_assoc before (e ∷ []) later)) run in
      let past = left-past before e (front-run n k o s (before ++ e ∷ []) later all) w in
      ap₂ (λ (xs ys : List Logged). xs ++ ys) (left-logs before e w)
      (ap (λ (u : TrussState). events_watched k pid u (after (state_after s before) e) later)
      (sym (truss_at-push k o before e))
      ∙ unwatched-none k pid later (truss_at k o (before ++ e ∷ [])) (after (state_after s before) e) (record {
        off = λ first rest f is.
            let whole : (before ++ e ∷ []) ++ later ≡ ((before ++ e ∷ []) ++ first) ++ f ∷ rest =
            ap (λ (es : List Entry). (before ++ e ∷ []) ++ es) is
            ∙ sym (append_assoc (before ++ e ∷ []) first (f ∷ rest)) in
            let here : Run ((before ++ e ∷ []) ++ first) =
            front-run n k o s ((before ++ e ∷ []) ++ first) (f ∷ rest) (subst Run whole all) in
            let p = past-after n k o pid s first (before ++ e ∷ []) here past in
            ap (λ (u : TrussState). watches u pid) (sym (truss_at-both k o (before ++ e ∷ []) first)) ∙ p.off;
      }))

  -- ---- from where an opening is complete

  held-watched : (before : List Entry) (e : Entry) (rest later : List Entry) (x : Exchange)
      → Run ((before ++ e ∷ []) ++ (rest ++ later)) → exchange_of k e ≡ Some x
      → HasOpened k o pid (before ++ e ∷ []) ⊎ HasFollowed k pid (before ++ e ∷ [])
      → IsNotLeft k pid s (before ++ e ∷ []) rest → EndsThere k pid s ((before ++ e ∷ []) ++ rest) later
      → selected o pid (events_watched k pid (first_truss o) s ((before ++ e ∷ []) ++ (rest ++ later)))
      ≡ Logs (before ++ e ∷ []) rest
  held-watched before e rest later x run own complete kept ends =
      let h : List Entry = before ++ e ∷ [] in
      let one : Run h = front-run n k o s h (rest ++ later) run in
      let off = hold-off n k o pid s before e one x own complete in
      let on = hold-on n k o pid s before e one x own complete in
      let both : Run ((h ++ rest) ++ later) = subst Run (sym (append_assoc h rest later)) run in
      let t : TrussState = truss_at k o h in
      let now : TracedState = state_after s h in
      let first : events_watched k pid (first_truss o) s h ≡ [] =
      unwatched-none k pid h (first_truss o) s (front-unwatched before e one off on) in
      let last : events_watched k pid (truss_after t (exchanges k rest)) (state_after now rest) later ≡ [] =
      ap₂ (λ (u : TrussState) (v : TracedState). events_watched k pid u v later) (sym (truss_at-both k o h rest))
      (sym (state_after-append s h rest)) ∙ later-none (h ++ rest) later both ends in
      ap (selected o pid) (events_watched-append k pid (first_truss o) s h (rest ++ later)
      ∙ ap (λ (ls : List Logged). ls ++ events_watched k pid t now (rest ++ later)) first
      ∙ events_watched-append k pid t now rest later
      ∙ ap (λ (ls : List Logged). events_watched k pid t now rest ++ ls) last
      ∙ append-nil (events_watched k pid t now rest))
      ∙ kept-watched rest h (front-run n k o s (h ++ rest) later both) on kept

-- ---- the laws

-- the opening, in the words of the calls alone
opened-whole : (k : ℕ) (o : Options) (pid : ℕ) (before : List Entry) (waiting : Entry) (between : List Entry)
    (running : Entry) → IsOpenedFrom k o pid before waiting between running
    → HasOpened k o pid (before ++ waiting ∷ (between ++ running ∷ []))
opened-whole k o pid before waiting between running w = record {
  earlier = w.earlier;
  opening = w.begun ++ w.wait ∷ (exchanges k between ++ w.run ∷ []);
  is =
      exchanges-both k before (waiting ∷ (between ++ running ∷ []))
      ∙ ap₂ (λ (xs ys : List Exchange). xs ++ ys) w.is
      (cons-exchanges k waiting (between ++ running ∷ [])
      ∙ ap₂ cons_option w.waits
      (exchanges-both k between (running ∷ [])
      ∙ ap (λ (ys : List Exchange). exchanges k between ++ ys)
      (cons-exchanges k running [] ∙ ap₂ cons_option w.runs (no-exchanges k))))
      ∙ append_assoc w.earlier w.begun (w.wait ∷ (exchanges k between ++ w.run ∷ []));
  whole = w.whole;
}

module _ (n k : ℕ) (o : Options) (pid : ℕ) (s : TracedState) where
  -- with the entries of the opening and those after it
  parts-watched : (before : List Entry) (waiting : Entry) (between : List Entry) (running : Entry)
      (rest later : List Entry)
      → IsReachedTrussRun n k o s ((before ++ waiting ∷ (between ++ running ∷ [])) ++ (rest ++ later))
      → IsOpenedFrom k o pid before waiting between running
      → IsNotLeft k pid s (before ++ waiting ∷ (between ++ running ∷ [])) rest
      → EndsThere k pid s ((before ++ waiting ∷ (between ++ running ∷ [])) ++ rest) later
      → selected o pid (events_from (state_after s before) ((waiting ∷ (between ++ running ∷ [])) ++ rest))
      ≡ selected o pid
      (events_watched k pid (first_truss o) s ((before ++ waiting ∷ (between ++ running ∷ [])) ++ (rest ++ later)))
  parts-watched before waiting between running rest later run w kept ends =
      let part : List Entry = waiting ∷ (between ++ running ∷ []) in
      let most : List Entry = before ++ waiting ∷ between in
      let same : most ++ running ∷ [] ≡ before ++ part = append_assoc before (waiting ∷ between) (running ∷ []) in
      let front = front-reached n k o s (before ++ part) (rest ++ later) run in
      let silent : selected o pid (events_from (state_after s before) part) ≡ [] =
      others-selected o pid (events_from (state_after s before) part)
      (opening-silent n k o pid s before waiting between running front w) in
      let watched =
      held-watched n k o pid s most running rest later w.run
      (subst (λ (h : List Entry). IsTrussRun n k o s (h ++ (rest ++ later))) (sym same) run.of) w.runs
      (inl (subst (HasOpened k o pid) (sym same) (opened-whole k o pid before waiting between running w)))
      (subst (λ (h : List Entry). IsNotLeft k pid s h rest) (sym same) kept)
      (subst (λ (h : List Entry). EndsThere k pid s (h ++ rest) later) (sym same) ends) in
      let there = subst (λ (h : List Entry). selected o pid
      (events_watched k pid (first_truss o) s (h ++ (rest ++ later))) ≡ selected o pid
      (events_from (state_after s h) rest)) same watched in
      ap (selected o pid) (events_from-append (state_after s before) part rest)
      ∙ picked-both (is_selected o) pid (events_from (state_after s before) part)
      (events_from (state_after (state_after s before) part) rest)
      ∙ ap (λ (xs : List LwpEvent). xs ++ selected o pid
      (events_from (state_after (state_after s before) part) rest)) silent
      ∙ ap (λ (v : TracedState). selected o pid (events_from v rest)) (sym (state_after-append s before part))
      ∙ sym there

  -- What is selected in the grip is what is selected while truss watches.
  pub grip-watched : (before grip later : List Entry) → IsReachedTrussRun n k o s (before ++ (grip ++ later))
      → IsGrip k o pid s before grip later
      → selected o pid (events_from (state_after s before) grip) ≡ selected o pid
      (events_watched k pid (first_truss o) s (before ++ (grip ++ later)))
  grip-watched before grip later run g =
      let part : List Entry = g.waiting ∷ (g.between ++ g.running ∷ []) in
      let split : grip ≡ part ++ g.rest =
      g.is ∙ ap (λ (es : List Entry). g.waiting ∷ es) (sym (append_assoc g.between (g.running ∷ []) g.rest)) in
      let all : before ++ (grip ++ later) ≡ (before ++ part) ++ (g.rest ++ later) =
      ap (λ (es : List Entry). before ++ (es ++ later)) split
      ∙ ap (λ (es : List Entry). before ++ es) (append_assoc part g.rest later)
      ∙ sym (append_assoc before part (g.rest ++ later)) in
      ap (λ (es : List Entry). selected o pid (events_from (state_after s before) es)) split
      ∙ parts-watched before g.waiting g.between g.running g.rest later (subst (IsReachedTrussRun n k o s) all run)
      g.opened g.kept
      (subst (λ (h : List Entry). EndsThere k pid s h later) (ap (λ (es : List Entry). before ++ es) split
      ∙ sym (append_assoc before part g.rest)) g.ends)
      ∙ ap (λ (h : List Entry). selected o pid (events_watched k pid (first_truss o) s h)) (sym all)

  -- the same of the child of a fork
  pub left-watched : (grip later : List Entry) → IsReachedTrussRun n k o s (grip ++ later)
      → (g : IsGripOfChild k pid s grip later) → IsLeftToTruss k o pid s (g.before ++ g.running ∷ [])
      → selected o pid (events_from s grip) ≡ selected o pid
      (events_watched k pid (first_truss o) s (grip ++ later))
  left-watched grip later run g its =
      let opened : List Entry = g.before ++ g.running ∷ [] in
      let split : grip ≡ opened ++ g.rest = g.is ∙ sym (append_assoc g.before (g.running ∷ []) g.rest) in
      let all : grip ++ later ≡ opened ++ (g.rest ++ later) =
      ap (λ (es : List Entry). es ++ later) split ∙ append_assoc opened g.rest later in
      let whole : IsReachedTrussRun n k o s (opened ++ (g.rest ++ later)) = subst (IsReachedTrussRun n k o s) all run in
      let front : IsReachedTrussRun n k o s opened = front-reached n k o s opened (g.rest ++ later) whole in
      let silent : selected o pid (events_from s opened) ≡ [] =
      left-silent n k o pid s g.before g.running front its
      (hold-off n k o pid s g.before g.running front.of g.last g.runs (inr g.followed)) g.followed in
      let watched =
      held-watched n k o pid s g.before g.running g.rest later g.last whole.of g.runs (inr g.followed) g.kept
      (subst (λ (h : List Entry). EndsThere k pid s h later) split g.ends) in
      ap (λ (es : List Entry). selected o pid (events_from s es)) split
      ∙ ap (selected o pid) (events_from-append s opened g.rest)
      ∙ picked-both (is_selected o) pid (events_from s opened) (events_from (state_after s opened) g.rest)
      ∙ ap (λ (xs : List LwpEvent). xs ++ selected o pid (events_from (state_after s opened) g.rest)) silent
      ∙ sym watched ∙ ap (λ (h : List Entry). selected o pid (events_watched k pid (first_truss o) s h)) (sym all)

pub grips-held : (n k : ℕ) (o : Options) (pid : ℕ) (s : TracedState) (h : List Entry)
    → IsReachedTrussRun n k o s h → HasGrips k o pid s h
grips-held n k o pid s h run = record {
  once = λ before between later e f is first second.
      held-once n k o pid s before between e f
      (front-run n k o s (before ++ e ∷ (between ++ f ∷ [])) later
      (subst (IsTrussRun n k o s) (is ∙ split before between later e f) run.of)) first second;
  waits = λ before later e last is own opened. opening-waits k o pid before e last own opened;
  quiet = λ before between later waiting running is opened.
      let all = is ∙ split before between later waiting running in
      let part : List Entry = before ++ waiting ∷ (between ++ running ∷ []) in
      opening-silent n k o pid s before waiting between running
      (front-reached n k o s part later (subst (IsReachedTrussRun n k o s) all run)) opened;
  watched = λ before grip later is g.
      grip-watched n k o pid s before grip later (subst (IsReachedTrussRun n k o s) is run) g
      ∙ ap (λ (es : List Entry). selected o pid (events_watched k pid (first_truss o) s es)) (sym is);
  born = λ grip later is g its.
      left-watched n k o pid s grip later (subst (IsReachedTrussRun n k o s) is run) g its
      ∙ ap (λ (es : List Entry). selected o pid (events_watched k pid (first_truss o) s es)) (sym is);
}
  where
    split : (before between later : List Entry) (e f : Entry)
        → before ++ e ∷ (between ++ f ∷ later) ≡ (before ++ e ∷ (between ++ f ∷ [])) ++ later
    split before between later e f =
        ap (λ (es : List Entry). before ++ e ∷ es) (sym (append_assoc between (f ∷ []) later))
        ∙ sym (append_assoc before (e ∷ (between ++ f ∷ [])) later)

pub ruleset grips = (left-watched, grips-held)
