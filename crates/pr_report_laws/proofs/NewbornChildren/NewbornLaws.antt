use Rattle.std.proofs.Common.{◌≡◌, ◌<◌, ℕ, false, true, None, Some, Option, List, [], ◌∷◌, ◌++◌, length, refl, sym, subst, ap, ◌∙◌, arith, inl, append_assoc}
use Rattle.std.proofs.lemmas.List.Elements.{All-head, All-nil, All-push, All-tail}
use Rattle.std.specs.List.{All}
use Rattle.pr_line.specs.Selections.{is_selected}
use Rattle.pr_line.specs.declared.options.Options.{Options}
use Rattle.pr_model.specs.Events.{events_from, events_of}
use Rattle.pr_model.specs.Legal.{after, state_after}
use Rattle.pr_model.specs.Replies.{handle_in}
use Rattle.pr_model.specs.State.{TracedState}
use Rattle.pr_model.specs.declared.events.Entry.{Entry}
use Rattle.pr_truss.specs.Trusses.{first_truss}
use Rattle.pr_truss.specs.declared.processes.Traced.{Traced}
use Rattle.pr_truss_laws.specs.Exchanges.{Exchange, Makes, exchange_of, exchanges, truss_after, truss_at}
use Rattle.pr_truss_laws.specs.Given.{reply_at}
use Rattle.pr_report_laws.specs.ReachedRuns.{IsReachedTrussRun}
use Rattle.pr_report_laws.proofs.Watching.BeginLaws.{followed-watches}
use Rattle.pr_report_laws.proofs.Watching.BeginsOnlyLaws.{stays-off}
use Rattle.pr_report_laws.proofs.Watching.ChildPlaces.{Placed, child-placed, push-same}
use Rattle.pr_report_laws.proofs.UnopenedChildren.Births.{all-left, first-going, first-traced, line-left}
use Rattle.pr_report_laws.proofs.UnopenedChildren.Claims.{Claims}
use Rattle.pr_report_laws.proofs.UnopenedChildren.Claims as claims
use Rattle.pr_report_laws.proofs.Machine.FrameLaws.{no-events}
use Rattle.pr_report_laws.proofs.Invariant.HistoryLaw.{first-is, picked-both}
use Rattle.pr_report_laws.proofs.Machine.MadeOnce.{not-both}
use Rattle.pr_report_laws.proofs.NewbornChildren.NewbornForks.{forked-before}
use Rattle.pr_report_laws.proofs.NewbornChildren.NewbornTurns.{HasRested, Rests, call-turn, rests-after}
use Rattle.pr_report_laws.proofs.Files.WatchHistories.{after-append, makes-front, makes-rest, run-pushed}
use Rattle.pr_report_laws.specs.Births.{LeavesForks, NamesNoChild}
use Rattle.pr_report_laws.specs.Lineages.{IsLeftToTruss, Lineage, itself}
use Rattle.pr_report_laws.specs.Attachments.{HasFollowed}
use Rattle.pr_report_laws.specs.Newborn.{IsNoTurnOf, WasForked, WasSpawned}
use Rattle.pr_report_laws.specs.Shown.{LwpEvent, picked, selected}
use Rattle.pr_report_laws.specs.Watching.{watches}

-- A child of a fork that truss follows does nothing before truss watches it.

-- of a process that has no turn nothing is logged that is selected
silent : (o : Options) (pid : ℕ) (h : List Entry) (s : TracedState) → All (IsNoTurnOf pid) h
    → selected o pid (events_from s h) ≡ []
unfolding picked
silent o pid [] s all = refl
silent o pid (e ∷ h) s all =
    let first = All-head (IsNoTurnOf pid) e h all in
    picked-both (is_selected o) pid (events_of s e) (events_from (after s e) h)
    ∙ ap (λ (xs : List LwpEvent). xs ++ selected o pid (events_from (after s e) h))
    (no-events (is_selected o) pid s e (λ id. first.none id))
    ∙ silent o pid h (after s e) (All-tail (IsNoTurnOf pid) e h all)

-- ---- the law

module _ (n k : ℕ) (o : Options) (pid : ℕ) (s : TracedState) (before : List Entry) (e : Entry)
    (run : IsReachedTrussRun n k o s (before ++ e ∷ [])) (left : IsLeftToTruss k o pid s (before ++ e ∷ [])) where
  abbrev Line : ℕ → Type 0
  Line = Lineage k o pid s (before ++ e ∷ [])

  nowhere : {X : Type 0} (place : ℕ) → place < length (first_truss o).traced → X
  nowhere place within = absurd (omega (arith, ap (λ (ts : List Traced). length ts) (first-traced o)))

  unclaimed : {X : Type 0} (p c : ℕ) → Claims o (first_truss o).traced (first_truss o).stage s.system p c → X
  unclaimed p c (claims.reads place within same is) = nowhere place within
  unclaimed p c (claims.stands place free same follow process live forked) = nowhere place free.within

  first-rests : Rests Line k o (first_truss o) s [] (before ++ e ∷ [])
  first-rests = record {
    unmade = λ c above. All-nil (IsNoTurnOf c);
    claimed = λ stays p c line its claim. inl (All-nil (IsNoTurnOf c));
    forked = λ stays p c line its claim. unclaimed p c claim;
    child = λ parent place step is line. let first = first-is o 0 in absurd (first.follows parent place step is);
  }

  rests : Rests Line k o (truss_at k o before) (state_after s before) before (e ∷ [])
  rests =
      rests-after Line before n k o (e ∷ []) [] (first_truss o) s
      (first-going Line n k o s (before ++ e ∷ []) run.reached run.of) run.of.legal run.of.makes run.reached.in_range
      run.bytes (line-left n k o pid s (before ++ e ∷ []) run.of left) first-rests

  module _ (off : watches (truss_at k o before) pid ≡ false) (followed : HasFollowed k pid (before ++ e ∷ [])) where
    on : watches (truss_at k o (before ++ e ∷ [])) pid ≡ true
    on = followed-watches n k o pid s (before ++ e ∷ []) run.of followed

    earlier-makes : Makes (truss_after (first_truss o) followed.earlier) followed.opening
    earlier-makes =
        makes-front (truss_after (first_truss o) followed.earlier) followed.opening (followed.last ∷ [])
        (makes-rest (first_truss o) followed.earlier (followed.opening ++ followed.last ∷ [])
        (subst (Makes (first_truss o)) followed.is run.of.makes))

    placed : (x : Exchange) → exchange_of k e ≡ Some x → Placed pid (first_truss o) followed.last (truss_at k o before)
    placed x its =
        let split : exchanges k before ≡ followed.earlier ++ followed.opening =
        push-same (exchanges k before) (followed.earlier ++ followed.opening) x followed.last
        (sym (run-pushed n k o s before e run.of x its) ∙ followed.is
        ∙ sym (append_assoc followed.earlier followed.opening (followed.last ∷ []))) in
        subst (Placed pid (first_truss o) followed.last) (sym (ap (truss_after (first_truss o)) split
        ∙ after-append (first_truss o) followed.earlier followed.opening))
        (child-placed pid (truss_after (first_truss o) followed.earlier) followed.last followed.opening
        (handle_in (reply_at followed.opening 0)) earlier-makes followed.calls followed.granted)

    rested : HasRested pid (before ++ e ∷ [])
    rested = by (exchange_of k e) refl
      where
        by : (x : Option Exchange) → exchange_of k e ≡ x → HasRested pid (before ++ e ∷ [])
        by None its = absurd (stays-off n k o pid s before e run.of off on its)
        by (Some x) its =
            let w = placed x its in
            let f = w.1.1.1.1 in
            let r = rests in
            let has : HasRested pid before =
            subst (λ m. HasRested m before) f.of
            (r.child w.0 w.1.0 w.1.1.0 f.stage (subst Line (sym f.of) itself)) in
            (forked-before pid before e has.0, All-push (IsNoTurnOf pid) before e has.1 (call-turn k pid e x its))

    -- it was made by a fork
    pub left-forked : WasForked pid (before ++ e ∷ [])
    left-forked = rested.0

    -- and so by no controller
    pub left-unstarted : (by : ℕ) → WasSpawned by pid (before ++ e ∷ []) → ⊥
    left-unstarted by spawned = not-both n pid s (before ++ e ∷ []) run.of.lawful run.of.legal by left-forked spawned

    -- no lwp of it has had a turn
    pub left-rests : All (IsNoTurnOf pid) (before ++ e ∷ [])
    left-rests = rested.1

    -- and so no event of it that is selected was logged
    pub left-silent : selected o pid (events_from s (before ++ e ∷ [])) ≡ []
    left-silent = silent o pid (before ++ e ∷ []) s left-rests

-- the same where all children of forks are left to truss
module _ (n k : ℕ) (o : Options) (pid : ℕ) (s : TracedState) (before : List Entry) (e : Entry)
    (run : IsReachedTrussRun n k o s (before ++ e ∷ []))
    (named : NamesNoChild o (before ++ e ∷ [])) (forks : LeavesForks k o (before ++ e ∷ []))
    (off : watches (truss_at k o before) pid ≡ false) (followed : HasFollowed k pid (before ++ e ∷ [])) where
  its-left : IsLeftToTruss k o pid s (before ++ e ∷ [])
  its-left = all-left k o pid s (before ++ e ∷ []) named forks

  pub followed-forked : WasForked pid (before ++ e ∷ [])
  followed-forked = left-forked n k o pid s before e run its-left off followed

  pub followed-unstarted : (by : ℕ) → WasSpawned by pid (before ++ e ∷ []) → ⊥
  followed-unstarted = left-unstarted n k o pid s before e run its-left off followed

  pub followed-rests : All (IsNoTurnOf pid) (before ++ e ∷ [])
  followed-rests = left-rests n k o pid s before e run its-left off followed

  pub followed-silent : selected o pid (events_from s (before ++ e ∷ [])) ≡ []
  followed-silent = left-silent n k o pid s before e run its-left off followed

pub ruleset newborns = (left-forked, left-rests, left-silent, followed-forked, followed-rests, followed-silent)
