use Rattle.std.proofs.Common.{◌≡◌, ◌&&◌, ◌++◌, ℕ, not, Option, Some, None, List, [], ◌∷◌, refl, subst, ap, ◌∙◌, append-nil, append_assoc, sym}
use Rattle.pr_line.specs.declared.options.Options.{Options}
use Rattle.pr_model.specs.Legal.{state_after}
use Rattle.pr_model.specs.State.{TracedState}
use Rattle.pr_model.specs.declared.events.Entry.{Entry}
use Rattle.pr_report_laws.proofs.Files.WatchHistories.{exchanges-both}
use Rattle.pr_report_laws.proofs.Watching.HistoryParts.{legal-front}
use Rattle.pr_report_laws.specs.Watching.{is_away, is_of, place_of, watches, watches_at}
use Rattle.pr_truss.specs.FunctionCalls.{next_function_call_of}
use Rattle.pr_truss.specs.FunctionFeeding.{fed_functions}
use Rattle.pr_truss.specs.Trusses.{TrussState, first_truss}
use Rattle.pr_truss.specs.declared.processes.Traced.{Traced}
use Rattle.pr_truss_laws.specs.Exchanges.{Exchange, exchange_of, exchanges}
use Rattle.pr_function_laws.proofs.ShownOnce.GoingOn.{Going, after-going}
use Rattle.pr_function_laws.proofs.LeavingProcesses.LeavingLaws.{calm-exchanges}
use Rattle.pr_function_laws.proofs.OpenedProcesses.OpenedLaws.{bytes-front, calls-front}
use Rattle.pr_function_laws.proofs.OrdinaryTruss.OrdinaryExchanges.{Turn, turn}
use Rattle.pr_function_laws.proofs.OrdinaryTruss.OrdinaryFiles.{Follows, Halfway, MakesOwn, entry-calm, own-next, run-halfway, with_own}
use Rattle.pr_function_laws.proofs.OrdinaryTruss.OrdinaryReplies.{at-ordinary, position-unmarked}
use Rattle.pr_function_laws.proofs.OrdinaryTruss.OrdinaryShown.{functions_at-push}
use Rattle.pr_function_laws.specs.Opened.{IsFunctionRun, functions_at}
use Rattle.pr_function_laws.specs.Ordinary.{ordinary}
use Rattle.pr_function_laws.specs.ReachedRuns.{IsReachedFunctionRun}
use Rattle.pr_function_laws.specs.Runs.{MakesFunctionCalls}
use Rattle.pr_function_laws.specs.Soon.{IsCalm}

-- An entry of a history of truss with calls of functions: what truss is before it, and what its exchange is to a truss
-- without them.

-- it watches the same processes
pub watches-ordinary : (t : TrussState) (pid : ℕ) → watches (ordinary t) pid ≡ watches t pid
unfolding watches
watches-ordinary t pid =
    ap (watches_at (ordinary t)) (position-unmarked (is_of pid) (λ u. refl) t.traced) ∙ by (place_of t pid)
  where
    by : (place : Option ℕ) → watches_at (ordinary t) place ≡ watches_at t place
    by None = refl
    by (Some place) =
        ap (λ (u : Traced). u.attached && not (is_away t.leaving t.stage place)) (at-ordinary t place)

-- What is so at first, and stays so in each entry of a history, is so along it.
pub along : (J : List Entry → Type 0) → J [] → (h : List Entry)
    → ((before later : List Entry) (e : Entry) → h ≡ before ++ e ∷ later → J before → J (before ++ e ∷ [])) → J h
along J first h step = walk h [] refl first
  where
    walk : (rest done : List Entry) → h ≡ done ++ rest → J done → J h
    walk [] done is w = subst J (sym (is ∙ append-nil done)) w
    walk (e ∷ rest) done is w =
        walk rest (done ++ e ∷ []) (is ∙ sym (append_assoc done (e ∷ []) rest)) (step done rest e is w)

-- the front of such a history
pub front-run : (n k : ℕ) (o : Options) (s : TracedState) (front later : List Entry)
    → IsFunctionRun n k o s (front ++ later) → IsFunctionRun n k o s front
front-run n k o s front later run = record {
  has = run.has;
  follows_none = run.follows_none;
  lawful = run.lawful;
  nothing_open = run.nothing_open;
  legal = legal-front n s front later run.legal;
  makes =
      calls-front (first_truss o) (exchanges k front) (exchanges k later)
      (subst (MakesFunctionCalls (first_truss o)) (exchanges-both k front later) run.makes);
}

-- so it is of one of which each state is reached
pub front-reached : (n k : ℕ) (o : Options) (s : TracedState) (front later : List Entry)
    → IsReachedFunctionRun n k o s (front ++ later) → IsReachedFunctionRun n k o s front
front-reached n k o s front later run = record {
  of = front-run n k o s front later run.of;
  reached = run.reached;
  bytes = bytes-front front later run.bytes;
}

module _ (n k : ℕ) (o : Options) (s : TracedState) (before later : List Entry) (e : Entry)
    (run : IsFunctionRun n k o s (before ++ e ∷ later)) where
  abbrev t : TrussState
  t = functions_at k o before

  here : Halfway n k o (first_truss o) s before (e ∷ later)
  here = run-halfway n k o s before (e ∷ later) run

  -- an entry that is no call of it
  pub unmoved : exchange_of k e ≡ None → functions_at k o (before ++ e ∷ []) ≡ t
  unmoved none = functions_at-push k o before e ∙ ap (with_own t) none

  -- whether it still opens what it was given
  pub going : Going (exchanges k before) t.stage
  going =
      let front = front-run n k o s before (e ∷ later) run in
      after-going o run.has run.follows_none (exchanges k before) front.makes (calm-exchanges before n k s front.legal)

  pub follows : Follows k o t (state_after s before)
  follows = let half = here in half.follows

  module _ (x : Exchange) (own : exchange_of k e ≡ Some x) where
    pub made : next_function_call_of t ≡ Some x.call
    made =
        let half = here in
        let m = own-next k t e later half.makes in
        subst (MakesOwn t) own m.0

    pub calm : IsCalm x
    calm = let half = here in entry-calm n k (state_after s before) e x half.legal.0 own

    pub turned : Turn t x
    turned = let f = follows in turn o run.has run.follows_none t x f.fit made calm

    pub pushed : functions_at k o (before ++ e ∷ []) ≡ fed_functions t x.reply
    pushed = functions_at-push k o before e ∙ ap (with_own t) own
