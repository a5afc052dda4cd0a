use Rattle.std.proofs.Common.{◌≡◌, ◌<◌, ◌++◌, ℕ, true, Option, Some, None, List, [], ◌∷◌, length, append-nil, append_assoc, refl, sym, subst, ap, ◌∙◌, arith}
use Rattle.std.specs.List.{All, slice_get}
use Rattle.pr_line.specs.declared.options.Options.{Options}
use Rattle.pr_model.specs.Legal.{state_after}
use Rattle.pr_model.specs.State.{TracedProcess, TracedState, live_process}
use Rattle.pr_model.specs.declared.events.Entry.{Entry}
use Rattle.pr_report_laws.proofs.Files.WatchHistories.{no-exchanges}
use Rattle.pr_report_laws.specs.Shown.{LwpEvent, shown}
use Rattle.pr_report_laws.specs.Watching.{watches}
use Rattle.pr_truss.specs.Reports.{all_reports}
use Rattle.pr_truss.specs.Trusses.{TrussState, first_of_program, first_truss, idle as unbegun, opening_or}
use Rattle.pr_truss.specs.declared.processes.Traced.{Traced}
use Rattle.pr_truss_laws.specs.Exchanges.{Exchange, exchange_of, exchanges}
use Rattle.pr_function_laws.proofs.Listing.FinishedLaws.{missing-at-last}
use Rattle.pr_function_laws.proofs.Listing.ListedStates as states
use Rattle.pr_function_laws.proofs.Listing.ListedStates.{clear, comes-unread, due, hidden, lost, standing}
use Rattle.pr_function_laws.proofs.Listing.ListedSteps.{no-events-yet, watched}
use Rattle.pr_function_laws.proofs.OpenedProcesses.OpenedCalls.{IsSo}
use Rattle.pr_function_laws.proofs.OpenedProcesses.OpenedLaws.{Goes, before-goes}
use Rattle.pr_function_laws.proofs.Listing.RestPlaces.{RestsAt}
use Rattle.pr_function_laws.specs.ListedEvents.{MayMiss, ListsItsEvents, ended, none, unread}
use Rattle.pr_function_laws.specs.ReachedRuns.{IsReachedFunctionRun}
use Rattle.pr_function_laws.specs.Opened.{IsFunctionRun, WasNotInterrupted, functions_at}
use Rattle.pr_function_laws.specs.Runs.{functions_after}
use Rattle.pr_function_laws.proofs.Listing.ListedRests as rests-of
use Rattle.pr_function_laws.proofs.Listing.ListedTurns as turns-of
use Rattle.pr_function_laws.proofs.Listing.ListedCalls as calls-of

-- The events of a process that truss has shown are those that it is to show, entry by entry, but for the last one,
-- where truss has not read it yet or SIGKILL has ended the process since.

-- ---- before its first call

opening-traced : (o : Options) (p : Option ℕ) → (opening_or (unbegun o) (unbegun o) p).traced ≡ []
opening-traced o None = refl
opening-traced o (Some p) = refl

program-traced : (o : Options) (p : Option (List ℕ)) → (first_of_program o p).traced ≡ []
program-traced o None = opening-traced o (slice_get o.pids 0)
program-traced o (Some program) = refl

opening-shown : (pid : ℕ) (o : Options) (p : Option ℕ) → shown pid (opening_or (unbegun o) (unbegun o) p) ≡ []
unfolding shown all_reports
opening-shown pid o None = refl
opening-shown pid o (Some p) = refl

program-shown : (pid : ℕ) (o : Options) (p : Option (List ℕ)) → shown pid (first_of_program o p) ≡ []
unfolding shown all_reports
program-shown pid o None = opening-shown pid o (slice_get o.pids 0)
program-shown pid o (Some program) = refl

first-shown : (pid : ℕ) (o : Options) → shown pid (first_truss o) ≡ []
unfolding first_truss
first-shown pid o = program-shown pid o o.program

module _ (k : ℕ) (o : Options) where
  first-is : functions_at k o [] ≡ first_truss o
  first-is = ap (functions_after (first_truss o)) (no-exchanges k)

  none-traced : {place : ℕ} → place < length (functions_at k o []).traced → ⊥
  unfolding first_truss
  none-traced {place} within =
      let none : (functions_at k o []).traced ≡ [] =
      ap (λ (u : TrussState). u.traced) first-is ∙ program-traced o o.program in
      omega (arith, subst (λ (ts : List Traced). place < length ts) none within)

  none-shown : (pid : ℕ) → shown pid (functions_at k o []) ≡ []
  none-shown pid = ap (shown pid) first-is ∙ first-shown pid o

module _ (n k : ℕ) (o : Options) (s : TracedState) (h : List Entry) (run : IsReachedFunctionRun n k o s h)
    (all_calm : All WasNotInterrupted (exchanges k h)) (pid : ℕ) where
  abbrev T : List Entry → TrussState
  T front = functions_at k o front

  abbrev S : List Entry → TracedState
  S front = state_after s front

  abbrev calm-at : (f later : List Entry) → h ≡ f ++ later → All WasNotInterrupted (exchanges k f)
  calm-at = rests-of.calm-at n k o s h run all_calm pid

  abbrev RestsSo : List Entry → ℕ → Type 0
  RestsSo f place = RestsAt (functions_at k o f) pid place

  abbrev Missing : List Entry → ℕ → LwpEvent → TracedProcess → List LwpEvent → Type 0
  Missing = states.Missing k o s pid

  abbrev Stands : List Entry → List LwpEvent → Type 0
  Stands = states.Stands k o s pid RestsSo

  abbrev Listed : List Entry → Type 0
  Listed = states.Listed k o s pid RestsSo

  module _ (f : List Entry) (e : Entry) (later : List Entry) (is : h ≡ f ++ e ∷ later) where
    abbrev next : List Entry
    next = f ++ e ∷ []

    entry-listed : Listed f → Listed next
    entry-listed it_was = by (exchange_of k e) refl
      where
        by : (x : Option Exchange) → exchange_of k e ≡ x → Listed next
        by None foreign = turns-of.foreign-next n k o s h run all_calm pid f e later is foreign it_was
        by (Some x) own = calls-of.exchange-next n k o s h run all_calm pid f e later is x own it_was

  -- ---- all entries

  first-listed : Listed []
  first-listed = record {
    missing = [];
    are = no-events-yet k pid (first_truss o) s ∙ sym (append-nil (shown pid (T [])) ∙ none-shown k o pid);
    stands = clear (λ place w p live. absurd (none-traced k o w.within));
  }

  walk : (mid front later : List Entry) → h ≡ front ++ (mid ++ later) → Listed front → Listed (front ++ mid)
  walk [] front later is it_was = subst Listed (sym (append-nil front)) it_was
  walk (e ∷ mid) front later is it_was =
      subst Listed (append_assoc front (e ∷ []) mid)
      (walk mid (front ++ e ∷ []) later (is ∙ sym (append_assoc front (e ∷ []) (mid ++ later)))
      (entry-listed front e (mid ++ later) is it_was))

  whole : h ≡ h ++ []
  whole = sym (append-nil h)

  pub listed : Listed h
  listed = walk h [] [] whole first-listed

  -- at the end the process is watched
  module _ (place : ℕ) (w : RestsAt (T h) pid place) where
    at-end : Goes ⊥ k o (T h) (S h)
    at-end =
        before-goes n k o s h run.of h [] whole (calm-at h [] whole) ⊥ (λ none. absurd none) (λ none. absurd none)

    watched-still : watches (T h) pid ≡ true
    watched-still =
        let g = at-end in
        watched n k o s h [] pid (subst (λ (es : List Entry). IsFunctionRun n k o s es) whole run.of)
        (IsSo ⊥ k (T h).options (S h)) g.kept place w

  pub shows-its-events : ListsItsEvents k o s h pid
  unfolding comes-unread
  shows-its-events =
      let it = listed in
      let few : MayMiss k o s h pid it.missing = by it.stands in
      record {
        missing = it.missing;
        are = it.are;
        few = few;
        at_last = λ finished some. missing-at-last n k o s h run.of finished pid few some;
      }
    where
      by-missing : (place : ℕ) (w : RestsAt (T h) pid place) (p : TracedProcess)
          → live_process (S h).system pid ≡ Some p
          → (event : LwpEvent) (missing : List LwpEvent) → Missing h place event p missing
          → MayMiss k o s h pid missing
      by-missing place w p live event missing (hidden off) = none
      by-missing place w p live event missing (due chosen since kept_so) =
          unread event (comes-unread k o s pid h event since) (watched-still place w) p live

      by : {missing : List LwpEvent} → Stands h missing → MayMiss k o s h pid missing
      by (clear unmet) = none
      by (standing place w p live event on missing m) = by-missing place w p live event missing m
      by (lost event w made_it gone was_killed) = ended event (comes-unread k o s pid h event w) gone was_killed
