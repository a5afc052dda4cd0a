use Rattle.std.proofs.Common.{◌≡◌, ◌≤◌, ◌++◌, ℕ, zero, suc, true, Some, List, [], ◌∷◌, length, append-nil, append_assoc, refl, sym, subst, ap, ◌∙◌, arith}
use Rattle.std.proofs.lemmas.Bool.{false≢true}
use Rattle.std.proofs.lemmas.List.{append_cancel_left, length-append}
use Rattle.std.proofs.lemmas.List.Elements.{All-append, All-nil}
use Rattle.std.specs.List.{All, cons_option}
use Rattle.pr_line.specs.declared.options.Options.{Options}
use Rattle.pr_model.proofs.HistoryLemmas.{state_after-push}
use Rattle.pr_model.specs.Events.{events_from, events_of}
use Rattle.pr_model.specs.Legal.{IsLegalEntry, after, state_after}
use Rattle.pr_model.specs.State.{TracedProcess, TracedState, live_process}
use Rattle.pr_model.specs.declared.events.Entry.{Entry}
use Rattle.pr_reached.specs.ByteHistories.{HasBytes}
use Rattle.pr_reached.specs.Reached.{IsReached}
use Rattle.pr_report_laws.proofs.Files.FileLaws.{HasFiles}
use Rattle.pr_report_laws.proofs.Files.FileUses.{standing}
use Rattle.pr_report_laws.proofs.Files.WatchHistories.{cons-exchanges, exchanges-both, exchanges-push}
use Rattle.pr_report_laws.proofs.Invariant.StandLemmas.{Stands}
use Rattle.pr_report_laws.proofs.Watching.ExchangeEntries.{HasEntryOf, entry-of}
use Rattle.pr_report_laws.proofs.Watching.QuietOpenings.{own-logs, quiet-entry}
use Rattle.pr_report_laws.specs.Grips.{IsOfOther}
use Rattle.pr_truss.specs.Trusses.{TrussState, first_truss, traced_at}
use Rattle.pr_truss.specs.declared.processes.Traced.{Traced}
use Rattle.pr_truss.specs.declared.stages.OpeningStep.{OpeningStep}
use Rattle.pr_truss.specs.declared.stages.OpeningStep.TheVariants.{ReadLwps, TraceSignals, TraceFaults, TraceEntries, TraceExits, Follow, Start}
use Rattle.pr_truss.specs.declared.stages.Stage.TheVariants.{Opening}
use Rattle.pr_truss_laws.specs.Exchanges.{Exchange, exchanges}
use Rattle.pr_truss_laws.specs.Stills.{IsHalting}
use Rattle.pr_function_laws.proofs.CallTurns.CalledLaws.{functions-both}
use Rattle.pr_function_laws.proofs.Holding.HoldOpens.{IsPast, before-is, ends-long, ends-so, is_past, within-past}
use Rattle.pr_function_laws.proofs.LeavingProcesses.LeavingCourse.{calm-at, entry-legal, files-at}
use Rattle.pr_function_laws.proofs.Marks.KeptPlaces.{AtStage}
use Rattle.pr_function_laws.proofs.OpenedProcesses.OpenedCalls.{IsSo}
use Rattle.pr_function_laws.proofs.OpenedProcesses.OpenedLaws.{before-goes, bytes-front}
use Rattle.pr_function_laws.proofs.OpenedProcesses.StoodLemmas.{StoodOpening}
use Rattle.pr_function_laws.proofs.OrdinaryTruss.OrdinaryEntries.{front-run}
use Rattle.pr_function_laws.proofs.OrdinaryTruss.OrdinaryReplies.{at-ordinary}
use Rattle.pr_function_laws.specs.Holds.{GetsHoldWithFunctions, HasWaited, IsOpenedFromWait, OpensQuietly}
use Rattle.pr_function_laws.specs.ReachedRuns.{IsReachedFunctionRun}
use Rattle.pr_function_laws.specs.Opened.{IsFunctionRun, functions_at}
use Rattle.pr_function_laws.specs.Ordinary.{ordinary}
use Rattle.pr_function_laws.specs.Runs.{functions_after}

-- From the answered wait of an opening on a process does nothing until truss with calls of functions has hold of it.

-- ---- the process in its opening

-- behind the wait each of its lwps stands still, or will stop before it does anything
halting-past : (now : OpeningStep) (old : ℕ) (p : TracedProcess) → is_past now ≡ true → StoodOpening now old p
    → IsHalting p
halting-past ReadLwps old p past w = w.halting
halting-past TraceSignals old p past w = let stopped = w.stopped in stopped.halting
halting-past TraceFaults old p past w = let stopped = w.stopped in stopped.halting
halting-past TraceEntries old p past w = let stopped = w.stopped in stopped.halting
halting-past TraceExits old p past w = let stopped = w.stopped in stopped.halting
halting-past Follow old p past w = let stopped = w.stopped in stopped.halting
halting-past Start old p past w = let stopped = w.stopped in stopped.halting
halting-past _ old p past w = absurd (false≢true past)

-- a list that ends with an element begins with one
record Begins (xs : List Exchange) : Type 0 where
  first : Exchange
  rest : List Exchange
  is : xs ≡ first ∷ rest

begins : (xs : List Exchange) (x : Exchange) → Begins (xs ++ x ∷ [])
begins [] x = record { first = x; rest = []; is = refl }
begins (y ∷ xs) x = record { first = y; rest = xs ++ x ∷ []; is = refl }

-- a list that is long enough has an element at this place
record Parts (m : ℕ) (xs : List Exchange) : Type 0 where
  front : List Exchange
  x : Exchange
  rest : List Exchange
  is : xs ≡ front ++ x ∷ rest
  long : length front ≡ m

parts-at : (m : ℕ) (xs : List Exchange) → suc m ≤ length xs → Parts m xs
parts-at zero [] long = absurd (omega (arith, long))
parts-at zero (x ∷ xs) long = record { front = []; x = x; rest = xs; is = refl; long = refl }
parts-at (suc m) [] long = absurd (omega (arith, long))
parts-at (suc m) (x ∷ xs) long =
    let w : Parts m xs = parts-at m xs (omega (arith, long)) in
    record {
      front = x ∷ w.front;
      x = w.x;
      rest = w.rest;
      is = ap (λ (ys : List Exchange). x ∷ ys) w.is;
      long = ap suc w.long;
    }

-- the wait of an opening
has-waited : (n k : ℕ) (o : Options) (pid : ℕ) (s : TracedState) (before : List Entry) (e : Entry)
    → IsFunctionRun n k o s (before ++ e ∷ []) → GetsHoldWithFunctions k o pid before e → HasWaited k o pid before e
has-waited n k o pid s before e run g =
    let w = ends-so n k o pid s before e run g in
    let p : Parts 7 w.front = parts-at 7 w.front (ends-long n k o pid s before e run g) in
    let y : HasEntryOf k before (g.earlier ++ p.front) p.x p.rest =
    entry-of k before (g.earlier ++ p.front) p.x p.rest
    (before-is n k o pid s before e run g ∙ ap (λ (ys : List Exchange). g.earlier ++ ys) p.is
    ∙ sym (append_assoc g.earlier p.front (p.x ∷ p.rest))) in
    record {
      front = y.before;
      waiting = y.entry;
      between = y.later;
      is = y.is;
      opened = record {
        gets = record {
          last = g.last;
          own = g.own;
          earlier = g.earlier;
          opening = g.opening;
          is = ap (λ (es : List Entry). exchanges k (es ++ e ∷ [])) (sym y.is) ∙ g.is;
          whole = g.whole;
        };
        begun = p.front;
        wait = p.x;
        is = y.earlier;
        seven = p.long;
        own = y.own;
      };
    }

module _ (n k : ℕ) (o : Options) (s : TracedState) (h : List Entry) (run : IsReachedFunctionRun n k o s h) where
  module _ (before between later : List Entry) (waiting running : Entry) (pid : ℕ)
      (is : h ≡ before ++ waiting ∷ (between ++ running ∷ later))
      (w : IsOpenedFromWait k o pid before waiting between running) where
    abbrev g : GetsHoldWithFunctions k o pid (before ++ waiting ∷ between) running
    g = w.gets

    abbrev begun : TrussState
    begun = functions_after (first_truss o) g.earlier

    run-there : IsFunctionRun n k o s ((before ++ waiting ∷ between) ++ running ∷ [])
    run-there =
        front-run n k o s ((before ++ waiting ∷ between) ++ running ∷ []) later
        (subst (IsFunctionRun n k o s)
        (is
        ∙ sym
        (append_assoc (before ++ waiting ∷ between) (running ∷ []) later
        ∙ append_assoc before (waiting ∷ between) (running ∷ later))) run.of)

    -- after some of the entries between
    module _ (first second : List Entry) (parts : between ≡ first ++ second) where
      abbrev f : List Entry
      f = before ++ waiting ∷ first

      abbrev t : TrussState
      t = functions_at k o f

      abbrev done : List Exchange
      done = w.begun ++ w.wait ∷ exchanges k first

      is-f : h ≡ f ++ (second ++ running ∷ later)
      is-f =
          is ∙ ap (λ (es : List Entry). before ++ waiting ∷ (es ++ running ∷ later)) parts
          ∙ ap (λ (es : List Entry). before ++ waiting ∷ es) (append_assoc first second (running ∷ later))
          ∙ sym (append_assoc before (waiting ∷ first) (second ++ running ∷ later))

      at-f : exchanges k f ≡ g.earlier ++ done
      at-f =
          exchanges-both k before (waiting ∷ first)
          ∙ ap (λ (ys : List Exchange). exchanges k before ++ ys)
          (cons-exchanges k waiting first ∙ ap (λ y. cons_option y (exchanges k first)) w.own)
          ∙ ap (λ (ys : List Exchange). ys ++ w.wait ∷ exchanges k first) w.is
          ∙ append_assoc g.earlier w.begun (w.wait ∷ exchanges k first)

      abbrev rest : List Exchange
      rest = exchanges k second ++ g.last ∷ []

      joined : before ++ waiting ∷ between ≡ f ++ second
      joined =
          ap (λ (es : List Entry). before ++ waiting ∷ es) parts
          ∙ sym (append_assoc before (waiting ∷ first) second)

      opening-is : g.opening ≡ done ++ rest
      opening-is =
          append_cancel_left g.earlier g.opening (done ++ rest)
          (sym g.is ∙ exchanges-push k (before ++ waiting ∷ between) running
          ∙ ap (λ y. exchanges k (before ++ waiting ∷ between) ++ cons_option y []) g.own
          ∙ ap (λ (es : List Entry). exchanges k es ++ g.last ∷ []) joined
          ∙ ap (λ (ys : List Exchange). ys ++ g.last ∷ []) (exchanges-both k f second)
          ∙ ap (λ (ys : List Exchange). (ys ++ exchanges k second) ++ g.last ∷ []) at-f
          ∙ append_assoc (g.earlier ++ done) (exchanges k second) (g.last ∷ [])
          ∙ append_assoc g.earlier done rest)

      many : 8 ≤ length done
      many = omega (arith, w.seven, length-append w.begun (w.wait ∷ exchanges k first))

      past : IsPast o run-there.has run-there.follows_none pid (length (ordinary begun).traced)
          (functions_after begun done)
      past =
          let b = begins (exchanges k second) g.last in
          within-past n k o pid s (before ++ waiting ∷ between) running run-there g done b.rest b.first
          (opening-is ∙ ap (λ (ys : List Exchange). done ++ ys) b.is) many

      same-truss : t ≡ functions_after begun done
      same-truss = ap (functions_after (first_truss o)) at-f ∙ functions-both (first_truss o) g.earlier done

      halts : (p : TracedProcess) → live_process (state_after s f).system pid ≡ Some p → IsHalting p
      halts p live =
          let q : ℕ = length (ordinary begun).traced in
          let there = past in
          let i = there.opening in
          let stage : t.stage ≡ Opening q there.now = ap (λ (z : TrussState). z.stage) same-truss ∙ i.stage in
          let of : (traced_at t q).pid ≡ pid =
          sym (ap (λ (z : Traced). z.pid) (at-ordinary t q))
          ∙ ap (λ (z : TrussState). (traced_at (ordinary z) q).pid) same-truss ∙ i.of in
          let files : HasFiles k (ordinary t) (state_after s f) =
          files-at ⊥ n k o s h run.of (λ never. absurd never) (λ never. absurd never) f (second ++ running ∷ later) is-f
          in
          let stands : Stands (ordinary t).traced t.leaving (Opening q there.now) =
          standing k (ordinary t) (state_after s f) (Opening q there.now) files stage in
          let calm =
          calm-at ⊥ n k o s h run.of (λ never. absurd never) (λ never. absurd never) f (second ++ running ∷ later) is-f
          stands.leaves in
          let goes =
          before-goes n k o s h run.of f (second ++ running ∷ later) is-f calm (IsReached s) (λ r. r)
          (λ r. bytes-front f (second ++ running ∷ later) (subst HasBytes is-f run.bytes)) in
          let kept = goes.kept in
          let here =
          subst (AtStage (IsSo (IsReached s) k t.options (state_after s f)) t.traced) stage kept.stage in
          let so : IsSo (IsReached s) k t.options (state_after s f) _ (traced_at t q) = here.1.1 in
          let stood = so.stands run.reached in
          halting-past there.now (traced_at t q).old p there.past
          (stood.stood p (ap (live_process (state_after s f).system) of ∙ live))

    -- the log of the entries between, and of the last one
    part-quiet : (second first : List Entry) → between ≡ first ++ second
        → All (IsOfOther pid)
        (events_from (state_after s (before ++ waiting ∷ first)) (second ++ running ∷ []))
    part-quiet [] first parts =
        let none = own-logs k (state_after s (before ++ waiting ∷ first)) running g.last g.own in
        subst (All (IsOfOther pid)) (sym (append-nil _ ∙ none)) (All-nil (IsOfOther pid))
    part-quiet (e ∷ second) first parts =
        let f : List Entry = before ++ waiting ∷ first in
        let legal : IsLegalEntry n (state_after s f) e =
        entry-legal ⊥ n k o s h run.of (λ never. absurd never) (λ never. absurd never) f e (second ++ running ∷ later)
        (is-f first (e ∷ second) parts) in
        let here = quiet-entry n (state_after s f) pid (halts first (e ∷ second) parts) e legal in
        let next : between ≡ (first ++ e ∷ []) ++ second = parts ∙ sym (append_assoc first (e ∷ []) second) in
        let later_state : state_after s (before ++ waiting ∷ (first ++ e ∷ [])) ≡ after (state_after s f) e =
        ap (state_after s) (sym (append_assoc before (waiting ∷ first) (e ∷ []))) ∙ state_after-push s f e in
        All-append (IsOfOther pid) (events_of (state_after s f) e)
        (events_from (after (state_after s f) e) (second ++ running ∷ [])) here
        (subst (λ (z : TracedState). All (IsOfOther pid) (events_from z (second ++ running ∷ []))) later_state
        (part-quiet second (first ++ e ∷ []) next))

    quiet-so : All (IsOfOther pid) (events_from (state_after s before) (waiting ∷ (between ++ running ∷ [])))
    quiet-so =
        let none = own-logs k (state_after s before) waiting w.wait w.own in
        let rest_quiet =
        subst (λ (z : TracedState). All (IsOfOther pid) (events_from z (between ++ running ∷ [])))
        (state_after-push s before waiting) (part-quiet between [] refl) in
        All-append (IsOfOther pid) (events_of (state_after s before) waiting)
        (events_from (after (state_after s before) waiting) (between ++ running ∷ []))
        (subst (All (IsOfOther pid)) (sym none) (All-nil (IsOfOther pid))) rest_quiet

pub opens-quietly : (n k : ℕ) (o : Options) (s : TracedState) (h : List Entry) → IsReachedFunctionRun n k o s h
    → OpensQuietly k o s h
opens-quietly n k o s h run = record {
  waits = λ before later e pid is g.
      has-waited n k o pid s before e
      (front-run n k o s (before ++ e ∷ []) later
      (subst (IsFunctionRun n k o s) (is ∙ sym (append_assoc before (e ∷ []) later)) run.of)) g;
  quiet = λ before between later waiting running pid is w.
      quiet-so n k o s h run before between later waiting running pid is w;
}

pub ruleset quiet_openings = (opens-quietly)
