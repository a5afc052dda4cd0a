use Rattle.std.proofs.Common.{◌≡◌, ◌+◌, ◌++◌, ℕ, Some, List, [], ◌∷◌, length, refl, sym, subst, ap, ◌∙◌, append_assoc, arith, inl}
use Rattle.std.proofs.lemmas.List.{append-nil, length-append}
use Rattle.std.proofs.lemmas.List.Elements.{All-append, All-nil, All-tail}
use Rattle.std.specs.List.{All, cons_option}
use Rattle.pr_line.specs.declared.options.Options.{Options}
use Rattle.pr_model.specs.Events.{Logged, events_from, events_of}
use Rattle.pr_model.specs.Legal.{IsLegal, after, state_after}
use Rattle.pr_model.specs.State.{TracedProcess, TracedState}
use Rattle.pr_model.specs.declared.events.Entry.{Entry}
use Rattle.pr_reached.proofs.FitStates.FitHistoryLemmas.{history-fits}
use Rattle.pr_reached.proofs.StatesInRange.HistoryRanges.{history-range}
use Rattle.pr_reached.specs.ByteHistories.{HasBytes, IsEntryOfBytes}
use Rattle.pr_truss.specs.Feeding.{fed}
use Rattle.pr_truss.specs.Trusses.{TrussState, traced_at}
use Rattle.pr_truss.specs.declared.stages.OpeningStep.{OpeningStep}
use Rattle.pr_truss.specs.declared.stages.OpeningStep.TheVariants as opening
use Rattle.pr_truss_laws.specs.Exchanges.{Exchange, IsGranted, Makes, exchange_of, exchanges, truss_after, truss_at}
use Rattle.pr_truss_laws.specs.Given.{IsWholeOpening}
use Rattle.pr_report_laws.specs.ReachedRuns.{IsReachedTrussRun}
use Rattle.pr_truss_laws.specs.Runs.{IsTrussRun}
use Rattle.pr_report_laws.proofs.Files.WatchHistories.{Reaches, cons-exchanges, exchanges-both, makes-front, makes-rest, no-exchanges, run-reaches, truss_at-push}
use Rattle.pr_report_laws.proofs.FollowedChildren.FollowCalm.{tail-same}
use Rattle.pr_report_laws.proofs.Invariant.OpeningRuns.{granted-first, steps_left}
use Rattle.pr_report_laws.proofs.Invariant.HistoryLaw.{first_tally}
use Rattle.pr_report_laws.proofs.Invariant.Standing.{Opened, Prepares, apart}
use Rattle.pr_report_laws.proofs.Machine.TracedPoints.{picks-traced}
use Rattle.pr_report_laws.specs.Reads.{traces}
use Rattle.pr_report_laws.proofs.Invariant.UnreadLaws.{state_after-append}
use Rattle.pr_report_laws.proofs.Watching.BeginLaws.{at-options}
use Rattle.pr_report_laws.proofs.Watching.ExchangeEntries.{entry-of}
use Rattle.pr_report_laws.proofs.Watching.HistoryParts.{all-front, all-rest, front-reached, legal-front, legal-rest, rest-legal, rest-makes}
use Rattle.pr_report_laws.proofs.Watching.OnceLaws.{opening-off}
use Rattle.pr_report_laws.proofs.Watching.OpeningPlaces.{OpensWith, opening-starts, started-opens}
use Rattle.pr_report_laws.proofs.Watching.QuietOpenings.{Goes, goes-after, own-logs, quiet-after}
use Rattle.pr_report_laws.proofs.Watching.WaitPlaces.{wait-place}
use Rattle.pr_report_laws.specs.Grips.{IsOfOther, IsOpenedFrom}
use Rattle.pr_report_laws.specs.Watching.{with_exchange}

-- From the answered wait of an opening to its end, in a history, no event of the process is logged.

-- ---- the log of two parts of a history

pub events_from-append : (s : TracedState) (xs ys : List Entry)
    → events_from s (xs ++ ys) ≡ events_from s xs ++ events_from (state_after s xs) ys
events_from-append s [] ys = refl
events_from-append s (x ∷ xs) ys =
    ap (λ (ls : List Logged). events_of s x ++ ls) (events_from-append (after s x) xs ys)
    ∙ sym (append_assoc (events_of s x) (events_from (after s x) xs) (events_from (state_after (after s x) xs) ys))

-- ---- once the control file is open

first-opened : (o : Options) (step : OpeningStep) (p : TracedProcess) (old : ℕ)
    → steps_left o.follow step ≡ steps_left o.follow opening.OpenStatus → Opened o step p old
unfolding Opened
first-opened o opening.OpenStatus p old count = tt
first-opened o opening.OpenLstatus p old count = tt
first-opened o opening.OpenMemory p old count = tt
first-opened o opening.ClearModes p old count = tt
first-opened o opening.SetRelease p old count = absurd (omega arith)
first-opened o opening.Stop p old count = absurd (omega arith)
first-opened o (opening.AwaitStop until) p old count = absurd (omega arith)
first-opened o opening.ReadLwps p old count = absurd (omega arith)
first-opened o opening.TraceSignals p old count = absurd (omega arith)
first-opened o opening.TraceFaults p old count = absurd (omega arith)
first-opened o opening.TraceEntries p old count = absurd (omega arith)
first-opened o opening.TraceExits p old count = absurd (omega arith)
first-opened o opening.Follow p old count = absurd (omega arith)
first-opened o opening.Start p old count = absurd (omega arith)

not-waiting : (o : Options) (now : OpeningStep) (until : ℕ)
    → steps_left o.follow now ≡ steps_left o.follow opening.OpenStatus → now ≡ opening.AwaitStop until → until ≡ 0
not-waiting o now until count is =
    absurd (omega (arith, count, ap (λ (x : OpeningStep). steps_left o.follow x) is))

first-prepares : (o : Options) (pid place : ℕ) (t : TrussState) (s : TracedState) → t.options ≡ o
    → OpensWith t pid place (steps_left o.follow opening.OpenStatus) → Prepares o pid t s
first-prepares o pid place t s same w =
    let i = w.opening in
    let count : steps_left o.follow w.step ≡ steps_left o.follow opening.OpenStatus =
    ap (λ (q : Options). steps_left q.follow w.step) (sym same) ∙ w.calls in
    record {
      opened = λ at step p is own live.
          let e = sym i.stage ∙ is in
          let now : w.step ≡ step = cc in
          subst (λ (x : OpeningStep). Opened o x p (traced_at t at).old) now
          (first-opened o w.step p (traced_at t at).old count);
      until = λ at until is.
          let e = sym i.stage ∙ is in
          let now : w.step ≡ opening.AwaitStop until = cc in
          not-waiting o w.step until count now;
      child = λ parent at step p is own live. absurd (let e = sym i.stage ∙ is in cc);
      new = λ parent at step is. absurd (let e = sym i.stage ∙ is in cc);
    }

first-goes : (n k : ℕ) (o : Options) (pid place : ℕ) (s : TracedState) (h : List Entry) → IsReachedTrussRun n k o s h
    → OpensWith (truss_at k o h) pid place (steps_left o.follow opening.OpenStatus)
    → Goes k o pid place (steps_left o.follow opening.OpenStatus) (truss_at k o h) (state_after s h)
first-goes n k o pid place s h run w =
    let t : TrussState = truss_at k o h in
    let now : TracedState = state_after s h in
    let g : Reaches k t now = run-reaches n k o s h run.of in
    record {
      K = ⊥;
      tally = first_tally (traces o);
      holds = record {
        lawful = g.lawful;
        fit = history-fits n s h run.of.lawful run.reached.fit run.of.legal;
        owns = g.owns;
        files = g.files;
        options = at-options o (exchanges k h);
        picks = picks-traced o;
        prepares = first-prepares o pid place t now (at-options o (exchanges k h)) w;
        standing =
            apart (opening-off k t now g pid place _ w)
            (record { missing = []; is = refl; few = inl refl });
      };
      opens = w;
      range = history-range n s h run.of.lawful run.reached.in_range run.bytes run.of.legal;
    }

-- ---- from there on

module _ (n k : ℕ) (o : Options) (pid : ℕ) (s : TracedState) (b0 : List Entry) (e0 : Entry)
    (b1 : List Entry) (waiting : Entry) (between : List Entry) (running : Entry)
    (run : IsReachedTrussRun n k o s ((b0 ++ e0 ∷ []) ++ (b1 ++ (waiting ∷ (between ++ running ∷ [])))))
    (f : Exchange) (fs : List Exchange) (wait last : Exchange) (own : exchange_of k e0 ≡ Some f)
    (begun : exchanges k b1 ≡ fs) (waits : exchange_of k waiting ≡ Some wait) (runs : exchange_of k running ≡ Some last)
    (six : length fs ≡ 6)
    (whole : IsWholeOpening o pid (f ∷ (fs ++ (wait ∷ (exchanges k between ++ last ∷ []))))) where
  abbrev opened : List Entry
  opened = b0 ++ e0 ∷ []

  abbrev part : List Entry
  part = waiting ∷ (between ++ running ∷ [])

  abbrev rest : List Exchange
  rest = wait ∷ (exchanges k between ++ last ∷ [])

  t0 : TrussState
  t0 = truss_at k o b0

  part-exchanges : exchanges k part ≡ rest
  part-exchanges =
      cons-exchanges k waiting (between ++ running ∷ [])
      ∙ ap (λ x. cons_option x (exchanges k (between ++ running ∷ []))) waits
      ∙ ap (λ (ys : List Exchange). wait ∷ ys) (exchanges-both k between (running ∷ [])
      ∙ ap (λ (ys : List Exchange). exchanges k between ++ ys) (cons-exchanges k running []
      ∙ ap (λ x. cons_option x (exchanges k [])) runs
      ∙ ap (λ (ys : List Exchange). last ∷ ys) (no-exchanges k)))

  opening-makes : Makes t0 (f ∷ (fs ++ rest))
  unfolding t0
  opening-makes =
      subst (Makes (truss_at k o b0)) (cons-exchanges k e0 (b1 ++ part)
      ∙ ap (λ x. cons_option x (exchanges k (b1 ++ part))) own
      ∙ ap (λ (ys : List Exchange). f ∷ ys) (exchanges-both k b1 part
      ∙ ap (λ (ys : List Exchange). ys ++ exchanges k part) begun
      ∙ ap (λ (ys : List Exchange). fs ++ ys) part-exchanges))
      (rest-makes n k o s b0 (e0 ∷ (b1 ++ part))
      (subst (IsTrussRun n k o s) (append_assoc b0 (e0 ∷ []) (b1 ++ part)) run.of))

  count : length fs + length rest ≡ steps_left o.follow opening.OpenStatus
  unfolding t0
  count =
      let w = opening-starts o pid t0 (at-options o (exchanges k b0)) (f ∷ (fs ++ rest)) opening-makes whole in
      sym (length-append fs rest) ∙ ap (λ (ys : List Exchange). length ys) (tail-same w.is) ∙ w.left

  all-granted : All IsGranted (f ∷ (fs ++ rest))
  all-granted = whole.granted

  front-is : truss_at k o opened ≡ fed t0 f.reply
  unfolding t0
  front-is = truss_at-push k o b0 e0 ∙ ap (with_exchange (truss_at k o b0)) own

  opens : OpensWith (truss_at k o opened) pid (length t0.traced) (steps_left o.follow opening.OpenStatus)
  unfolding t0
  opens =
      let w = opening-starts o pid t0 (at-options o (exchanges k b0)) (f ∷ (fs ++ rest)) opening-makes whole in
      subst (λ (u : TrussState). OpensWith u pid (length t0.traced) (steps_left o.follow opening.OpenStatus))
      (sym front-is)
      (started-opens o pid t0 (at-options o (exchanges k b0)) f w.stage
      (granted-first f (fs ++ rest) all-granted))

  goes : Goes k o pid (length t0.traced) (steps_left o.follow opening.OpenStatus) (truss_at k o opened)
      (state_after s opened)
  goes =
      first-goes n k o pid (length t0.traced) s opened (front-reached n k o s opened (b1 ++ part) run) opens

  rest-bytes : HasBytes (b1 ++ part)
  rest-bytes = all-rest IsEntryOfBytes opened (b1 ++ part) run.bytes

  abbrev t1 : TrussState
  t1 = truss_after (truss_at k o opened) (exchanges k b1)

  abbrev s1 : TracedState
  s1 = state_after (state_after s opened) b1

  both-make : Makes (truss_at k o opened) (exchanges k b1 ++ exchanges k part)
  both-make =
      subst (Makes (truss_at k o opened)) (exchanges-both k b1 part) (rest-makes n k o s opened (b1 ++ part) run.of)

  -- before the wait
  waiting-goes : Goes k o pid (length t0.traced) (length rest) t1 s1
  waiting-goes =
      goes-after n k o pid (length t0.traced) b1 (truss_at k o opened) (state_after s opened)
      (steps_left o.follow opening.OpenStatus) (length rest) goes
      (sym count ∙ ap (λ (ys : List Exchange). length ys + length rest) (sym begun)) (omega arith)
      (legal-front n (state_after s opened) b1 part (rest-legal n k o s opened (b1 ++ part) run.of))
      (makes-front (truss_at k o opened) (exchanges k b1) (exchanges k part) both-make)
      (all-front IsEntryOfBytes b1 part rest-bytes)
      (subst (All IsGranted) (sym begun)
      (all-front IsGranted fs rest (All-tail IsGranted f (fs ++ rest) all-granted)))

  part-legal : IsLegal n s1 (waiting ∷ (between ++ running ∷ []))
  part-legal = legal-rest n (state_after s opened) b1 part (rest-legal n k o s opened (b1 ++ part) run.of)

  part-makes : Makes t1 (exchanges k (waiting ∷ between) ++ exchanges k (running ∷ []))
  part-makes =
      subst (Makes t1) (exchanges-both k (waiting ∷ between) (running ∷ []))
      (makes-rest (truss_at k o opened) (exchanges k b1) (exchanges k part) both-make)

  wait-exchanges : exchanges k (waiting ∷ between) ≡ wait ∷ exchanges k between
  wait-exchanges =
      cons-exchanges k waiting between ∙ ap (λ x. cons_option x (exchanges k between)) waits

  wait-quiet : All (IsOfOther pid) (events_from s1 (waiting ∷ between))
  wait-quiet =
      quiet-after n k o pid (length t0.traced) (waiting ∷ between) t1 s1 (length rest) 1 waiting-goes
      (omega (arith, count, six))
      (omega (
        arith,
        ap (λ (ys : List Exchange). length ys) wait-exchanges,
        length-append (exchanges k between) (last ∷ []),
      ))
      (omega arith)
      (legal-front n s1 (waiting ∷ between) (running ∷ []) part-legal)
      (makes-front t1 (exchanges k (waiting ∷ between)) (exchanges k (running ∷ [])) part-makes)
      (all-front IsEntryOfBytes (waiting ∷ between) (running ∷ []) (all-rest IsEntryOfBytes b1 part rest-bytes))
      (subst (All IsGranted) (sym wait-exchanges)
      (all-front IsGranted (wait ∷ exchanges k between) (last ∷ [])
      (all-rest IsGranted fs rest (All-tail IsGranted f (fs ++ rest) all-granted))))

  part-quiet : All (IsOfOther pid) (events_from s1 (waiting ∷ (between ++ running ∷ [])))
  part-quiet =
      subst (All (IsOfOther pid)) (sym (events_from-append s1 (waiting ∷ between) (running ∷ [])))
      (All-append (IsOfOther pid) (events_from s1 (waiting ∷ between)) _ wait-quiet
      (subst (All (IsOfOther pid))
      (sym (append-nil (events_of (state_after s1 (waiting ∷ between)) running)
      ∙ own-logs k (state_after s1 (waiting ∷ between)) running last runs)) (All-nil (IsOfOther pid))))

-- ---- the law

-- a list of seven has a first one
record HasFirst (xs : List Exchange) : Type 0 where
  first : Exchange
  others : List Exchange
  is : xs ≡ first ∷ others
  six : length others ≡ 6

seven-first : (xs : List Exchange) → length xs ≡ 7 → HasFirst xs
seven-first [] seven = absurd (omega arith)
seven-first (x ∷ xs) seven = record { first = x; others = xs; is = refl; six = omega arith }

module _ (n k : ℕ) (o : Options) (pid : ℕ) (s : TracedState) (before : List Entry) (waiting : Entry)
    (between : List Entry) (running : Entry) where
  -- From the answered wait to PCRUN no event of the process is logged.
  pub opening-silent : IsReachedTrussRun n k o s (before ++ waiting ∷ (between ++ running ∷ []))
      → IsOpenedFrom k o pid before waiting between running
      → All (IsOfOther pid) (events_from (state_after s before) (waiting ∷ (between ++ running ∷ [])))
  opening-silent run w =
      let part : List Entry = waiting ∷ (between ++ running ∷ []) in
      let rest : List Exchange = w.wait ∷ (exchanges k between ++ w.run ∷ []) in
      let first =
      seven-first w.begun
      (wait-place o pid w.handle w.until w.bytes w.begun w.wait (exchanges k between ++ w.run ∷ []) w.call w.whole) in
      let e =
      entry-of k before w.earlier first.first first.others (w.is
      ∙ ap (λ (ys : List Exchange). w.earlier ++ ys) first.is) in
      let opened : List Entry = e.before ++ e.entry ∷ [] in
      let split : before ≡ opened ++ e.later =
      e.is ∙ sym (append_assoc e.before (e.entry ∷ []) e.later) in
      let all : before ++ part ≡ opened ++ (e.later ++ part) =
      ap (λ (es : List Entry). es ++ part) split ∙ append_assoc opened e.later part in
      subst (λ (u : TracedState). All (IsOfOther pid) (events_from u part))
      (sym (state_after-append s opened e.later) ∙ ap (state_after s) (sym split))
      (part-quiet n k o pid s e.before e.entry e.later waiting between running
      (subst (IsReachedTrussRun n k o s) all run) first.first first.others w.wait w.run e.own e.rest w.waits w.runs
      first.six (subst (λ (ys : List Exchange). IsWholeOpening o pid (ys ++ rest)) first.is w.whole))
