use Rattle.std.proofs.Common.{◌≡◌, ◌<◌, ◌==◌, ◌++◌, ℕ, Bool, true, false, not, Option, Some, None, List, [], ◌∷◌, length, append-nil, append_assoc, refl, sym, subst, ap, ◌∙◌}
use Rattle.std.proofs.lemmas.Bool.{eqb-true, false≢true}
use Rattle.std.proofs.lemmas.Option.{none-some}
use Rattle.std.specs.List.{All}
use Rattle.pr_line.specs.declared.options.Options.{Options}
use Rattle.pr_model.specs.Legal.{IsLegalEntry, state_after}
use Rattle.pr_model.specs.State.{TracedProcess, TracedState, live_process}
use Rattle.pr_model.specs.declared.events.Entry.{Entry}
use Rattle.pr_reached.specs.ByteHistories.{HasBytes}
use Rattle.pr_report_laws.proofs.Files.WatchHistories.{exchanges-both, no-exchanges}
use Rattle.pr_report_laws.proofs.Watching.HistoryParts.{all-front}
use Rattle.pr_truss.specs.Asides.{marks_at}
use Rattle.pr_truss.specs.FunctionFeeding.{fed_functions}
use Rattle.pr_truss.specs.Replies.{answer_of}
use Rattle.pr_truss.specs.Trusses.{TrussState, first_truss, traced_at}
use Rattle.pr_truss.specs.declared.stages.AfterClosing.TheVariants.{OpenNext, GoOn, RunParent}
use Rattle.pr_truss.specs.declared.stages.Stage.{Stage}
use Rattle.pr_truss.specs.declared.stages.Stage.TheVariants.{Opening, Closing}
use Rattle.pr_truss_laws.proofs.Machine.OverLemmas.{stays-over}
use Rattle.pr_truss_laws.specs.Exchanges.{Exchange, exchange_of, exchanges}
use Rattle.pr_function_laws.proofs.Stepping.BreakpointLemmas.{own-entry}
use Rattle.pr_function_laws.proofs.Pending.FrontLemmas as fronts
use Rattle.pr_function_laws.proofs.Pending.FrontLemmas.{all-entry, calm-answer}
use Rattle.pr_function_laws.proofs.Pending.KnownLaws.{known-at}
use Rattle.pr_function_laws.proofs.OpenedProcesses.OpenedCalls.{IsSo, lowest}
use Rattle.pr_function_laws.proofs.OpenedProcesses.OpenedLaws.{Goes, before-goes, bytes-front}
use Rattle.pr_function_laws.proofs.OpenedProcesses.OpenedLemmas.{control-made}
use Rattle.pr_function_laws.proofs.OrdinaryTruss.OrdinaryEntries.{front-run}
use Rattle.pr_function_laws.specs.ReachedRuns.{IsReachedFunctionRun}
use Rattle.pr_function_laws.specs.Opened.{IsFunctionRun, WasNotInterrupted, functions_at, is_opened}
use Rattle.pr_function_laws.specs.Runs.{functions_after, functions_on}
use Rattle.pr_function_hides.proofs.Closing.ClosingCourse.{no_leaves, no_opens}
use Rattle.pr_function_hides.proofs.Replies.ClosingStages.{stage-stays}
use Rattle.pr_function_hides.proofs.Replies.ClosingWalk.{ClosesSo, StageSo, fed-closes, first-closes}
use Rattle.pr_function_hides.proofs.Copying.CopyEnds.{aside-within, gone-there, stage-within}
use Rattle.pr_function_hides.proofs.Files.GoneTold.{called-within}
use Rattle.pr_function_hides.proofs.StepsUnderWay.OpeningMarks.{opening-unstepped, refused-unstepped}
use Rattle.pr_function_hides.proofs.Replies.OwnFiles.{IsBeside, IsWithin}

-- Until truss is interrupted no step is under way in a process that lives and that it opens or closes: it closes one
-- whose opening was refused, in which it has begun none, or one that has ended.

-- ---- along a history

module _ (n k : ℕ) (o : Options) (s : TracedState) (h : List Entry) (run : IsReachedFunctionRun n k o s h) where
  abbrev T : List Entry → TrussState
  T front = functions_at k o front

  abbrev S : List Entry → TracedState
  S front = state_after s front

  abbrev Over : List Entry → ℕ → Type 0
  Over front pid = live_process (state_after s front).system pid ≡ None

  -- what is so after some entries
  abbrev Closes : List Entry → Type 0
  Closes front = ClosesSo (Over front) no_opens no_leaves (functions_at k o front)

  module _ (front : List Entry) (e : Entry) (later : List Entry) (is : h ≡ front ++ e ∷ later)
      (calm : All WasNotInterrupted (exchanges k front)) (was : Closes front) where
    abbrev t : TrussState
    t = T front

    abbrev next : List Entry
    next = front ++ e ∷ []

    goes : Goes (Unit {0}) k o t (S front)
    goes =
        before-goes n k o s h run.of front (e ∷ later) is calm (Unit {0}) (λ r. run.reached)
        (λ r. bytes-front front (e ∷ later) (subst HasBytes is run.bytes))

    legal : IsLegalEntry n (S front) e
    legal = fronts.legal n k o s h run.of front e later is calm

    within-stage : IsWithin (length t.traced) t.stage
    within-stage =
        let g = goes in
        let w = g.kept in stage-within (IsSo (Unit {0}) k t.options (S front)) t.traced t.stage w.stage

    within-aside : IsBeside (length t.traced) t.aside
    within-aside =
        let g = goes in
        let w = g.kept in aside-within (IsSo (Unit {0}) k t.options (S front)) t.traced t.aside w.beside

    stays : (q : ℕ) → q < length t.traced → Over front (traced_at t q).pid → Over next (traced_at t q).pid
    stays q within over =
        let g = goes in
        let w = g.kept in
        let low = lowest (Unit {0}) k t.options (S front) t.traced t.stage w.stage q within in
        let holds = low.holds in
        ap (λ (u : TracedState). live_process u.system (traced_at t q).pid)
        (fronts.next-state n k o s h run.of front e later is calm)
        ∙ stays-over n (S front) e (traced_at t q).pid g.lawful legal
        (control-made k (traced_at t q).pid (traced_at t q).control (S front) g.lawful holds.its) over

    stage-later : StageSo (Over next) no_opens no_leaves t t.stage
    stage-later =
        stage-stays (Over front) (Over next) no_opens no_opens no_leaves no_leaves t stays t.stage within-stage
        (λ q step w at it. tt) (λ q w at it. tt) was.stage

    own-closes : (x : Exchange) → exchange_of k e ≡ Some x → WasNotInterrupted x
        → ClosesSo (Over next) no_opens no_leaves (fed_functions t x.reply)
    own-closes x own quiet =
        let g = goes in
        let w = g.kept in
        let has = fronts.has n k o s h run.of front e later is calm in
        let it = own-entry n k (S front) e x legal own in
        fed-closes (Over next) no_opens no_leaves (λ step pid it. tt) t x.reply w.off w.follow within-stage within-aside
        (calm-answer x quiet) was.looks
        (record {
          stays = λ why. stage-later;
          closes = λ q following v at left. subst (StageSo (Over next) no_opens no_leaves t) at stage-later;
          gone = λ q here told.
              stays q (called-within t within-stage within-aside q here)
              (gone-there n k o t (S front) goes (known-at n k o s h run.of front (e ∷ later) is calm) x.call it.answer
              it.is (ap answer_of it.replied ∙ told) has
              (fronts.makes-next n k o s h run.of front e later is calm x own) q here);
          begins = λ pid at idle accepted. tt;
          steps = λ q step following at idle accepted after. tt;
        }) has

    entry-closes : ((x : Exchange) → exchange_of k e ≡ Some x → WasNotInterrupted x) → Closes next
    entry-closes quiet =
        subst (ClosesSo (Over next) no_opens no_leaves) (sym (fronts.pushed n k o s h run.of front e later is calm))
        (by (exchange_of k e) refl)
      where
        by : (x : Option Exchange) → exchange_of k e ≡ x → ClosesSo (Over next) no_opens no_leaves (functions_on t x)
        by None none = record { stage = stage-later; looks = was.looks }
        by (Some x) own = own-closes x own (quiet x own)

  walk : (rest done later : List Entry) → h ≡ done ++ (rest ++ later)
      → All WasNotInterrupted (exchanges k (done ++ rest)) → Closes done → Closes (done ++ rest)
  walk [] done later is calm w = subst Closes (sym (append-nil done)) w
  walk (e ∷ rest) done later is calm w =
      let so_far : All WasNotInterrupted (exchanges k done) =
      all-front WasNotInterrupted (exchanges k done) (exchanges k (e ∷ rest))
      (subst (All WasNotInterrupted) (exchanges-both k done (e ∷ rest)) calm) in
      let next_closes : Closes (done ++ e ∷ []) =
      entry-closes done e (rest ++ later) is so_far w
      (λ x mine. all-entry WasNotInterrupted k done rest e x calm mine) in
      let parts : done ++ e ∷ rest ≡ (done ++ e ∷ []) ++ rest = sym (append_assoc done (e ∷ []) rest) in
      subst Closes (sym parts)
      (walk rest (done ++ e ∷ []) later (is ∙ sym (append_assoc done (e ∷ []) (rest ++ later)))
      (subst (λ (es : List Entry). All WasNotInterrupted (exchanges k es)) parts calm) next_closes)

  at-first : Closes []
  at-first =
      subst (λ xs. ClosesSo (Over []) no_opens no_leaves (functions_after (first_truss o) xs)) (sym (no-exchanges k))
      (first-closes (Over []) no_opens no_leaves o)

  module _ (front later : List Entry) (is : h ≡ front ++ later) (calm : All WasNotInterrupted (exchanges k front))
      (place : ℕ) where
    closes-at : Closes front
    closes-at = walk front [] later is calm at-first

    run-front : IsFunctionRun n k o s front
    run-front = front-run n k o s front later (subst (IsFunctionRun n k o s) is run.of)

    unnot : (b : Bool) → not b ≡ false → b ≡ true
    unnot true is_off = refl
    unnot false is_off = sym is_off

    pub closed-unstepped : (p : TracedProcess) → place < length (T front).traced
        → live_process (S front).system (traced_at (T front) place).pid ≡ Some p
        → is_opened (T front).stage place ≡ false → (marks_at (T front) place).stepped ≡ None
    closed-unstepped p within live shut = by (T front).stage refl shut
      where
        over-not : (b : ℕ) → (T front).stage ≡ Closing b GoOn → (b == place) ≡ true → ⊥
        over-not b at here =
            let so = closes-at in
            let over : Over front (traced_at (T front) b).pid =
            subst (StageSo (Over front) no_opens no_leaves (T front)) at so.stage in
            none-some p
            (sym over
            ∙ ap (λ i. live_process (S front).system (traced_at (T front) i).pid) (eqb-true b place here) ∙ live)

        stage-there : IsWithin (length (T front).traced) (T front).stage
        stage-there =
            let g =
            before-goes n k o s h run.of front later is calm (Unit {0}) (λ r. run.reached)
            (λ r. bytes-front front later (subst HasBytes is run.bytes)) in
            let w = g.kept in
            stage-within (IsSo (Unit {0}) k (T front).options (S front)) (T front).traced (T front).stage w.stage

        by : (stage : Stage) → (T front).stage ≡ stage → is_opened stage place ≡ false
            → (marks_at (T front) place).stepped ≡ None
        by (Opening b step) at closed =
            opening-unstepped n k o s front run-front calm front [] (sym (append-nil front)) b step at place within
        by (Closing b OpenNext) at closed =
            refused-unstepped n k o s front run-front calm front [] (sym (append-nil front)) b at place within
        by (Closing b GoOn) at closed = absurd (over-not b at (unnot (b == place) closed))
        by (Closing b (RunParent parent)) at closed =
            absurd (subst (IsWithin (length (T front).traced)) at stage-there)
        by _ at closed = absurd (false≢true (sym closed))
