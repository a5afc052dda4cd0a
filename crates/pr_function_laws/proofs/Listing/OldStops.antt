use Rattle.std.proofs.Common.{◌≡◌, ◌≢◌, ◌<◌, ◌==◌, ◌⊎◌, ◌++◌, ℕ, true, not, Option, Some, None, List, [], ◌∷◌, length, append-nil, append_assoc, refl, sym, subst, ap, ◌∙◌, inl, inr}
use Rattle.std.proofs.lemmas.Bool.{cases_eq, eq-eqb, false≢true}
use Rattle.std.proofs.lemmas.Option.{none-some}
use Rattle.std.specs.List.{All}
use Rattle.pr_line.specs.declared.options.Options.{Options}
use Rattle.pr_model.specs.Lawful.{IsLawful}
use Rattle.pr_model.specs.Legal.{IsLegalEntry, after, state_after}
use Rattle.pr_model.specs.LwpTurns.{LwpTurn, turn_of}
use Rattle.pr_model.specs.State.{TracedProcess, TracedState, TracedSystem, live_process}
use Rattle.pr_model.specs.declared.calls.Reply.{Reply}
use Rattle.pr_model.specs.declared.events.Act.{Act}
use Rattle.pr_model.specs.declared.events.Act.TheVariants as act
use Rattle.pr_model.specs.declared.events.Actor.{Actor}
use Rattle.pr_model.specs.declared.events.Actor.TheVariants.{Controller, Lwp, Clock}
use Rattle.pr_model.specs.declared.events.Entry.{Entry}
use Rattle.pr_reached.specs.ByteHistories.{HasBytes}
use Rattle.pr_report_laws.proofs.Files.WatchHistories.{exchanges-both, no-exchanges}
use Rattle.pr_report_laws.proofs.Invariant.StandLemmas.{EachBut}
use Rattle.pr_report_laws.proofs.Watching.HistoryParts.{all-front}
use Rattle.pr_truss.specs.FunctionFeeding.{fed_functions}
use Rattle.pr_truss.specs.Replies.{answer_of}
use Rattle.pr_truss.specs.Trusses.{TrussState, first_truss, traced_at}
use Rattle.pr_truss.specs.declared.processes.Traced.{Traced}
use Rattle.pr_truss.specs.declared.stages.AfterClosing.TheVariants.{OpenNext, GoOn}
use Rattle.pr_truss.specs.declared.stages.Stage.{Stage}
use Rattle.pr_truss.specs.declared.stages.Stage.TheVariants.{Spawning, OpeningControl, Opening, Polling, ReadingStatus, ReadingText, Running, Closing, Finished}
use Rattle.pr_truss_laws.proofs.Files.HeldLemmas.{at_place}
use Rattle.pr_truss_laws.proofs.Machine.OverLemmas.{stays-over}
use Rattle.pr_truss_laws.specs.Exchanges.{Exchange, exchange_of, exchanges}
use Rattle.pr_truss_laws.specs.Stills.{IsFrozen, IsUndisturbed}
use Rattle.pr_function_laws.proofs.Stepping.BreakpointLemmas.{IsForeign, foreign-entry, own-entry}
use Rattle.pr_function_laws.proofs.Pending.FrontLemmas as fronts
use Rattle.pr_function_laws.proofs.Pending.FrontLemmas.{all-entry, calm-answer}
use Rattle.pr_function_laws.proofs.Marks.KeptPlaces.{AtStage, Kept, Position, first-kept, kept-weaker, rests, runs}
use Rattle.pr_function_laws.proofs.Listing.OldCalls.{call-counts}
use Rattle.pr_function_laws.proofs.Listing.OldCounts.{AreLeft, CountedAt, CountsSo, alone-counted-at, none_left, some_left, turn-counted-at}
use Rattle.pr_function_laws.proofs.OpenedProcesses.OpenedCalls.{lowest}
use Rattle.pr_function_laws.proofs.OpenedProcesses.OpenedLaws.{Goes, before-goes, bytes-front, elsewhere-alone, turn-later}
use Rattle.pr_function_laws.proofs.OpenedProcesses.OpenedLemmas.{control-made}
use Rattle.pr_function_laws.specs.Lifted.{HasControl}
use Rattle.pr_function_laws.specs.ListedEvents.{IsStillWhileOld}
use Rattle.pr_function_laws.specs.ReachedRuns.{IsReachedFunctionRun}
use Rattle.pr_function_laws.specs.Opened.{WasNotInterrupted, functions_at, is_opened}
use Rattle.pr_function_laws.specs.Runs.{functions_after, functions_on}

-- Wherever truss has come to, until it is interrupted, it counts just the stops that are left of each process and stood
-- there before it came; so the process stands still as long as it counts some.

-- ---- an entry of others

module _ (n k : ℕ) (t : TrussState) (s : TracedState) (lawful : IsLawful s) (at : Position) (v : Traced)
    (its : HasControl k v.pid v.control s) (h : CountsSo s at v) where
  module _ (u : TracedState) where
    left-counts : ((q : TracedProcess) → live_process u.system v.pid ≡ Some q
        → (p : TracedProcess) × ((live_process s.system v.pid ≡ Some p) × IsUndisturbed p q)) → CountsSo u at v
    left-counts alone = record {
      each = λ q later.
          let was = alone q later in alone-counted-at was.0 q was.1.1 at v (h.each was.0 was.1.0);
    }

    turned-counts : (own : ℕ) (turn : LwpTurn) → u.system ≡ turn.system → turn_of s.system v.pid own ≡ Some turn
        → (live_process s.system v.pid ≡ None → live_process u.system v.pid ≡ None) → CountsSo u at v
    turned-counts own turn same took over = record { each = λ q later. by q later (live_process s.system v.pid) refl }
      where
        by : (q : TracedProcess) → live_process u.system v.pid ≡ Some q → (x : Option TracedProcess)
            → live_process s.system v.pid ≡ x → CountedAt at v q
        by q later None none = absurd (none-some q (sym (over none) ∙ later))
        by q later (Some p) was =
            turn-counted-at s.system v.pid p own turn lawful.system was took q
            (ap (λ (x : TracedSystem). live_process x v.pid) (sym same) ∙ later) at v (h.each p was)

  foreign-counts : (actor : Actor) (it : Act) → IsLegalEntry n s (record { actor = actor; act = it })
      → IsForeign k s (record { actor = actor; act = it })
      → CountsSo (after s (record { actor = actor; act = it })) at v
  unfolding IsLegalEntry
  foreign-counts (Controller j) (act.Call c r) legal foreign =
      let e : Entry = record { actor = Controller j; act = act.Call c r } in
      left-counts (after s e)
      (elsewhere-alone n k s lawful e legal foreign v.pid v.control its t.options t (λ own same. cc))
  foreign-counts (Lwp acting own) (act.Turn turned) legal foreign =
      let turn : LwpTurn = record { system = legal.0; turned = turned } in
      let e : Entry = record { actor = Lwp acting own; act = act.Turn turned } in
      elim (cases_eq acting v.pid) [
        | inl same ↦ turned-counts (after s e) own turn (turn-later s acting own turned turn legal.1)
            (subst (λ i. turn_of s.system i own ≡ Some turn) same legal.1)
            (λ none. stays-over n s e v.pid lawful legal (control-made k v.pid v.control s lawful its) none)
        | inr differs ↦ left-counts (after s e)
            (elsewhere-alone n k s lawful e legal foreign v.pid v.control its t.options t
            (λ i same. differs (cc)))
      ]
  foreign-counts Clock (act.Tick m) legal foreign =
      let e : Entry = record { actor = Clock; act = act.Tick m } in
      left-counts (after s e)
      (elsewhere-alone n k s lawful e legal foreign v.pid v.control its t.options t (λ own same. cc))
  foreign-counts _ _ legal foreign = absurd legal

-- ---- a process that it has opened whole

-- truss runs it next, or does not
opened-place : (P : Position → Traced → Type 0) (ts : List Traced) (place : ℕ) → place < length ts → (stage : Stage)
    → is_opened stage place ≡ true → AtStage P ts stage
    → P rests (at_place ts place) ⊎ P runs (at_place ts place)
opened-place P ts place within stage opened w = by stage opened w
  where
    beside : (b : ℕ) → not (b == place) ≡ true → EachBut (P rests) ts b → P rests (at_place ts place)
    beside b other others =
        others place within (λ same. false≢true (sym (ap not (eq-eqb b place (sym same))) ∙ other))

    by : (stage : Stage) → is_opened stage place ≡ true → AtStage P ts stage
        → P rests (at_place ts place) ⊎ P runs (at_place ts place)
    by (Spawning program) is w = inl (w place within)
    by (OpeningControl pid) is w = inl (w place within)
    by (Opening b step) is w = inl (beside b is w.1.0)
    by Polling is w = inl (w place within)
    by (ReadingStatus b) is w = inl (w.1.0 place within)
    by (ReadingText b l from len) is w = inl (w.1.0 place within)
    by (Running b) is w = elim (cases_eq place b) [
      | inl same ↦ inr (subst (λ i. P runs (at_place ts i)) (sym same) w.1.1)
      | inr other ↦ inl (w.1.0 place within other)
    ]
    by (Closing b OpenNext) is w = inl (beside b is w.1.0)
    by (Closing b GoOn) is w = inl (beside b is w.1.0)
    by Finished is w = inl (w place within)
    by _ is w = absurd w

-- it stands still
left-frozen : (flags old n : ℕ) (p : TracedProcess) → old ≢ 0 → AreLeft flags old n p → IsFrozen p
left-frozen flags old n p some (none_left none) = absurd (some none)
left-frozen flags old n p some (some_left w) = let waits = w.waits in waits.frozen

-- ---- along a history

module _ (n k : ℕ) (o : Options) (s : TracedState) (h : List Entry) (run : IsReachedFunctionRun n k o s h) where
  abbrev Counted : List Entry → Type 0
  Counted front = Kept (CountsSo (state_after s front)) (functions_at k o front)

  module _ (front : List Entry) (e : Entry) (later : List Entry) (is : h ≡ front ++ e ∷ later)
      (calm : All WasNotInterrupted (exchanges k front)) (w : Counted front) where
    abbrev t : TrussState
    t = functions_at k o front

    abbrev now : TracedState
    now = state_after s front

    goes : Goes (Unit {0}) k o t now
    goes =
        before-goes n k o s h run.of front (e ∷ later) is calm (Unit {0}) (λ r. run.reached)
        (λ r. bytes-front front (e ∷ later) (subst HasBytes is run.bytes))

    legal : IsLegalEntry n now e
    legal = fronts.legal n k o s h run.of front e later is calm

    others-counted : exchange_of k e ≡ None → Kept (CountsSo (after now e)) t
    others-counted none =
        kept-weaker (CountsSo now) (CountsSo (after now e)) t
        (λ j inside at counts.
        let g = goes in
        let kept = g.kept in
        let low = lowest (Unit {0}) k t.options now t.traced t.stage kept.stage j inside in
        let holds = low.holds in
        foreign-counts n k t now g.lawful at (at_place t.traced j) holds.its counts e.actor e.act legal
        (foreign-entry n k now e legal none)) w

    own-counted : (x : Exchange) → exchange_of k e ≡ Some x → WasNotInterrupted x
        → Kept (CountsSo (after now e)) (functions_on t (Some x))
    own-counted x mine quiet =
        let g = goes in
        let it = own-entry n k now e x legal mine in
        let over : (pid : ℕ) → pid < now.system.made → live_process now.system pid ≡ None
        → live_process it.answer.state.system pid ≡ None =
        λ pid made none.
        ap (λ (u : TracedState). live_process u.system pid) it.later
        ∙ stays-over n now e pid g.lawful legal made none in
        subst (λ (u : TracedState). Kept (CountsSo u) (functions_on t (Some x))) it.later
        (subst (λ (r : Reply). Kept (CountsSo it.answer.state) (fed_functions t r)) it.replied
        (call-counts n k now g.lawful x.call it.answer it.is over t g.kept (g.reached tt) w
        (fronts.has n k o s h run.of front e later is calm)
        (fronts.makes-next n k o s h run.of front e later is calm x mine)
        (λ broken. calm-answer x quiet (ap answer_of (sym it.replied) ∙ broken))))

    entry-counted : ((x : Exchange) → exchange_of k e ≡ Some x → WasNotInterrupted x) → Counted (front ++ e ∷ [])
    entry-counted quiet =
        subst (λ (u : TracedState). Kept (CountsSo u) (functions_at k o (front ++ e ∷ [])))
        (sym (fronts.next-state n k o s h run.of front e later is calm))
        (subst (Kept (CountsSo (after now e))) (sym (fronts.pushed n k o s h run.of front e later is calm))
        (by (exchange_of k e) refl))
      where
        by : (x : Option Exchange) → exchange_of k e ≡ x → Kept (CountsSo (after now e)) (functions_on t x)
        by None none = others-counted none
        by (Some x) mine = own-counted x mine (quiet x mine)

  walk : (rest done later : List Entry) → h ≡ done ++ (rest ++ later)
      → All WasNotInterrupted (exchanges k (done ++ rest)) → Counted done → Counted (done ++ rest)
  walk [] done later is calm w = subst (λ (es : List Entry). Counted es) (sym (append-nil done)) w
  walk (e ∷ rest) done later is calm w =
      let so_far : All WasNotInterrupted (exchanges k done) =
      all-front WasNotInterrupted (exchanges k done) (exchanges k (e ∷ rest))
      (subst (All WasNotInterrupted) (exchanges-both k done (e ∷ rest)) calm) in
      let next : Counted (done ++ e ∷ []) =
      entry-counted done e (rest ++ later) is so_far w
      (λ x mine. all-entry WasNotInterrupted k done rest e x calm mine) in
      let parts : done ++ e ∷ rest ≡ (done ++ e ∷ []) ++ rest = sym (append_assoc done (e ∷ []) rest) in
      subst (λ (es : List Entry). Counted es) (sym parts)
      (walk rest (done ++ e ∷ []) later (is ∙ sym (append_assoc done (e ∷ []) (rest ++ later)))
      (subst (λ (es : List Entry). All WasNotInterrupted (exchanges k es)) parts calm) next)

  counted-at : (front later : List Entry) → h ≡ front ++ later → All WasNotInterrupted (exchanges k front)
      → Counted front
  counted-at front later is calm =
      walk front [] later is calm
      (subst (λ xs. Kept (CountsSo s) (functions_after (first_truss o) xs)) (sym (no-exchanges k))
      (first-kept (CountsSo s) o run.of.follows_none))

  pub still-while-old : (pid : ℕ) → IsStillWhileOld k o s h pid
  still-while-old pid = record {
    each = λ front later place p is calm within own opened old live.
        let w = counted-at front later is calm in
        by front place p old (ap (live_process (state_after s front).system) own ∙ live)
        (opened-place (CountsSo (state_after s front)) (functions_at k o front).traced place within
        (functions_at k o front).stage opened w.stage);
  }
    where
      by : (front : List Entry) (place : ℕ) (p : TracedProcess) → (traced_at (functions_at k o front) place).old ≢ 0
          → live_process (state_after s front).system (traced_at (functions_at k o front) place).pid ≡ Some p
          → CountsSo (state_after s front) rests (at_place (functions_at k o front).traced place)
          ⊎ CountsSo (state_after s front) runs (at_place (functions_at k o front).traced place) → IsFrozen p
      by front place p old live (inl w) = left-frozen _ _ _ p old (w.each p live)
      by front place p old live (inr w) = left-frozen _ _ _ p old (w.each p live)

pub ruleset old_stops = (still-while-old)
