use Rattle.std.proofs.Common.{◌≡◌, ◌≢◌, ◌<◌, ◌++◌, ℕ, true, length, cond, is_some, Option, Some, None, List, [], ◌∷◌, position, append-nil, append_assoc, refl, sym, subst, ap, ◌∙◌, inl, inr}
use Rattle.std.proofs.lemmas.Bool.{cases_eq}
use Rattle.std.proofs.lemmas.List.Elements.{All-cons, All-head, All-tail, All-weaker}
use Rattle.std.proofs.lemmas.Option.{none-some, same_Some}
use Rattle.std.specs.List.{All, cons_option}
use Rattle.pr_line.specs.declared.options.Options.{Options}
use Rattle.pr_model.specs.Legal.{state_after}
use Rattle.pr_model.specs.Replies.{handle_in}
use Rattle.pr_model.specs.State.{TracedState, live_process}
use Rattle.pr_model.specs.declared.calls.Call.{Call}
use Rattle.pr_model.specs.declared.calls.Reply.{Reply}
use Rattle.pr_model.specs.declared.events.Entry.{Entry}
use Rattle.pr_num.proofs.TableLemmas.{position-within}
use Rattle.pr_report_laws.proofs.Files.WatchHistories.{cons-exchanges, exchanges-both}
use Rattle.pr_report_laws.proofs.Invariant.StandLemmas.{Each, EachBut}
use Rattle.pr_report_laws.proofs.Invariant.OpeningRuns.{granted-accepted}
use Rattle.pr_report_laws.proofs.Memory.WatchMemory.{accepted-granted}
use Rattle.pr_report_laws.proofs.Watching.ExchangeEntries.{HasEntryOf, entry-of}
use Rattle.pr_report_laws.proofs.Watching.HistoryParts.{all-front, all-rest}
use Rattle.pr_truss.specs.FunctionCalls.{call_beside, function_call_of, next_function_call_of, patch_call}
use Rattle.pr_truss.specs.FunctionFeeding.{fed_functions}
use Rattle.pr_truss.specs.Marks.{first_function, has_functions}
use Rattle.pr_truss.specs.NextCalls.{call_of, open_control, opening_call, read_record}
use Rattle.pr_truss.specs.Openings.{learnt}
use Rattle.pr_truss.specs.Processes.{newly_traced, without_last}
use Rattle.pr_truss.specs.Replies.{answer_of}
use Rattle.pr_truss.specs.Stops.{has_control}
use Rattle.pr_truss.specs.Trusses.{TrussState, traced_at}
use Rattle.pr_truss.specs.declared.asides.Aside.{Aside}
use Rattle.pr_truss.specs.declared.asides.Aside.TheVariants.{Nothing, Patching, Planting, Reading}
use Rattle.pr_truss.specs.declared.processes.Traced.{Traced}
use Rattle.pr_truss.specs.declared.replies.Answer.TheVariants.{Accepted, Interrupted}
use Rattle.pr_truss.specs.declared.stages.AfterClosing.TheVariants.{GoOn, OpenNext}
use Rattle.pr_truss.specs.declared.stages.OpeningStep.{OpeningStep}
use Rattle.pr_truss.specs.declared.stages.OpeningStep.TheVariants as opening
use Rattle.pr_truss.specs.declared.stages.Stage.{Stage}
use Rattle.pr_truss.specs.declared.stages.Stage.TheVariants.{Closing, Finished, Opening, OpeningControl, Polling, ReadingStatus, ReadingText, Running, Spawning}
use Rattle.pr_truss_laws.proofs.Files.HeldLemmas.{at_place}
use Rattle.pr_truss_laws.proofs.Machine.OverLemmas.{stays-over}
use Rattle.pr_truss_laws.proofs.Replies.ReplySteps.{lost-same}
use Rattle.pr_truss_laws.specs.Exchanges.{Exchange, IsGranted, exchange_of, exchanges}
use Rattle.pr_function_laws.proofs.Marks.KeptLemmas.{fed-kept}
use Rattle.pr_function_laws.proofs.Marks.KeptPlaces.{AfterBeside, AfterStage, AtAside, AtStage, IsLasting, Kept, LeftHas, Position, kept-weaker}
use Rattle.pr_function_laws.proofs.NextCalls.PatchCalls.{next-beside, next-staged}
use Rattle.pr_function_laws.proofs.OpenedProcesses.OpenedCalls.{IsSo, control-fresh}
use Rattle.pr_function_laws.proofs.OpenedProcesses.OpenedLaws.{Goes}
use Rattle.pr_function_laws.proofs.Pending.FrontLemmas as fronts
use Rattle.pr_function_laws.proofs.Pending.FrontLemmas.{calm-answer}
use Rattle.pr_function_laws.proofs.Stepping.BreakpointLemmas.{own-entry}
use Rattle.pr_function_laws.specs.FunctionTurns.{is_process}
use Rattle.pr_function_laws.specs.Opened.{IsFunctionRun, WasNotInterrupted, functions_at}
use Rattle.pr_function_laws.specs.Runs.{functions_on}
use Rattle.pr_function_laws.specs.PlantedByCalls.{IsSinceOpened, OpensNot}
use Rattle.pr_function_hides.proofs.Replies.PlantedReplies.{learnt-pid}
use Rattle.pr_function_hides.proofs.LiftedSteps.SinceOpened.{HasItsControls, at-place-of}

-- The control file that truss has of a process is the one that the last open of it gave, until truss is interrupted.

-- ---- one file less, and one more

less-control : (t u : Traced) → without_last t ≡ Some u → u.control ≡ t.control
unfolding without_last
less-control t u is = by t.memory t.lstatus t.status is
  where
    by : (memory lstatus status : Option ℕ)
        → cond (is_some memory) (Some (record t { memory = None }))
        (cond (is_some lstatus) (Some (record t { lstatus = None }))
        (cond (is_some status) (Some (record t { status = None })) None)) ≡ Some u → u.control ≡ t.control
    by (Some m) lstatus status found = ap (λ (x : Traced). x.control) (sym (same_Some _ u found))
    by None (Some l) status found = ap (λ (x : Traced). x.control) (sym (same_Some _ u found))
    by None None (Some f) found = ap (λ (x : Traced). x.control) (sym (same_Some _ u found))
    by None None None found = absurd (none-some u found)

learnt-control : (t : Traced) (r : Reply) (step : OpeningStep) → (learnt t r step).control ≡ t.control
unfolding learnt
learnt-control t r opening.OpenStatus = refl
learnt-control t r _ = refl

open-same : (a b : ℕ) → open_control a ≡ open_control b → a ≡ b
open-same a b is = cc

module _ (pid c : ℕ) where
  abbrev HasIt : Traced → Type 0
  HasIt u = u.pid ≡ pid → u.control ≡ c

  abbrev Has : Position → Traced → Type 0
  Has at u = HasIt u

  has-lasting : IsLasting Has
  has-lasting = record {
    may_close = λ at u w. w;
    reads = λ u w its. w;
    may_run = λ u w seen. w;
    counts = λ u w seen some. w;
    sees = λ u m w. w;
    meets = λ u m w new. w;
    plants = λ at u set w. w;
    loosens = λ u m w. w;
  }

  module _ (t : TrussState) (r : Reply) (calm : answer_of r ≢ Interrupted) (kept : Kept Has t)
      (fresh : (i : ℕ) → t.stage ≡ OpeningControl i → t.aside ≡ Nothing → answer_of r ≡ Accepted
      → (i ≡ pid → handle_in r ≡ c) × Each (λ (u : Traced). u.pid ≢ i) t.traced) where
    left : (v : Option Traced) (u : Traced) → without_last u ≡ v → HasIt u → LeftHas Has v u.pid
    left None u is w = tt
    left (Some v) u is w =
        let same = lost-same u v is in
        ((λ its. less-control u v is ∙ w (sym same.pid ∙ its)), same.pid)

    stage-after : t.aside ≡ Nothing → (stage : Stage) → t.stage ≡ stage → AtStage Has t.traced stage
        → AfterStage Has t r stage
    unfolding newly_traced
    stage-after idle (Spawning program) is w = w
    stage-after idle (OpeningControl i) is w = (w, λ accepted. fresh i is idle accepted)
    stage-after idle (Opening q step) is w = (
      w.0,
      (
        w.1.0,
        (
          w.1.1,
          λ accepted its.
              learnt-control (at_place t.traced q) r step
              ∙ w.1.1 (sym (learnt-pid (at_place t.traced q) r step) ∙ its),
        ),
      ),
    )
    stage-after idle Polling is w =
        (w, λ accepted handle q ready place. w q (position-within (has_control handle) t.traced q place))
    stage-after idle (ReadingStatus q) is w = w
    stage-after idle (ReadingText q l from len) is w = w
    stage-after idle (Running q) is w = (w.0, (w.1.0, (w.1.1, λ lives. w.1.1)))
    stage-after idle (Closing q OpenNext) is w =
        (w.0, (w.1.0, left (without_last (at_place t.traced q)) (at_place t.traced q) refl w.1.1))
    stage-after idle (Closing q GoOn) is w =
        (w.0, (w.1.0, left (without_last (at_place t.traced q)) (at_place t.traced q) refl w.1.1))
    stage-after idle Finished is w = w
    stage-after idle _ is w = absurd w

    aside-after : (aside : Aside) → t.aside ≡ aside → AtStage Has t.traced t.stage → AtAside Has t.traced aside
        → AfterBeside Has t r aside
    aside-after Nothing is w beside = stage-after is t.stage refl w
    aside-after (Reading q function) is w beside = (w, beside)
    aside-after (Planting q function) is w beside = (w, beside)
    aside-after (Patching q plants lifts clear) is w beside = (w, beside)
    aside-after _ is w beside = absurd beside

    has-fed : has_functions t.options ≡ true → Kept Has (fed_functions t r)
    has-fed has =
        fed-kept Has has-lasting t r kept.follow kept.off kept.apart calm has
        (aside-after t.aside refl kept.stage kept.beside)

  -- where this exchange opens the control file it gives the handle
  record GivesIt (x : Exchange) : Type 0 where
    gives : x.call ≡ open_control pid → IsGranted x → handle_in x.reply ≡ c

  -- ---- along a history

  module _ (n k : ℕ) (o : Options) (s : TracedState) (h : List Entry) (run : IsFunctionRun n k o s h) where
    abbrev T : List Entry → TrussState
    T es = functions_at k o es

    module _ (f : List Entry) (e : Entry) (later : List Entry) (is : h ≡ f ++ e ∷ later)
        (calm : All WasNotInterrupted (exchanges k f)) (x : Exchange) (own : exchange_of k e ≡ Some x)
        (quiet : WasNotInterrupted x) where
      abbrev t : TrussState
      t = functions_at k o f

      opens-it : t.aside ≡ Nothing → (i : ℕ) → t.stage ≡ OpeningControl i → x.call ≡ open_control i
      unfolding function_call_of call_of
      opens-it idle i at =
          sym (same_Some _ _
          (sym (next-staged t.options (fronts.has n k o s h run f e later is calm) t (OpeningControl i) refl idle at)
          ∙ fronts.makes-next n k o s h run f e later is calm x own))

      -- a process that it opens it does not trace yet
      new-one : (i : ℕ) → t.stage ≡ OpeningControl i → t.aside ≡ Nothing → answer_of x.reply ≡ Accepted
          → Each (λ (u : Traced). u.pid ≢ i) t.traced
      new-one i at idle accepted =
          let g : Goes ⊥ k o t (state_after s f) = fronts.here n k o s h run f e later is calm in
          let legal = fronts.legal n k o s h run f e later is calm in
          let it = own-entry n k (state_after s f) e x legal own in
          control-fresh ⊥ n k (state_after s f) g.lawful x.call it.answer it.is
          (λ number made none.
          ap (λ (u : TracedState). live_process u.system number) it.later
          ∙ stays-over n (state_after s f) e number g.lawful legal made none)
          t g.kept (λ none. absurd none) i at idle (fronts.has n k o s h run f e later is calm)
          (fronts.makes-next n k o s h run f e later is calm x own) (ap answer_of it.replied ∙ accepted)

      own-has : GivesIt x → Kept Has t → Kept Has (fed_functions t x.reply)
      own-has gives kept =
          has-fed t x.reply (calm-answer x quiet) kept
          (λ i at idle accepted. (
            (λ same.
                gives.gives (opens-it idle i at ∙ ap open_control same) (accepted-granted x accepted)),
            new-one i at idle accepted,
          ))
          (fronts.has n k o s h run f e later is calm)

    entry-has : (f : List Entry) (e : Entry) (later : List Entry) → h ≡ f ++ e ∷ later
        → All WasNotInterrupted (exchanges k f) → All WasNotInterrupted (exchanges k (e ∷ []))
        → All GivesIt (exchanges k (e ∷ [])) → Kept Has (T f) → Kept Has (T (f ++ e ∷ []))
    entry-has f e later is calm quiet gives kept =
        subst (Kept Has) (sym (fronts.pushed n k o s h run f e later is calm)) (by (exchange_of k e) refl)
      where
        here : (P : Exchange → Type 0) → All P (exchanges k (e ∷ [])) → (x : Exchange) → exchange_of k e ≡ Some x → P x
        here P every x own =
            All-head P x (exchanges k [])
            (subst (λ y. All P (cons_option y (exchanges k []))) own (subst (All P) (cons-exchanges k e []) every))

        by : (x : Option Exchange) → exchange_of k e ≡ x → Kept Has (functions_on (T f) x)
        by None own = kept
        by (Some x) own =
            own-has f e later is calm x own (here WasNotInterrupted quiet x own) (here GivesIt gives x own) kept

    walk : (mid f later : List Entry) → h ≡ f ++ (mid ++ later) → All WasNotInterrupted (exchanges k f)
        → All WasNotInterrupted (exchanges k mid) → All GivesIt (exchanges k mid) → Kept Has (T f)
        → Kept Has (T (f ++ mid))
    walk [] f later is calm quiet gives kept = subst (λ es. Kept Has (T es)) (sym (append-nil f)) kept
    walk (e ∷ mid) f later is calm quiet gives kept =
        subst (λ es. Kept Has (T es)) (append_assoc f (e ∷ []) mid)
        (walk mid (f ++ e ∷ []) later (is ∙ sym (append_assoc f (e ∷ []) (mid ++ later)))
        (subst (All WasNotInterrupted) (sym (exchanges-both k f (e ∷ [])))
        (both WasNotInterrupted (exchanges k f) (exchanges k (e ∷ [])) calm
        (all-front WasNotInterrupted (exchanges k (e ∷ [])) (exchanges k mid) (parts WasNotInterrupted quiet))))
        (all-rest WasNotInterrupted (exchanges k (e ∷ [])) (exchanges k mid) (parts WasNotInterrupted quiet))
        (all-rest GivesIt (exchanges k (e ∷ [])) (exchanges k mid) (parts GivesIt gives))
        (entry-has f e (mid ++ later) is calm
        (all-front WasNotInterrupted (exchanges k (e ∷ [])) (exchanges k mid) (parts WasNotInterrupted quiet))
        (all-front GivesIt (exchanges k (e ∷ [])) (exchanges k mid) (parts GivesIt gives)) kept))
      where
        parts : (P : Exchange → Type 0) → All P (exchanges k (e ∷ mid))
            → All P (exchanges k (e ∷ []) ++ exchanges k mid)
        parts P every = subst (All P) (exchanges-both k (e ∷ []) mid) every

        both : (P : Exchange → Type 0) (xs ys : List Exchange) → All P xs → All P ys → All P (xs ++ ys)
        both P [] ys one two = two
        both P (x ∷ xs) ys one two =
            All-cons P x (xs ++ ys) (All-head P x xs one) (both P xs ys (All-tail P x xs one) two)

-- ---- the open

-- it opens the control file of this process next
record OpensNow (t : TrussState) (pid : ℕ) : Type 0 where
  stage : t.stage ≡ OpeningControl pid
  idle : t.aside ≡ Nothing

module _ (Reached : Type 0) (k : ℕ) (t : TrussState) (s : TracedState) (pid : ℕ)
    (has : has_functions t.options ≡ true) (next : next_function_call_of t ≡ Some (open_control pid)) where
  never : {A : Type 0} (d : Call) → Some d ≡ Some (open_control pid) → d ≢ open_control pid → A
  never d is other = absurd (other (same_Some d (open_control pid) is))

  opening-not : {A : Type 0} (q : ℕ) (step : OpeningStep)
      → function_call_of t (Opening q step) ≡ Some (open_control pid) → A
  unfolding function_call_of call_of opening_call
  opening-not q opening.OpenStatus is = never _ is (λ same. cc)
  opening-not q opening.OpenLstatus is = never _ is (λ same. cc)
  opening-not q opening.OpenMemory is = never _ is (λ same. cc)
  opening-not q _ is = never _ is (λ same. cc)

  stage-opens : t.aside ≡ Nothing → (stage : Stage) → t.stage ≡ stage
      → AtStage (IsSo Reached k t.options s) t.traced stage → function_call_of t stage ≡ Some (open_control pid)
      → OpensNow t pid
  unfolding function_call_of call_of
  stage-opens idle (OpeningControl i) at w is = record {
    stage = at ∙ ap (λ j. OpeningControl j) (open-same i pid (same_Some (open_control i) (open_control pid) is));
    idle = idle;
  }
  stage-opens idle (Opening q step) at w is = opening-not q step is
  stage-opens idle (Spawning program) at w is = never _ is (λ same. cc)
  stage-opens idle Polling at w is = never _ is (λ same. cc)
  stage-opens idle (ReadingStatus q) at w is = reads-not (traced_at t q).status is
    where
      reads-not : (o : Option ℕ) → Some (read_record o) ≡ Some (open_control pid) → OpensNow t pid
      reads-not None same = never _ same (λ (both : read_record None ≡ open_control pid). cc)
      reads-not (Some m) same = never _ same (λ (both : read_record (Some m) ≡ open_control pid). cc)
  stage-opens idle (ReadingText q l from len) at w is = never _ is (λ same. cc)
  stage-opens idle (Running q) at w is = never _ is (λ same. cc)
  stage-opens idle (Closing q OpenNext) at w is = never _ is (λ same. cc)
  stage-opens idle (Closing q GoOn) at w is = never _ is (λ same. cc)
  stage-opens idle Finished at w is = absurd (none-some (open_control pid) is)
  stage-opens idle _ at w is = absurd w

  patch-not : {A : Type 0} (opts : Options) (control : ℕ) (plant lift : Option ℕ)
      → Some (patch_call opts control plant lift) ≡ Some (open_control pid) → A
  patch-not opts control (Some i) lift is = never _ is (λ same. cc)
  patch-not opts control None (Some i) is = never _ is (λ same. cc)
  patch-not opts control None None is = never _ is (λ same. cc)

  opens-stage : Kept (IsSo Reached k t.options s) t → OpensNow t pid
  unfolding call_beside
  opens-stage kept = by t.aside refl kept.beside (sym (next-beside t.options has t refl) ∙ next)
    where
      by : (aside : Aside) → t.aside ≡ aside → AtAside (IsSo Reached k t.options s) t.traced aside
          → call_beside t t.stage t.aside ≡ Some (open_control pid) → OpensNow t pid
      by Nothing idle w is = stage-opens idle t.stage refl kept.stage (sym (ap (call_beside t t.stage) idle) ∙ is)
      by (Reading q function) at w is = never _ (sym (ap (call_beside t t.stage) at) ∙ is) (λ same. cc)
      by (Planting q function) at w is = never _ (sym (ap (call_beside t t.stage) at) ∙ is) (λ same. cc)
      by (Patching q plants lifts clear) at w is =
          patch-not t.options (traced_at t q).control (first_function plants) (first_function lifts)
          (sym (ap (call_beside t t.stage) at) ∙ is)
      by _ at w is = absurd w

-- ---- the control file

has-of : (pid c : ℕ) (ts : List Traced) (stage : Stage) → AtStage (λ at u. u.pid ≡ pid → u.control ≡ c) ts stage
    → (place : ℕ) → place < length ts → (at_place ts place).pid ≡ pid → (at_place ts place).control ≡ c
has-of pid c ts stage w place within its = by stage w
  where
    either : (q : ℕ) → EachBut (λ (u : Traced). u.pid ≡ pid → u.control ≡ c) ts q
        → ((at_place ts q).pid ≡ pid → (at_place ts q).control ≡ c) → (at_place ts place).control ≡ c
    either q others here = elim (cases_eq place q) [
      | inl same ↦
          subst (λ i. (at_place ts i).control ≡ c) (sym same) (here (subst (λ i. (at_place ts i).pid ≡ pid) same its))
      | inr other ↦ others place within other its
    ]

    by : (stage : Stage) → AtStage (λ at u. u.pid ≡ pid → u.control ≡ c) ts stage → (at_place ts place).control ≡ c
    by (Spawning program) w = w place within its
    by (OpeningControl i) w = w place within its
    by (Opening q step) w = either q w.1.0 w.1.1
    by Polling w = w place within its
    by (ReadingStatus q) w = w.1.0 place within its
    by (ReadingText q l from len) w = w.1.0 place within its
    by (Running q) w = either q w.1.0 w.1.1
    by (Closing q OpenNext) w = either q w.1.0 w.1.1
    by (Closing q GoOn) w = either q w.1.0 w.1.1
    by Finished w = w place within its
    by _ w = absurd w

module _ (n k : ℕ) (o : Options) (s : TracedState) (h : List Entry) (run : IsFunctionRun n k o s h)
    (front later : List Entry) (pid place control : ℕ) (xs : List Exchange) (is : h ≡ front ++ later)
    (calm : All WasNotInterrupted (exchanges k front))
    (at : position (is_process pid) (functions_at k o front).traced ≡ Some place)
    (w : IsSinceOpened k pid front control xs) where
  entry : HasEntryOf k front w.earlier w.first w.since
  entry =
      entry-of k front w.earlier w.first w.since
      (w.is ∙ ap (λ (ys : List Exchange). w.earlier ++ ys) w.begins)

  abbrev f0 : List Entry
  f0 = let y = entry in y.before

  abbrev e0 : Entry
  e0 = let y = entry in y.entry

  abbrev mid : List Entry
  mid = let y = entry in y.later

  front-is : front ≡ f0 ++ e0 ∷ mid
  front-is = let y = entry in y.is

  whole : h ≡ f0 ++ e0 ∷ (mid ++ later)
  whole = is ∙ ap (λ es. es ++ later) front-is ∙ append_assoc f0 (e0 ∷ mid) later

  parts : exchanges k front ≡ exchanges k f0 ++ exchanges k (e0 ∷ mid)
  parts = ap (exchanges k) front-is ∙ exchanges-both k f0 (e0 ∷ mid)

  calm0 : All WasNotInterrupted (exchanges k f0)
  calm0 =
      all-front WasNotInterrupted (exchanges k f0) (exchanges k (e0 ∷ mid)) (subst (All WasNotInterrupted) parts calm)

  calm1 : All WasNotInterrupted (exchanges k (e0 ∷ mid))
  calm1 =
      all-rest WasNotInterrupted (exchanges k f0) (exchanges k (e0 ∷ mid)) (subst (All WasNotInterrupted) parts calm)

  since-is : exchanges k (e0 ∷ mid) ≡ w.first ∷ w.since
  since-is =
      let y = entry in
      cons-exchanges k e0 mid ∙ ap (λ x. cons_option x (exchanges k mid)) y.own
      ∙ ap (λ (ys : List Exchange). w.first ∷ ys) y.rest

  abbrev t0 : TrussState
  t0 = functions_at k o f0

  goes : Goes ⊥ k o t0 (state_after s f0)
  goes = fronts.here n k o s h run f0 e0 (mid ++ later) whole calm0

  own : exchange_of k e0 ≡ Some w.first
  own = let y = entry in y.own

  opens-now : OpensNow t0 pid
  opens-now =
      let g = goes in
      let kept = g.kept in
      opens-stage ⊥ k t0 (state_after s f0) pid (fronts.has n k o s h run f0 e0 (mid ++ later) whole calm0)
      (fronts.makes-next n k o s h run f0 e0 (mid ++ later) whole calm0 w.first own
      ∙ ap (λ (d : Call). Some d) w.opens) kept

  -- before the open it does not trace the process
  none-yet : (q : ℕ) → q < length t0.traced → (traced_at t0 q).pid ≢ pid
  none-yet =
      let y = opens-now in
      new-one pid control n k o s h run f0 e0 (mid ++ later) whole calm0 w.first own
      (All-head WasNotInterrupted w.first w.since (subst (All WasNotInterrupted) since-is calm1)) pid y.stage y.idle
      (let g = w.granted in granted-accepted (let y = w.first in y.reply) g.not_refused)

  gives-all : All (GivesIt pid control) (exchanges k (e0 ∷ mid))
  gives-all =
      subst (All (GivesIt pid control)) (sym since-is)
      (All-cons (GivesIt pid control) w.first w.since (record { gives = λ opens granted. sym w.handle })
      (All-weaker (OpensNot pid) (GivesIt pid control)
      (λ y none. record { gives = λ opens granted. absurd (none.opens_not opens granted) }) w.since w.last))

  kept-first : Kept (Has pid control) t0
  kept-first =
      let g = goes in
      kept-weaker (IsSo ⊥ k t0.options (state_after s f0)) (Has pid control) t0
      (λ j inside at_it so its. absurd (none-yet j inside its)) g.kept

  pub own-control : control ≡ (traced_at (functions_at k o front) place).control
  own-control =
      let y = at-place-of (functions_at k o front) pid place at in
      let kept =
      subst (λ es. Kept (Has pid control) (functions_at k o es)) (sym front-is)
      (walk pid control n k o s h run (e0 ∷ mid) f0 later whole calm0 calm1 gives-all kept-first) in
      sym (has-of pid control (functions_at k o front).traced (functions_at k o front).stage kept.stage place y.within
      y.its)

-- so it is until it is interrupted
pub has-its-controls : (n k : ℕ) (o : Options) (s : TracedState) (h : List Entry) → IsFunctionRun n k o s h
    → HasItsControls k o h
has-its-controls n k o s h run front later pid place control xs is calm at w =
    own-control n k o s h run front later pid place control xs is calm at w
