use Rattle.std.proofs.Common.{◌≡◌, ◌≢◌, ◌++◌, ◌⊎◌, ℕ, true, Option, Some, List, [], ◌∷◌, position, append_assoc, refl, sym, subst, ap, ◌∙◌, inl, inr}
use Rattle.std.proofs.lemmas.List.Elements.{All-head, All-tail}
use Rattle.std.proofs.lemmas.Option.{same_Some}
use Rattle.std.specs.List.{All, cons_option}
use Rattle.pr_line.specs.declared.options.Options.{Options}
use Rattle.pr_model.specs.Legal.{state_after}
use Rattle.pr_model.specs.State.{TracedProcess, TracedState, live_process}
use Rattle.pr_model.specs.declared.events.Entry.{Entry}
use Rattle.pr_num.specs.declared.messages.Message.TheVariants as message
use Rattle.pr_report_laws.proofs.Files.WatchHistories.{cons-exchanges, exchanges-both}
use Rattle.pr_report_laws.proofs.Watching.ExchangeEntries.{HasEntryOf, entry-of}
use Rattle.pr_report_laws.proofs.Watching.HistoryParts.{all-front, all-rest}
use Rattle.pr_truss.specs.Asides.{marks_at, with_marks}
use Rattle.pr_truss.specs.FunctionCalls.{plant_call}
use Rattle.pr_truss.specs.FunctionEvents.{function_event}
use Rattle.pr_truss.specs.FunctionFeeding.{fed_functions}
use Rattle.pr_truss.specs.FunctionStops.{with_function_event}
use Rattle.pr_truss.specs.Messages.{message_call}
use Rattle.pr_truss.specs.NextCalls.{read_record}
use Rattle.pr_truss.specs.Trusses.{TrussState, first_truss, traced_at}
use Rattle.pr_truss.specs.declared.function_events.FunctionEvent.{FunctionEvent}
use Rattle.pr_truss.specs.declared.marks.Stepped.{Stepped}
use Rattle.pr_truss.specs.declared.processes.Traced.{Traced}
use Rattle.pr_truss_laws.proofs.Files.HeldLemmas.{set-at}
use Rattle.pr_truss_laws.specs.Exchanges.{Exchange, exchange_of, exchanges}
use Rattle.pr_function_laws.proofs.CallTurns.BegunSteps.{WasBegun}
use Rattle.pr_function_laws.proofs.CallTurns.CalledLaws.{functions-both}
use Rattle.pr_function_laws.proofs.CallTurns.TurnWalks.{AreNoReads}
use Rattle.pr_function_laws.proofs.LeavingProcesses.LeavingCourse.{goes-there, has-there}
use Rattle.pr_function_laws.proofs.LeavingProcesses.LeavingLaws.{calm-exchanges}
use Rattle.pr_function_laws.proofs.Marks.LiftLemmas.{step_flags}
use Rattle.pr_function_laws.proofs.NextCalls.TreatedLaws.{treats-its-events}
use Rattle.pr_function_laws.proofs.OpenedProcesses.OpenedLaws.{Goes}
use Rattle.pr_function_laws.specs.Coming.{Anything, Come}
use Rattle.pr_function_laws.specs.FunctionTurns.{is_process}
use Rattle.pr_function_laws.specs.Lifted.{IsNoRead}
use Rattle.pr_function_laws.specs.OneEvent.{is_looked_at}
use Rattle.pr_function_laws.specs.ReachedRuns.{IsReachedFunctionRun}
use Rattle.pr_function_laws.specs.Opened.{WasNotInterrupted, functions_at}
use Rattle.pr_function_laws.specs.Returns.{ReadsStepEnd}
use Rattle.pr_function_laws.specs.Runs.{functions_after}
use Rattle.pr_function_laws.specs.ToldTurns.{AreSteppable, HasStep}
use Rattle.pr_function_laws.specs.Treated.{TreatsItsEvents}
use Rattle.pr_function_laws.specs.PlantedByCalls.{IsFirstNamed, IsSinceOpened, LeavesCodeAlone, OpensNot}
use Rattle.pr_function_hides.specs.SteppedByCalls.{IsLiftedForStep, HasAsStepped}
use Rattle.pr_function_hides.proofs.Copying.CopyFeeds.{event-fed}
use Rattle.pr_function_hides.proofs.LiftedSteps.BegunLifts as lifts
use Rattle.pr_function_hides.proofs.LiftedSteps.SinceOpened.{HasItsControls}
use Rattle.pr_function_hides.proofs.LiftedSteps.StepEnds.{end-looked}
use Rattle.pr_function_hides.proofs.LiftedSteps.StepReads as reading
use Rattle.pr_function_hides.proofs.LiftedSteps.SteppedNow as ran
use Rattle.pr_function_hides.proofs.LiftedSteps.SteppedNow.{OpensFirst, going}
use Rattle.pr_function_hides.proofs.LiftedSteps.SteppedThen.{over-it}
use Rattle.pr_function_hides.proofs.Replies.PlantedWalk.{IsAlike, event-kept, marks_then}
use Rattle.pr_function_hides.proofs.StepsUnderWay.CallLists.{reads-or-not}
use Rattle.pr_function_hides.proofs.StepsUnderWay.UnderWay.{apart-here, marks-say, place-of}

-- A step that truss began is under way until it reads the process again; and then it plants the breakpoint again before
-- anything else, where the process stands still.

-- ---- the first read of a status

pub record FirstRead (number : ℕ) (ys : List Exchange) : Type 0 where
  pub before : List Exchange
  pub y : Exchange
  pub after : List Exchange
  pub is : ys ≡ before ++ y ∷ after
  pub quiet : AreNoReads number before
  pub reads : y.call ≡ read_record (Some number)

pub first-read : (number : ℕ) (ys : List Exchange) → All WasNotInterrupted ys
    → AreNoReads number ys ⊎ FirstRead number ys
first-read number [] calm = inl tt
first-read number (y ∷ ys) calm =
    by (reads-or-not y.call number)
    (first-read number ys (All-tail WasNotInterrupted y ys calm))
  where
    here : WasNotInterrupted y
    here = All-head WasNotInterrupted y ys calm

    by : (y.call ≡ read_record (Some number)) ⊎ (y.call ≢ read_record (Some number))
        → AreNoReads number ys ⊎ FirstRead number ys → AreNoReads number (y ∷ ys) ⊎ FirstRead number (y ∷ ys)
    by (inl reads) rest =
        inr (record { before = []; y = y; after = ys; is = refl; quiet = tt; reads = reads })
    by (inr other) (inl quiet) = inl (record { no_read = other; no_interrupt = here.unbroken }, quiet)
    by (inr other) (inr f) = inr (record {
      before = y ∷ f.before;
      y = f.y;
      after = f.after;
      is = ap (λ (vs : List Exchange). y ∷ vs) f.is;
      quiet = (record { no_read = other; no_interrupt = here.unbroken }, f.quiet);
      reads = f.reads;
    })

module _ (n k : ℕ) (o : Options) (s : TracedState) (h : List Entry) (run : IsReachedFunctionRun n k o s h)
    (able : AreSteppable o) (controls : HasItsControls k o h)
    (front later : List Entry) (is : h ≡ front ++ later) (calm : All WasNotInterrupted (exchanges k front))
    (pid place control : ℕ) (xs : List Exchange)
    (at : position (is_process pid) (functions_at k o front).traced ≡ Some place)
    (w : IsSinceOpened k pid front control xs) (p : TracedProcess)
    (live : live_process (state_after s front).system pid ≡ Some p) (function : ℕ)
    (z : IsLiftedForStep o control function xs) (named : IsFirstNamed o function)
    (away : (q : ℕ) → is_looked_at (functions_at k o front).stage q ≡ true
    → (traced_at (functions_at k o front) q).pid ≢ pid) where
  abbrev T : List Entry → TrussState
  T es = functions_at k o es

  abbrev fr : List Entry
  fr =
      ran.fr n k o s h run able controls front later is calm pid place control xs at w p live function z

  abbrev er : Entry
  er =
      ran.er n k o s h run able controls front later is calm pid place control xs at w p live function z

  abbrev fv : List Entry
  fv =
      ran.fv n k o s h run able controls front later is calm pid place control xs at w p live function z

  abbrev step : Stepped
  step =
      ran.step n k o s h run able controls front later is calm pid place control xs at w p live function z

  abbrev status : Option ℕ
  status =
      ran.status n k o s h run able controls front later is calm pid place control xs at w p live function
      z

  abbrev b : WasBegun k o fr pid status step
  b =
      ran.begun n k o s h run able controls front later is calm pid place control xs at w p live function
      z

  pub whole : h ≡ fr ++ er ∷ (fv ++ later)
  whole =
      ran.whole n k o s h run able controls front later is calm pid place control xs at w p live function
      z

  front-is : front ≡ fr ++ er ∷ fv
  front-is =
      ran.front-is n k o s h run able controls front later is calm pid place control xs at w p live
      function z

  since-are : exchanges k (er ∷ fv) ≡ z.run ∷ z.after
  since-are =
      ran.since-are n k o s h run able controls front later is calm pid place control xs at w p live
      function z

  pub calm-run : All WasNotInterrupted (exchanges k fr)
  calm-run =
      ran.calm-run n k o s h run able controls front later is calm pid place control xs at w p live
      function
      z

  abbrev t0 : TrussState
  t0 = functions_at k o b.before

  abbrev number0 : ℕ
  number0 =
      lifts.number n k o s h run able fr (er ∷ (fv ++ later)) whole calm-run pid status step b

  number0-is : (traced_at t0 b.place).status ≡ Some number0
  number0-is =
      lifts.number-is n k o s h run able fr (er ∷ (fv ++ later)) whole calm-run pid status step b

  over : step.function ≡ function
  over = over-it n k o s h run able controls front later is calm pid place control xs at w p live function
      z named

  rest-is : exchanges k fv ≡ z.after
  rest-is = ran.rest-is n k o s h run able controls front later is calm pid place control xs at w p live
      function z

  calm-since : All WasNotInterrupted (z.run ∷ z.after)
  calm-since =
      subst (All WasNotInterrupted) since-are
      (all-rest WasNotInterrupted (exchanges k fr) (exchanges k (er ∷ fv))
      (subst (All WasNotInterrupted) (ap (exchanges k) front-is ∙ exchanges-both k fr (er ∷ fv)) calm))

  run-quiet : (m : ℕ) → IsNoRead m z.run
  run-quiet m =
      let c = All-head WasNotInterrupted z.run z.after calm-since in
      record { no_read = λ same. clash m (sym z.runs ∙ same); no_interrupt = c.unbroken }
    where
      clash : (m : ℕ) → message_call control (message.Run step_flags) ≡ read_record (Some m) → ⊥
      clash m both = cc

  of-number : (ys : List Exchange) → AreNoReads number0 ys → (m : ℕ) → (traced_at t0 b.place).status ≡ Some m
      → AreNoReads m (z.run ∷ ys)
  of-number ys quiet m there =
      (run-quiet m, subst (λ i. AreNoReads i ys) (same_Some number0 m (sym number0-is ∙ there)) quiet)

  -- ---- it has not read the process since

  unread : AreNoReads number0 z.after → HasAsStepped k o front place function
  unread quiet =
      let end : List Entry = fr ++ er ∷ fv in
      let is_end : h ≡ end ++ later = is ∙ ap (λ es. es ++ later) front-is in
      let calm_end = subst (λ es. All WasNotInterrupted (exchanges k es)) front-is calm in
      let b_end =
      ran.going n k o s h run able controls front later is calm pid place control xs at w p live function
      z (er ∷ fv)
      (λ m there. subst (AreNoReads m) (sym since-are) (of-number z.after quiet m there)) in
      let u =
      marks-say n k o s h run able end later is_end calm_end pid status step b_end p
      (ap (λ es. live_process (state_after s es).system pid) (sym front-is) ∙ live) in
      let under : HasStep k o end u.place step = u.under in
      let same : place ≡ u.place =
      same_Some place u.place
      (sym at ∙ ap (λ es. position (is_process pid) (T es).traced) front-is
      ∙ place-of pid (T end).traced u.place (apart-here n k o s h run.of end later is_end calm_end) under.within u.own)
      in
      record {
        step = step;
        under_way = ap (λ i. (marks_at (T front) i).stepped) same
            ∙ ap (λ es. (marks_at (T es) u.place).stepped) front-is ∙ under.under_way;
        over = over;
      }

  -- ---- it has

  module _ (f : FirstRead number0 z.after) where
    entry : HasEntryOf k fv f.before f.y f.after
    entry = entry-of k fv f.before f.y f.after (rest-is ∙ f.is)

    abbrev f1 : List Entry
    f1 = let y = entry in y.before

    abbrev ey : Entry
    ey = let y = entry in y.entry

    abbrev f2 : List Entry
    f2 = let y = entry in y.later

    abbrev fs : List Entry
    fs = fr ++ er ∷ f1

    fv-is : fv ≡ f1 ++ ey ∷ f2
    fv-is = let y = entry in y.is

    own : exchange_of k ey ≡ Some f.y
    own = let y = entry in y.own

    front-then : front ≡ fs ++ ey ∷ f2
    front-then =
        front-is ∙ ap (λ vs. fr ++ er ∷ vs) fv-is ∙ sym (append_assoc fr (er ∷ f1) (ey ∷ f2))

    whole-then : h ≡ fs ++ ey ∷ (f2 ++ later)
    whole-then = is ∙ ap (λ vs. vs ++ later) front-then ∙ append_assoc fs (ey ∷ f2) later

    calm-then : All WasNotInterrupted (exchanges k fs)
    calm-then =
        all-front WasNotInterrupted (exchanges k fs) (exchanges k (ey ∷ f2))
        (subst (All WasNotInterrupted) (ap (exchanges k) front-then ∙ exchanges-both k fs (ey ∷ f2)) calm)

    since-then : exchanges k (er ∷ f1) ≡ z.run ∷ f.before
    since-then =
        let y = entry in
        cons-exchanges k er f1
        ∙ ap (λ x. cons_option x (exchanges k f1))
        (ran.own-run n k o s h run able controls front later is calm pid place control xs at w p live
        function z)
        ∙ ap (λ (ys : List Exchange). z.run ∷ ys) y.earlier

    behind-then : exchanges k (ey ∷ f2) ≡ f.y ∷ f.after
    behind-then =
        let y = entry in
        cons-exchanges k ey f2 ∙ ap (λ x. cons_option x (exchanges k f2)) own
        ∙ ap (λ (ys : List Exchange). f.y ∷ ys) y.rest

    abbrev b2 : WasBegun k o fs pid status step
    b2 =
        ran.going n k o s h run able controls front later is calm pid place control xs at w p live
        function z (er ∷ f1)
        (λ m there. subst (AreNoReads m) (sym since-then) (of-number f.before f.quiet m there))

    reads-it : f.y.call ≡ read_record (traced_at (functions_at k o b2.before) b2.place).status
    unfolding going
    reads-it = f.reads ∙ ap read_record (sym number0-is)

    live-then : (y : TracedProcess) × (live_process (state_after s fs).system pid ≡ Some y)
    live-then =
        ran.live-since n k o s h run able controls front later is calm pid place control xs at w p live
        function z (er ∷ f1) (ey ∷ f2) (ap (λ (vs : List Entry). er ∷ vs) fv-is)

    abbrev place2 : ℕ
    place2 =
        reading.place n k o s h run able fs ey (f2 ++ later) whole-then calm-then pid status step b2 f.y
        own
        reads-it live-then.0 live-then.1

    there : reading.IsThere n k o s h run able fs ey (f2 ++ later) whole-then calm-then pid status step b2
        f.y own reads-it live-then.0 live-then.1
    there =
        reading.there n k o s h run able fs ey (f2 ++ later) whole-then calm-then pid status step b2 f.y
        own
        reads-it live-then.0 live-then.1

    ends : ReadsStepEnd (T fs) f.y place2 step
    ends =
        reading.reads-end n k o s h run able fs ey (f2 ++ later) whole-then calm-then pid status step b2
        f.y
        own reads-it live-then.0 live-then.1

    goes : Goes (Unit {0}) k o (T fs) (state_after s fs)
    goes =
        goes-there (Unit {0}) n k o s h run.of (λ r. run.reached) (λ r. run.bytes) fs ey (f2 ++ later) whole-then
        calm-then

    -- the next call plants the breakpoint
    again : Come (plant_call o (traced_at (T fs) place2).control step.function ∷ []) Anything
        (exchanges k (f2 ++ later))
    again =
        let all : TreatsItsEvents o (exchanges k h) =
        treats-its-events o (exchanges k h) run.of.has run.of.follows_none run.of.makes
        (calm-exchanges h n k s run.of.legal) in
        all.again (exchanges k fs) (exchanges k (f2 ++ later)) f.y place2 step
        (ap (exchanges k) whole-then ∙ exchanges-both k fs (ey ∷ (f2 ++ later))
        ∙ ap (λ (ys : List Exchange). exchanges k fs ++ ys)
        (cons-exchanges k ey (f2 ++ later) ∙ ap (λ x. cons_option x (exchanges k (f2 ++ later))) own))
        ends

    -- of this process
    since : IsSinceOpened k pid fs control
        (w.first ∷ ((let x = ran.opens n k o s h run able controls front later is calm pid place control
        xs at w p live function z in x.mid) ++ z.run ∷ f.before))
    since =
        let x : OpensFirst z.before z.after w.since z.x z.run w.first =
        ran.opens n k o s h run able controls front later is calm pid place control xs at w p live
        function z in
        let r = ran.entry n k o s h run able controls front later is calm pid place control xs at w p live
        function z in
        record {
          earlier = w.earlier;
          first = w.first;
          since = x.mid ++ z.run ∷ f.before;
          is = exchanges-both k fr (er ∷ f1)
              ∙ ap (λ (ys : List Exchange). exchanges k fr ++ ys) since-then
              ∙ ap (λ (ys : List Exchange). ys ++ z.run ∷ f.before)
              (r.earlier ∙ ap (λ (ys : List Exchange). w.earlier ++ ys) x.begins)
              ∙ append_assoc w.earlier (w.first ∷ x.mid) (z.run ∷ f.before);
          begins = refl;
          opens = w.opens;
          granted = w.granted;
          handle = w.handle;
          last = all-front (OpensNot pid) (x.mid ++ z.run ∷ f.before) (f.y ∷ f.after)
              (subst (All (OpensNot pid))
              (x.since_is ∙ ap (λ (ys : List Exchange). x.mid ++ z.run ∷ ys) f.is
              ∙ sym (append_assoc x.mid (z.run ∷ f.before) (f.y ∷ f.after))) w.last);
        }

    its-control : control ≡ (traced_at (T fs) place2).control
    its-control =
        let x = there in
        let y = ends in
        controls fs (ey ∷ (f2 ++ later)) pid place2 control _ whole-then calm-then
        (place-of pid (T fs).traced place2
        (apart-here n k o s h run.of fs (ey ∷ (f2 ++ later)) whole-then calm-then) y.within x.its) since

    planted : (v : Exchange) (vs : List Exchange) → f.after ≡ v ∷ vs → ⊥
    planted v vs more =
        let y = entry in
        let come =
        subst (Come (plant_call o (traced_at (T fs) place2).control step.function ∷ []) Anything)
        (exchanges-both k f2 later ∙ ap (λ (ys : List Exchange). ys ++ exchanges k later) (y.rest ∙ more)) again in
        let alone =
        All-head (LeavesCodeAlone o control function) v vs
        (All-tail (LeavesCodeAlone o control function) f.y (v ∷ vs)
        (subst (λ (ys : List Exchange). All (LeavesCodeAlone o control function) (f.y ∷ ys)) more
        (all-rest (LeavesCodeAlone o control function) f.before (f.y ∷ f.after)
        (subst (All (LeavesCodeAlone o control function)) f.is z.stays)))) in
        alone.plants_not
        (come.0 ∙ ap (λ c. plant_call o c step.function) (sym its-control) ∙ ap (plant_call o control) over)

    -- where nothing comes behind, it looks at the process
    looking : f.after ≡ [] → ⊥
    looking none =
        let y = ends in
        let x = there in
        let g = goes in
        let kept = g.kept in
        let t : TrussState = T fs in
        let fe : FunctionEvent = function_event t.options (marks_at t place2) y.l.id y.event in
        let fed_is : fed_functions t (let e = f.y in e.reply) ≡ with_function_event t place2 y.l fe =
        event-fed t (let e = f.y in e.reply) place2
        (has-there (Unit {0}) n k o s h run.of (λ r. run.reached) (λ r. run.bytes) fs ey (f2 ++ later) whole-then)
        y.stays y.idle y.reads y.accepted y.l y.told y.event y.fresh in
        let front_now : T front ≡ with_function_event t place2 y.l fe =
        ap (functions_after (first_truss o))
        (ap (exchanges k) front-then ∙ exchanges-both k fs (ey ∷ f2)
        ∙ ap (λ (ys : List Exchange). exchanges k fs ++ ys)
        (behind-then ∙ ap (λ (ys : List Exchange). f.y ∷ ys) none))
        ∙ functions-both (first_truss o) (exchanges k fs) (f.y ∷ []) ∙ fed_is in
        let alike : IsAlike (with_marks t place2 (marks_then (marks_at t place2) y.l fe))
        (with_function_event t place2 y.l fe) =
        event-kept t y.stays kept.follow place2 y.l y.within fe in
        away place2
        (ap (λ (v : TrussState). is_looked_at v.stage place2) front_now
        ∙ end-looked place2 y.l t y.stays kept.follow fe y.ends)
        (ap (λ (v : TrussState). (traced_at v place2).pid) front_now ∙ alike.pids place2
        ∙ ap (λ (v : Traced). v.pid)
        (set-at t.traced place2
        (record (traced_at t place2) { marks = marks_then (marks_at t place2) y.l fe }) y.within)
        ∙ x.its)

    pub never : ⊥
    never = by f.after refl
      where
        by : (ys : List Exchange) → f.after ≡ ys → ⊥
        by [] none = looking none
        by (v ∷ vs) more = planted v vs more

  pub stepped-now : HasAsStepped k o front place function
  stepped-now = by (first-read number0 z.after (All-tail WasNotInterrupted z.run z.after calm-since))
    where
      by : AreNoReads number0 z.after ⊎ FirstRead number0 z.after → HasAsStepped k o front place function
      by (inl quiet) = unread quiet
      by (inr f) = absurd (never f)
