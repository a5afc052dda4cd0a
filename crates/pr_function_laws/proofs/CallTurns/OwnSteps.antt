use Rattle.std.proofs.Common.{◌≡◌, ◌≢◌, ◌==◌, ◌<◌, ◌++◌, ℕ, Bool, true, false, not, Option, Some, List, [], ◌∷◌, length, append-nil, append_assoc, refl, sym, subst, ap, ◌∙◌, inl, inr}
use Rattle.std.proofs.lemmas.Bool.{cases_eq, eqb-false, false≢true}
use Rattle.std.proofs.lemmas.List.Elements.{All-head, All-tail}
use Rattle.std.proofs.lemmas.Option.{none-some}
use Rattle.std.specs.List.{All, cons_option}
use Rattle.pr_line.specs.declared.options.Options.{Options}
use Rattle.pr_model.proofs.TurnLemmas.{turn-taken}
use Rattle.pr_model.specs.Legal.{IsLegalEntry, state_after}
use Rattle.pr_model.specs.State.{TracedProcess, TracedState, live_process}
use Rattle.pr_model.specs.declared.events.Act.TheVariants.{Turn}
use Rattle.pr_model.specs.declared.events.Actor.TheVariants.{Lwp}
use Rattle.pr_model.specs.declared.events.Did.TheVariants.{Faulted, Stopped}
use Rattle.pr_num.specs.declared.faults.Flt.TheVariants.{Trace}
use Rattle.pr_model.specs.declared.events.Entry.{Entry}
use Rattle.pr_model.specs.declared.events.Turned.{Turned}
use Rattle.pr_report_laws.proofs.Files.WatchHistories.{cons-exchanges, exchanges-both, exchanges-push}
use Rattle.pr_report_laws.proofs.Invariant.StandLemmas.{EachBut}
use Rattle.pr_report_laws.proofs.SeenChildren.Splits.{state_after-both}
use Rattle.pr_truss.specs.FunctionEvents.{step_of}
use Rattle.pr_truss.specs.NextCalls.{read_record}
use Rattle.pr_truss.specs.Trusses.{TrussState, traced_at}
use Rattle.pr_truss.specs.declared.marks.Stepped.{Stepped}
use Rattle.pr_truss.specs.declared.processes.Traced.{Traced}
use Rattle.pr_truss.specs.declared.reports.Report.TheVariants.{Called}
use Rattle.pr_truss.specs.declared.stages.AfterClosing.TheVariants.{OpenNext, GoOn}
use Rattle.pr_truss.specs.declared.stages.Stage.{Stage}
use Rattle.pr_truss.specs.declared.stages.Stage.TheVariants.{Spawning, OpeningControl, Opening, Polling, ReadingStatus, ReadingText, Running, Closing, Finished}
use Rattle.pr_truss_laws.proofs.Files.HeldLemmas.{at_place}
use Rattle.pr_truss_laws.specs.Exchanges.{Exchange, exchanges}
use Rattle.pr_function_laws.proofs.CallTurns.BegunSteps.{IsUnderWay, Steps, StepsAt, WasBegun, begun, ended, only-last}
use Rattle.pr_function_laws.proofs.CallTurns.CalledLaws.{calls-are-turns}
use Rattle.pr_function_laws.proofs.Marks.KeptPlaces.{AtStage, Kept, rests}
use Rattle.pr_function_laws.proofs.OpenedProcesses.OpenedLaws.{handle-is, holds-opened, lifts-alone, status-handle, stop-there}
use Rattle.pr_function_laws.proofs.CallTurns.ToldLaws.{breaks, breaks-function, breaks-lwp, calm-before, kept-front, legal, parted}
use Rattle.pr_function_laws.proofs.CallTurns.TurnStarts.{no-second}
use Rattle.pr_function_laws.proofs.CallTurns.TurnWalks.{AreNoReads}
use Rattle.pr_function_laws.specs.CalledTurns.{ReadsTwice, call_met}
use Rattle.pr_function_laws.specs.Calls.{call_told}
use Rattle.pr_function_laws.specs.Lifted.{IsNoRead, ReadsOnlyLast}
use Rattle.pr_function_laws.specs.Met.{arguments_of}
use Rattle.pr_function_laws.specs.ReachedRuns.{IsReachedFunctionRun}
use Rattle.pr_function_laws.specs.Opened.{LiftsForOneAlone, OwnsAndTraces, ReadsBreakpoint, functions_at, is_opened}
use Rattle.pr_function_laws.specs.ToldTurns.{AreSteppable, HasStep, IsReadAgain, StepsAreRead}
use Rattle.pr_function_laws.specs.Turns.{EndsInTrap, HasTrap}

-- While the step over a function is under way in a process, as truss's marks say, only the lwp of that step runs; and
-- where its turn ends with a trace trap, the next read of the process tells of the call.

-- ---- a step that truss's marks name

module _ (k : ℕ) (o : Options) (s : TracedState) (front : List Entry) (ts : List Traced) (place : ℕ)
    (within : place < length ts) where
  pub steps-opened : (stage : Stage) → is_opened stage place ≡ true → AtStage (StepsAt k o s front) ts stage
      → Steps k o s front (at_place ts place)
  steps-opened stage opened w = by stage opened w
    where
      negated : (x : Bool) → not x ≡ true → x ≡ false
      negated true is = absurd (false≢true is)
      negated false is = refl

      beside : (b : ℕ) → not (b == place) ≡ true → EachBut (StepsAt k o s front rests) ts b
          → Steps k o s front (at_place ts place)
      beside b other others = others place within (λ same. eqb-false b place (negated (b == place) other) (sym same))

      run : (b : ℕ) → EachBut (StepsAt k o s front rests) ts b → Steps k o s front (at_place ts b)
          → Steps k o s front (at_place ts place)
      run b others here = elim (cases_eq place b) [
        | inl same ↦ subst (λ i. Steps k o s front (at_place ts i)) (sym same) here
        | inr other ↦ others place within other
      ]

      by : (stage : Stage) → is_opened stage place ≡ true → AtStage (StepsAt k o s front) ts stage
          → Steps k o s front (at_place ts place)
      by (Spawning program) is w = w place within
      by (OpeningControl pid) is w = w place within
      by (Opening b next) is w = beside b is w.1.0
      by Polling is w = w place within
      by (ReadingStatus b) is w = w.1.0 place within
      by (ReadingText b l from len) is w = w.1.0 place within
      by (Running b) is w = run b w.1.0 w.1.1
      by (Closing b OpenNext) is w = beside b is w.1.0
      by (Closing b GoOn) is w = beside b is w.1.0
      by Finished is w = w place within
      by _ is w = absurd w

-- ---- lists of exchanges

none-read : (status : ℕ) (xs : List Exchange) → AreNoReads status xs → ReadsOnlyLast status xs
none-read status [] quiet = tt
none-read status (x ∷ xs) quiet = inl (quiet.0, none-read status xs quiet.1)

pub quiet-both : (status : ℕ) (xs ys : List Exchange) → AreNoReads status xs → All (IsNoRead status) ys
    → AreNoReads status (xs ++ ys)
quiet-both status [] [] quiet more = tt
quiet-both status [] (y ∷ ys) quiet more =
    (All-head (IsNoRead status) y ys more, quiet-both status [] ys tt (All-tail (IsNoRead status) y ys more))
quiet-both status (x ∷ xs) ys quiet more = (quiet.0, quiet-both status xs ys quiet.1 more)

-- a turn of an lwp
abbrev turn_entry : ℕ → ℕ → Turned → Entry
turn_entry pid id t = record { actor = Lwp pid id; act = Turn t }

module _ (n k : ℕ) (o : Options) (s : TracedState) (h : List Entry) (run : IsReachedFunctionRun n k o s h)
    (able : AreSteppable o) where
  -- a step that is under way in a process that lives
  pub begun-there : (front later : List Entry) → h ≡ front ++ later → (place : ℕ) (step : Stepped)
      → HasStep k o front place step → (p : TracedProcess)
      → live_process (state_after s front).system (traced_at (functions_at k o front) place).pid ≡ Some p
      → WasBegun k o front (traced_at (functions_at k o front) place).pid
      (traced_at (functions_at k o front) place).status step
  begun-there front later is place step under p live =
      let w : Kept (StepsAt k o s front) (functions_at k o front) =
      kept-front n k o s h run able front later is under.calm in
      by (steps-opened k o s front (functions_at k o front).traced place under.within (functions_at k o front).stage
      under.opened w.stage step under.under_way)
    where
      by : IsUnderWay k o s front (traced_at (functions_at k o front) place).pid
          (traced_at (functions_at k o front) place).status step
          → WasBegun k o front (traced_at (functions_at k o front) place).pid
          (traced_at (functions_at k o front) place).status step
      by (begun b) = b
      by (ended none) = absurd (none-some p (sym none ∙ live))

  module _ (front later : List Entry) (place id : ℕ) (step : Stepped) (t : Turned)
      (is : h ≡ front ++ turn_entry (traced_at (functions_at k o front) place).pid id t ∷ later)
      (under : HasStep k o front place step) where
    abbrev tr : TrussState
    tr = functions_at k o front

    abbrev pid : ℕ
    pid = (traced_at tr place).pid

    abbrev e : Entry
    e = turn_entry pid id t

    abbrev now : TracedState
    now = state_after s front

    -- the turn is of a process that lives
    lives : (p : TracedProcess) × (live_process now.system pid ≡ Some p)
    unfolding IsLegalEntry
    lives =
        let it_is : IsLegalEntry n now e = legal n k o s h run able front e later is under.calm in
        let it = turn-taken now.system pid id (record { system = it_is.0; turned = t }) it_is.1 in
        (it.process, it.live)

    pub its-step : WasBegun k o front pid (traced_at tr place).status step
    its-step =
        let it = lives in
        begun-there front (e ∷ later) is place step under it.0 it.1

    -- the lwp of the step, of which truss read that it stands at the breakpoint
    abbrev lwp : ℕ
    lwp = let b = its-step in let m = b.meets in m.l.id

    lwp-is : lwp ≡ step.lwp
    unfolding step_of
    lwp-is = let b = its-step in ap (λ (x : Stepped). x.lwp) (sym b.its_step)

    pid-is : (let b = its-step in (traced_at (functions_at k o b.before) b.place).pid) ≡ pid
    pid-is = let b = its-step in b.its_pid

    alone : id ≢ step.lwp → t ≡ record { did = Stopped; stop = false }
    alone other =
        let b = its-step in
        let between : List Entry = b.between ++ e ∷ [] in
        let only =
        lifts.each b.before between later b.e b.place lwp
        (parted n k o s h run able front e later is under.calm pid (traced_at tr place).status step b
        ∙ ap (λ es. b.before ++ b.e ∷ es) (sym (append_assoc b.between (e ∷ []) later)))
        (calm-before n k o s h run able front e later is under.calm pid (traced_at tr place).status step
        b)
        (breaks n k o s h run able front e later is under.calm pid (traced_at tr place).status step b
        between (λ number there.
        subst (ReadsOnlyLast number) (sym (exchanges-push k b.between e ∙ append-nil (exchanges k b.between)))
        (none-read number (exchanges k b.between) (b.quiet number there)))) in
        only.each b.between [] id t
        (ap (λ number. b.between ++ turn_entry number id t ∷ []) (sym pid-is))
        (λ same. other (same ∙ lwp-is))
      where
        lifts : LiftsForOneAlone k o s h
        lifts = lifts-alone n k o s h run

    -- ---- its status file

    owns : OwnsAndTraces k o tr place now
    owns =
        let holds = holds-opened n k o s h run.of in
        holds.each front (e ∷ later) place is under.calm under.within under.opened

    -- it is that which truss had at the breakpoint
    same-status : (status : ℕ)
        → (let b = its-step in (traced_at (functions_at k o b.before) b.place).status ≡ Some status)
        → (traced_at tr place).status ≡ Some status
    same-status status there =
        let b = its-step in
        let x = owns in
        let f = x.files in
        f.own_status ∙ sym (b.its_status x.status f.own_status) ∙ there

  -- ---- one turn

  module _ (front mid later : List Entry) (place id : ℕ) (step : Stepped) (t again : Turned)
      (is : h ≡ front ++ turn_entry (traced_at (functions_at k o front) place).pid id t
      ∷ (mid ++ turn_entry (traced_at (functions_at k o front) place).pid id again ∷ later))
      (under : HasStep k o front place step)
      (quiet : (status : ℕ) → (traced_at (functions_at k o front) place).status ≡ Some status
      → All (IsNoRead status) (exchanges k mid)) where
    abbrev pid_one : ℕ
    pid_one = (traced_at (functions_at k o front) place).pid

    abbrev one : Entry
    one = turn_entry pid_one id t

    abbrev two : Entry
    two = turn_entry pid_one id again

    abbrev begun-step : WasBegun k o front pid_one (traced_at (functions_at k o front) place).status step
    begun-step = its-step front (mid ++ two ∷ later) place id step t is under

    abbrev at-break : TrussState
    at-break = let b = begun-step in functions_at k o b.before

    abbrev place0 : ℕ
    place0 = let b = begun-step in b.place

    abbrev lwp0 : ℕ
    lwp0 = let b = begun-step in let m = b.meets in m.l.id

    abbrev passed : List Entry
    passed = let b = begun-step in b.between

    -- the entries from the read on, to the second turn
    abbrev stretch : List Entry
    stretch = passed ++ one ∷ (mid ++ two ∷ [])

    stretched : h ≡ (let b = begun-step in b.before ++ b.e ∷ (stretch ++ later))
    stretched =
        let b = begun-step in
        parted n k o s h run able front one (mid ++ two ∷ later) is under.calm pid_one
        (traced_at (functions_at k o front) place).status step b
        ∙ ap (λ es. b.before ++ b.e ∷ es)
        (sym (append_assoc b.between (one ∷ (mid ++ two ∷ [])) later
        ∙ ap (λ es. b.between ++ one ∷ es) (append_assoc mid (two ∷ []) later)))

    quiet-passed : (status : ℕ) → (traced_at at-break place0).status ≡ Some status
        → AreNoReads status (exchanges k (passed ++ one ∷ mid))
    quiet-passed status there =
        let b = begun-step in
        subst (AreNoReads status)
        (sym (exchanges-both k b.between (one ∷ mid)
        ∙ ap (λ xs. exchanges k b.between ++ xs) (cons-exchanges k one mid)))
        (quiet-both status (exchanges k b.between) (exchanges k mid) (b.quiet status there)
        (quiet status (same-status front (mid ++ two ∷ later) place id step t is under status there)))

    quiet-stretch : (status : ℕ) → (traced_at at-break place0).status ≡ Some status
        → AreNoReads status (exchanges k stretch)
    quiet-stretch status there =
        subst (λ es. AreNoReads status (exchanges k es)) (append_assoc passed (one ∷ mid) (two ∷ []))
        (subst (AreNoReads status)
        (sym (exchanges-push k (passed ++ one ∷ mid) two ∙ append-nil (exchanges k (passed ++ one ∷ mid))))
        (quiet-passed status there))

    broke : (let b = begun-step in ReadsBreakpoint k at-break place0 lwp0 (state_after s b.before) b.e stretch)
    broke =
        let b = begun-step in
        breaks n k o s h run able front one (mid ++ two ∷ later) is under.calm pid_one
        (traced_at (functions_at k o front) place).status step b stretch
        (λ status there. none-read status (exchanges k stretch) (quiet-stretch status there))

    once : id ≡ step.lwp → ⊥
    once own =
        let b = begun-step in
        let calm =
        calm-before n k o s h run able front one (mid ++ two ∷ later) is under.calm pid_one
        (traced_at (functions_at k o front) place).status step b in
        let own_lwp : id ≡ lwp0 = own ∙ sym (lwp-is front (mid ++ two ∷ later) place id step t is under) in
        let same : (did : Turned) → turn_entry pid_one id did ≡ turn_entry (traced_at at-break place0).pid lwp0 did =
        λ did.
        ap (λ i. turn_entry i id did) (sym b.its_pid)
        ∙ ap (λ j. turn_entry (traced_at at-break place0).pid j did) own_lwp in
        no-second n k at-break place0
        (status-handle n k o s h run b.before stretch later b.e place0 lwp0 stretched calm broke)
        (traced_at at-break place0).pid lwp0 (state_after s b.before) b.e stretch
        (stop-there n k o s h run b.before stretch later b.e place0 lwp0 stretched calm broke)
        b.between mid [] t again
        (ap (λ f. b.between ++ f ∷ (mid ++ two ∷ [])) (same t)
        ∙ ap (λ f. b.between ++ turn_entry (traced_at at-break place0).pid lwp0 t ∷ (mid ++ f ∷ [])) (same again))
        (subst (λ f. AreNoReads (status-handle n k o s h run b.before stretch later b.e place0 lwp0
        stretched calm broke) (exchanges k (b.between ++ f ∷ mid))) (same t)
        (quiet-passed _
        (handle-is n k o s h run b.before stretch later b.e place0 lwp0 stretched calm broke)))

  -- ---- the next read

  module _ (front mid later : List Entry) (place id : ℕ) (step : Stepped) (t : Turned) (again : Entry) (y : Exchange)
      (is : h ≡ front ++ turn_entry (traced_at (functions_at k o front) place).pid id t ∷ (mid ++ again ∷ later))
      (under : HasStep k o front place step) (trap : EndsInTrap t)
      (z : IsReadAgain k o s front place (turn_entry (traced_at (functions_at k o front) place).pid id t) mid again y)
    where
      abbrev rest : List Entry
      rest = mid ++ again ∷ later

      abbrev now-truss : TrussState
      now-truss = functions_at k o front

      abbrev number : ℕ
      number = (traced_at now-truss place).pid

      abbrev turn : Entry
      turn = turn_entry number id t

      abbrev b : WasBegun k o front number (traced_at now-truss place).status step
      b = its-step front rest place id step t is under

      abbrev t0 : TrussState
      t0 = functions_at k o b.before

      abbrev between : List Entry
      between = b.between ++ turn ∷ mid

      abbrev met : ℕ
      met = let m = b.meets in m.l.id

      met-is : met ≡ step.lwp
      unfolding step_of
      met-is = ap (λ (x : Stepped). x.lwp) (sym b.its_step)

      own-lwp : id ≡ met
      own-lwp = elim (cases_eq id step.lwp) [
        | inl same ↦ same ∙ sym met-is
        | inr other ↦ absurd
            (stopped-not (ap (λ (x : Turned). x.did) (sym (alone front rest place id step t is under other)) ∙ trap))
      ]
        where
          stopped-not : Stopped ≡ Faulted Trace → ⊥
          stopped-not same = cc

      mine : OwnsAndTraces k o now-truss place (state_after s front)
      mine = owns front rest place id step t is under

      status-is : (let x = mine in (traced_at t0 b.place).status ≡ Some x.status)
      status-is = let x = mine in let f = x.files in b.its_status x.status f.own_status

      quiet : (status : ℕ) → (traced_at t0 b.place).status ≡ Some status → AreNoReads status (exchanges k between)
      quiet status there =
          subst (AreNoReads status) (sym (exchanges-both k b.between (turn ∷ mid)))
          (quiet-both status (exchanges k b.between) (exchanges k (turn ∷ mid)) (b.quiet status there)
          (subst (All (IsNoRead status)) (sym (cons-exchanges k turn mid))
          (z.quiet status (same-status front rest place id step t is under status there))))

      reads-it : y.call ≡ read_record (traced_at t0 b.place).status
      reads-it =
          let x = mine in
          let f = x.files in z.reads ∙ ap read_record (f.own_status ∙ sym status-is)

      reads-last : (status : ℕ) → (traced_at t0 b.place).status ≡ Some status
          → ReadsOnlyLast status (exchanges k (between ++ again ∷ []))
      reads-last status there =
          subst (ReadsOnlyLast status)
          (sym (exchanges-push k between again
          ∙ ap (λ (x : Option Exchange). exchanges k between ++ cons_option x []) z.own))
          (only-last status (exchanges k between) y (quiet status there) (reads-it ∙ ap read_record there))

      twice : ReadsTwice k o s h b.before b.e between again later b.place met
      twice = record {
        is = is ∙ ap (λ es. es ++ turn ∷ rest) b.is ∙ append_assoc b.before (b.e ∷ b.between) (turn ∷ rest)
            ∙ ap (λ es. b.before ++ b.e ∷ es) (sym (append_assoc b.between (turn ∷ mid) (again ∷ later)));
        calm = calm-before n k o s h run able front turn rest is under.calm number
            (traced_at now-truss place).status step b;
        breakpoint =
            breaks n k o s h run able front turn rest is under.calm number
            (traced_at now-truss place).status step b (between ++ again ∷ []) reads-last;
        y = y;
        own = z.own;
        reads = reads-it;
        process = z.process;
        live = ap (live_process (state_after (state_after s b.before) (b.e ∷ between)).system) b.its_pid
            ∙ ap (λ (u : TracedState). live_process u.system number)
            (state_after-both (state_after s b.before) (b.e ∷ b.between) (turn ∷ mid)
            ∙ ap (λ (u : TracedState). state_after u (turn ∷ mid))
            (sym (ap (state_after s) b.is ∙ state_after-both s b.before (b.e ∷ b.between))))
            ∙ z.live;
      }

      has-trap : HasTrap (traced_at t0 b.place).pid met between
      has-trap = record {
        before = b.between;
        turned = t;
        later = mid;
        is = ap (λ f. b.between ++ f ∷ mid)
            (ap (λ i. turn_entry i id t) (sym b.its_pid)
            ∙ ap (λ j. turn_entry (traced_at t0 b.place).pid j t) own-lwp);
        trapped = trap;
      }

      entries-are : b.before ++ b.e ∷ between ≡ front ++ turn ∷ mid
      entries-are =
          sym (append_assoc b.before (b.e ∷ b.between) (turn ∷ mid)) ∙ ap (λ es. es ++ turn ∷ mid) (sym b.is)

      call-is : call_met k o s h b.before b.e between again later b.place met twice
          ≡ Called number step.lwp step.function step.arguments
      unfolding twice step_of
      call-is =
          let m = b.meets in
          ap (λ f. Called (traced_at t0 b.place).pid met f (arguments_of (let w =
          breaks n k o s h run able front turn rest is under.calm number
          (traced_at now-truss place).status step b (between ++ again ∷ []) reads-last in w.meets.l)))
          (breaks-function n k o s h run able front turn rest is under.calm number
          (traced_at now-truss place).status step b (between ++ again ∷ []) reads-last)
          ∙ ap (λ l. Called (traced_at t0 b.place).pid met m.function (arguments_of l))
          (breaks-lwp n k o s h run able front turn rest is under.calm number
          (traced_at now-truss place).status step b (between ++ again ∷ []) reads-last)
          ∙ ap (λ i. Called i met m.function (arguments_of m.l)) b.its_pid
          ∙ ap (λ (x : Stepped). Called number x.lwp x.function x.arguments) (sym b.its_step)

      second-tells : call_told (functions_at k o (b.before ++ b.e ∷ between)) y.reply
          ≡ call_met k o s h b.before b.e between again later b.place met twice ∷ []
      unfolding twice
      second-tells =
          let all = calls-are-turns n k o s h run in
          all.told b.before between later b.e again b.place met twice has-trap

      told-then : call_told (functions_at k o (front ++ turn ∷ mid)) y.reply
          ≡ Called number step.lwp step.function step.arguments ∷ []
      told-then =
          ap (λ es. call_told (functions_at k o es) y.reply) (sym entries-are) ∙ second-tells
          ∙ ap (λ c. c ∷ []) call-is

  pub steps-read : StepsAreRead k o s h
  steps-read = record {
    once = λ front mid later place id step t again is under own quiet.
        once front mid later place id step t again is under quiet own;
    alone = λ front later place id step t is under other. alone front later place id step t is under other;
    told = λ front mid later place id step t again y is under trap z.
        told-then front mid later place id step t again y is under trap z;
  }
