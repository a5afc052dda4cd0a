use Rattle.std.proofs.Common.{◌≡◌, ◌≢◌, ◌++◌, ℕ, Some, List, [], ◌∷◌, append-nil, append_assoc, refl, sym, subst, ap, ◌∙◌, inl, inr}
use Rattle.std.proofs.lemmas.Bool.{cases_Bool, false≢true}
use Rattle.std.proofs.lemmas.Option.{same_Some}
use Rattle.std.specs.List.{All}
use Rattle.pr_line.specs.declared.options.Options.{Options}
use Rattle.pr_model.specs.Legal.{after, state_after}
use Rattle.pr_model.specs.State.{TracedProcess, TracedState, live_process, lwp_of}
use Rattle.pr_model.specs.declared.events.Entry.{Entry}
use Rattle.pr_model.specs.declared.events.Turned.{Turned}
use Rattle.pr_report_laws.proofs.Files.WatchHistories.{cons-exchanges, exchanges-both}
use Rattle.pr_report_laws.proofs.SeenChildren.Splits.{state_after-both}
use Rattle.pr_report_laws.proofs.Watching.HistoryParts.{all-front}
use Rattle.pr_truss.specs.Trusses.{TrussState, traced_at}
use Rattle.pr_truss.specs.declared.marks.Stepped.{Stepped}
use Rattle.pr_truss.specs.declared.stages.Stage.TheVariants.{Running}
use Rattle.pr_truss_laws.specs.Exchanges.{Exchange, exchanges}
use Rattle.pr_function_laws.proofs.CallTurns.BegunSteps.{WasBegun}
use Rattle.pr_function_laws.proofs.CallTurns.OwnSteps.{begun-there}
use Rattle.pr_function_laws.proofs.CallTurns.TurnStates.{Steps}
use Rattle.pr_function_laws.proofs.CallTurns.TurnWalks.{AreNoReads}
use Rattle.pr_function_laws.specs.FunctionTurns.{is_trap}
use Rattle.pr_function_laws.specs.ReachedRuns.{IsReachedFunctionRun}
use Rattle.pr_function_laws.specs.Opened.{WasNotInterrupted, functions_at}
use Rattle.pr_function_laws.specs.ToldTurns.{AreSteppable, HasStep}
use Rattle.pr_function_laws.specs.Turns.{EndsInTrap, HasOneTurn}
use Rattle.pr_function_hides.proofs.StepsUnderWay.CallLists.{all-quiet}
use Rattle.pr_function_hides.proofs.StepsUnderWay.CallTurns.{trap-is}
use Rattle.pr_function_hides.proofs.StepsUnderWay.TrapStops.{Ready, point-trap, rests, runs}
use Rattle.pr_function_hides.proofs.StepsUnderWay.TrapTurns.{BreakpointsHold, turn_entry}
use Rattle.pr_function_hides.proofs.StepsUnderWay.UnderWay.{How, had_turn, how, is-step, its-lwp, looks_now, marks-say, ns, ns-is, steps_on, stood}
use Rattle.pr_function_hides.proofs.StepsUnderWay.UnreadTurns.{Unread, one-place}

-- How a step stands that is under way at the end of a history in which truss was not interrupted: its lwp is stepped
-- alone, or its process halts; and where it had its turn and that ended with a trace trap, the turn is unread.

module _ (n k : ℕ) (o : Options) (s : TracedState) (f : List Entry) (run : IsReachedFunctionRun n k o s f)
    (able : AreSteppable o) (facts : BreakpointsHold k o s f)
    (calm : All WasNotInterrupted (exchanges k f)) (pid : ℕ) where
  abbrev T : List Entry → TrussState
  T front = functions_at k o front

  abbrev S : List Entry → TracedState
  S front = state_after s front

  whole : f ≡ f ++ []
  whole = sym (append-nil f)

  module _ (place : ℕ) (step : Stepped) (under : HasStep k o f place step) (own : (traced_at (T f) place).pid ≡ pid)
      (p : TracedProcess) (live : live_process (S f).system pid ≡ Some p) where
    abbrev number1 : ℕ
    number1 = (traced_at (T f) place).pid

    live-own : live_process (S f).system (traced_at (T f) place).pid ≡ Some p
    live-own = ap (live_process (S f).system) own ∙ live

    b : WasBegun k o f (traced_at (T f) place).pid (traced_at (T f) place).status step
    b = begun-there n k o s f run able f [] whole place step under p live-own

    abbrev HowNow : Type 0
    HowNow = How n k o s f run able f [] whole calm number1 (traced_at (T f) place).status step b p

    abbrev pid0 : ℕ
    pid0 = let x = b in (traced_at (T x.before) x.place).pid

    abbrev lwp0 : ℕ
    lwp0 = let x = b in let m = x.meets in m.l.id

    -- ---- its turn

    module _ (before more : List Entry) (did : Turned)
        (one : HasOneTurn pid0 lwp0 before did more (let x = b in x.between)) (trap : EndsInTrap did)
        (process : TracedProcess)
        (lives : live_process (state_after (after (state_after s (let x = b in x.before)) (let x = b in x.e))
        before).system
        pid0 ≡ Some process) where
      abbrev g : List Entry
      g = let x = b in x.before ++ x.e ∷ before

      abbrev its_turn : Entry
      its_turn = turn_entry pid lwp0 did

      f-is : f ≡ g ++ its_turn ∷ more
      f-is =
          let x = b in
          x.is ∙ ap (λ es. x.before ++ x.e ∷ es) one.is
          ∙ sym (append_assoc x.before (x.e ∷ before) (turn_entry pid0 lwp0 did ∷ more))
          ∙ ap (λ i. g ++ turn_entry i lwp0 did ∷ more) (x.its_pid ∙ own)

      calm-g : All WasNotInterrupted (exchanges k g)
      calm-g =
          all-front WasNotInterrupted (exchanges k g) (exchanges k (its_turn ∷ more))
          (subst (All WasNotInterrupted) (ap (exchanges k) f-is ∙ exchanges-both k g (its_turn ∷ more)) calm)

      quiet-two : (i : ℕ) → (let x = b in (traced_at (T x.before) x.place).status ≡ Some i)
          → AreNoReads i (exchanges k before ++ exchanges k more)
      quiet-two i there =
          let x = b in
          subst (AreNoReads i)
          (ap (exchanges k) one.is ∙ exchanges-both k before (turn_entry pid0 lwp0 did ∷ more)
          ∙ ap (λ xs. exchanges k before ++ xs) (cons-exchanges k (turn_entry pid0 lwp0 did) more)) (x.quiet i there)

      begun-g : WasBegun k o g number1 (traced_at (T f) place).status step
      begun-g =
          let x = b in
          record {
            before = x.before;
            e = x.e;
            between = before;
            is = refl;
            place = x.place;
            x = x.x;
            own = x.own;
            meets = x.meets;
            its_pid = x.its_pid;
            its_status = x.its_status;
            its_step = x.its_step;
            quiet = λ i there. quiet-front i (exchanges k before) (exchanges k more) (quiet-two i there);
          }
        where
          quiet-front : (i : ℕ) (xs ys : List Exchange) → AreNoReads i (xs ++ ys) → AreNoReads i xs
          quiet-front i [] ys quiet = tt
          quiet-front i (z ∷ xs) ys quiet = (quiet.0, quiet-front i xs ys quiet.1)

      quiet-rest : (i : ℕ) (xs ys : List Exchange) → AreNoReads i (xs ++ ys) → AreNoReads i ys
      quiet-rest i [] ys quiet = quiet
      quiet-rest i (z ∷ xs) ys quiet = quiet-rest i xs ys quiet.1

      unread-turn : Unread n k o s f run able facts calm pid f
      unfolding begun-g
      unread-turn =
          let x = b in
          let u =
          marks-say n k o s f run able g (its_turn ∷ more) f-is calm-g number1
          (traced_at (T f) place).status step begun-g process
          (ap (live_process (S g).system) (sym x.its_pid)
          ∙ ap (λ (v : TracedState). live_process v.system pid0) (state_after-both s x.before (x.e ∷ before)) ∙ lives)
          in
          let file : ℕ =
          ns n k o s f run able g (its_turn ∷ more) f-is calm-g number1 (traced_at (T f) place).status
          step
          begun-g in
          let file_is : (traced_at (T x.before) x.place).status ≡ Some file =
          ns-is n k o s f run able g (its_turn ∷ more) f-is calm-g number1 (traced_at (T f) place).status
          step begun-g in
          record {
            front = g;
            id = lwp0;
            turned = did;
            mid = more;
            is = f-is;
            place = u.place;
            step = step;
            under = u.under;
            own = u.own ∙ own;
            trapped = trap;
            number = file;
            file = u.file ∙ file_is;
            quiet =
                all-quiet file (exchanges k more)
                (quiet-rest file (exchanges k before) (exchanges k more) (quiet-two file file_is));
          }

    -- ---- no turn is unread

    lwp-is : lwp0 ≡ step.lwp
    lwp-is =
        its-lwp n k o s f run able f [] whole calm number1 (traced_at (T f) place).status step b

    pub ready-there : ((q : ℕ) → (functions_at k o f).stage ≢ Running q)
        → (Unread n k o s f run able facts calm pid f → ⊥)
        → ((traced_at (functions_at k o f) place).old ≡ 0) × Ready o step p
    ready-there still never = (old, by now-so)
      where
        old : (traced_at (T f) place).old ≡ 0
        old =
            let u =
            marks-say n k o s f run able f [] whole calm number1 (traced_at (T f) place).status step b p
            live-own in
            let its = u.under in
            let at : place ≡ u.place =
            one-place n k o s f run able facts calm pid f [] whole place u.place under.within its.within
            (sym u.own) in
            ap (λ i. (traced_at (T f) i).old) at ∙ u.new

        now-so : HowNow
        now-so = how n k o s f run able f [] whole calm number1 (traced_at (T f) place).status step b p
            live-own

        by : HowNow → Ready o step p
        by (looks_now q at) = absurd (still q at)
        by (steps_on st) =
            runs (stood n k o s f run able f [] whole calm number1 (traced_at (T f) place).status step b)
            (is-step n k o s f run able f [] whole calm number1 (traced_at (T f) place).status step b)
            (subst (λ i. Steps i (stood n k o s f run able f [] whole calm number1
            (traced_at (T f) place).status step b) p) lwp-is st)
        by (had_turn before more did point one turn had) = elim (cases_Bool (is_trap did.did)) [
          | inl it ↦ absurd (never (unread-turn before more did one (trap-is did.did it) turn.process turn.live))
          | inr not ↦
              rests had.halting (λ l there stops.
              false≢true (sym not ∙ ap is_trap (turn.did
              ∙ point-trap point (same_Some _ _
              (sym (had.own l (subst (λ i. lwp_of p i ≡ Some l) (sym lwp-is) there)) ∙ stops)))))
        ]
