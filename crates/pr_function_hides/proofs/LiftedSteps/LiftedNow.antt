use Rattle.std.proofs.Common.{◌≡◌, ◌<◌, ◌++◌, ℕ, true, false, Some, List, ◌∷◌, position, append_assoc, sym, subst, ap, ◌∙◌, inl, inr}
use Rattle.std.proofs.lemmas.Bool.{cases_Bool, eq-eqb, false≢true}
use Rattle.std.proofs.lemmas.List.Elements.{All-weaker}
use Rattle.std.proofs.lemmas.Option.{none-some, same_Some}
use Rattle.std.specs.List.{All}
use Rattle.pr_line.specs.Functions.{function_limit}
use Rattle.pr_line.specs.declared.options.Options.{Options}
use Rattle.pr_model.specs.Legal.{state_after}
use Rattle.pr_model.specs.State.{TracedProcess, TracedState, live_process}
use Rattle.pr_model.specs.declared.events.Entry.{Entry}
use Rattle.pr_num.specs.declared.messages.Message.TheVariants as message
use Rattle.pr_truss.specs.Asides.{marks_at}
use Rattle.pr_truss.specs.FunctionCalls.{lift_call}
use Rattle.pr_truss.specs.FunctionFeeding.{fed_functions}
use Rattle.pr_truss.specs.Messages.{message_call}
use Rattle.pr_truss.specs.Trusses.{TrussState, traced_at}
use Rattle.pr_truss.specs.declared.marks.Stepped.{Stepped}
use Rattle.pr_truss.specs.declared.processes.Traced.{Traced}
use Rattle.pr_truss_laws.specs.Exchanges.{Exchange, exchanges}
use Rattle.pr_function_laws.proofs.CallTurns.BegunSteps.{WasBegun}
use Rattle.pr_function_laws.proofs.CallTurns.OwnSteps.{begun-there}
use Rattle.pr_function_laws.proofs.Marks.LiftLemmas.{met_at, step_flags}
use Rattle.pr_function_laws.specs.FunctionTurns.{is_process}
use Rattle.pr_function_laws.specs.OneEvent.{is_looked_at}
use Rattle.pr_function_laws.specs.ReachedRuns.{IsReachedFunctionRun}
use Rattle.pr_function_laws.specs.Opened.{WasNotInterrupted, functions_at, is_opened}
use Rattle.pr_function_laws.specs.PlantedByCalls.{IsSinceOpened, LeavesCodeAlone}
use Rattle.pr_function_hides.specs.SteppedByCalls.{IsLiftedForStep}
use Rattle.pr_function_laws.specs.Stretches.{acts_by}
use Rattle.pr_function_laws.specs.ToldTurns.{AreSteppable, HasStep}
use Rattle.pr_function_hides.proofs.LiftedSteps.BegunLifts.{HowFar, has_run, how-far, looks_yet, number}
use Rattle.pr_function_hides.proofs.LiftedSteps.LiftCalls.{GoesElse, WasRun}
use Rattle.pr_function_hides.proofs.LiftedSteps.SinceOpened.{HasItsControls, IsAtPlace, OpensBefore, at-place-of, control-is, split}
use Rattle.pr_function_hides.proofs.StepsUnderWay.ClosedSteps.{closed-unstepped}
use Rattle.pr_function_hides.proofs.StepsUnderWay.UnderWay.{apart-here, its-few, its-function, place-of}

-- Where truss neither looks at a process nor runs it next, the breakpoint of the step that is under way there was
-- lifted for it: so its calls say, from the open of the control file on. This is so until truss is interrupted.

module _ (n k : ℕ) (o : Options) (s : TracedState) (h : List Entry) (run : IsReachedFunctionRun n k o s h)
    (able : AreSteppable o) (controls : HasItsControls k o h)
    (front later : List Entry) (is : h ≡ front ++ later) (calm : All WasNotInterrupted (exchanges k front))
    (pid place control : ℕ) (xs : List Exchange)
    (at : position (is_process pid) (functions_at k o front).traced ≡ Some place)
    (w : IsSinceOpened k pid front control xs) (p : TracedProcess)
    (live : live_process (state_after s front).system pid ≡ Some p)
    (away : is_looked_at (functions_at k o front).stage place ≡ false) (step : Stepped)
    (under_way : (marks_at (functions_at k o front) place).stepped ≡ Some step) where
  abbrev t : TrussState
  t = functions_at k o front

  here : IsAtPlace t pid place
  here = at-place-of t pid place at

  live-there : live_process (state_after s front).system (traced_at t place).pid ≡ Some p
  live-there = let x = here in ap (live_process (state_after s front).system) x.its ∙ live

  opened : is_opened t.stage place ≡ true
  opened = elim (cases_Bool (is_opened t.stage place)) [
    | inl so ↦ so
    | inr not ↦ absurd
        (none-some step
        (sym (closed-unstepped n k o s h run front later is calm place p
        (let x = here in x.within) live-there not) ∙ under_way))
  ]

  under : HasStep k o front place step
  under = let x = here in record { calm = calm; within = x.within; opened = opened; under_way = under_way }

  -- where it was begun
  b : WasBegun k o front pid (traced_at t place).status step
  b =
      let x = here in
      subst (λ i. WasBegun k o front i (traced_at t place).status step) x.its
      (begun-there n k o s h run able front later is place step under p live-there)

  abbrev t0 : TrussState
  t0 = let x = b in functions_at k o x.before

  abbrev c0 : ℕ
  c0 = let x = b in (traced_at t0 x.place).control

  abbrev f0 : ℕ
  f0 = let x = b in let m = x.meets in m.function

  abbrev met0 : Traced
  met0 = let x = b in let m = x.meets in met_at t0 x.place m.l m.function

  abbrev number0 : ℕ
  number0 =
      number n k o s h run able front later is calm pid (traced_at t place).status step b

  abbrev place0 : ℕ
  place0 = let x = b in x.place

  abbrev since0 : List Exchange
  since0 = let x = b in exchanges k x.between

  abbrev Ran : Type 0
  Ran = WasRun c0 number0 met0 place0 o f0 since0 (let x = b in let y = x.x in fed_functions t0 y.reply)

  module _ (r : Ran) where
    parts : (let x = b in OpensBefore (exchanges k x.before) since0 w.earlier w.since x.x w.first)
    parts =
        split n k o s h run able controls front later is calm pid control xs w
        (traced_at t place).status step b r.none

    its-control : control ≡ c0
    its-control =
        control-is n k o s h run able controls front later is calm pid control xs w
        (traced_at t place).status step b r.none

    function-is : f0 ≡ step.function
    function-is =
        its-function n k o s h run able front later is calm pid (traced_at t place).status step b

    ran-lifted : IsLiftedForStep o control step.function xs
    ran-lifted =
        let y = parts in
        let x = b in
        record {
          before = w.first ∷ (y.mid ++ x.x ∷ r.before);
          x = r.x;
          run = r.run;
          after = r.after;
          is = w.begins
              ∙ ap (λ (ys : List Exchange). w.first ∷ ys)
              (y.since ∙ ap (λ (ys : List Exchange). y.mid ++ x.x ∷ ys) r.is
              ∙ sym (append_assoc y.mid (x.x ∷ r.before) (r.x ∷ (r.run ∷ r.after))));
          lifts = r.lifts ∙ ap (λ m. lift_call o m f0) (sym its-control) ∙ ap (lift_call o control) function-is;
          runs = r.runs ∙ ap (λ m. message_call m (message.Run step_flags)) (sym its-control);
          stays =
              All-weaker (GoesElse c0 number0 met0 place0) (LeavesCodeAlone o control step.function)
              (λ z goes. record {
                plants_not = λ same. goes.acts_not (ap acts_by same ∙ ap (λ m. Some m) its-control);
                lifts_not = λ same. goes.acts_not (ap acts_by same ∙ ap (λ m. Some m) its-control);
              })
              r.after r.each;
        }

  -- the function of the step is one of those of which the marks can say that they are planted
  pub few-now : step.function < function_limit
  few-now =
      subst (λ i. i < function_limit)
      (its-function n k o s h run able front later is calm pid (traced_at t place).status step b)
      (its-few n k o s h run able front later is calm pid (traced_at t place).status step b)

  pub lifted-now : IsLiftedForStep o control step.function xs
  lifted-now =
      by (how-far n k o s h run able front later is calm pid (traced_at t place).status step b p live)
    where
      by : HowFar n k o s h run able front later is calm pid (traced_at t place).status step b
          → IsLiftedForStep o control step.function xs
      by (has_run r) = ran-lifted r
      by (looks_yet stage its within none opens) =
          let at_it : position (is_process pid) t.traced ≡ Some place0 =
          place-of pid t.traced place0 (apart-here n k o s h run.of front later is calm) within its in
          absurd (false≢true
          (sym away
          ∙ ap (λ st. is_looked_at st place) stage ∙ eq-eqb place0 place (same_Some place0 place (sym at_it ∙ at))))
