use Rattle.std.proofs.Common.{◌≡◌, ◌++◌, ℕ, Option, Some, List, [], ◌∷◌, position, append_assoc, refl, sym, subst, ap, ◌∙◌}
use Rattle.std.proofs.lemmas.List.Elements.{All-head}
use Rattle.std.proofs.lemmas.Option.{same_Some}
use Rattle.std.specs.List.{All, cons_option, slice_get}
use Rattle.pr_line.specs.declared.options.Options.{Options}
use Rattle.pr_model.specs.Legal.{state_after}
use Rattle.pr_model.specs.State.{TracedProcess, TracedState, live_process}
use Rattle.pr_model.specs.declared.events.Entry.{Entry}
use Rattle.pr_num.specs.declared.messages.Message.TheVariants as message
use Rattle.pr_report_laws.proofs.Files.WatchHistories.{cons-exchanges, exchanges-both, no-exchanges}
use Rattle.pr_report_laws.proofs.Watching.HistoryParts.{all-front, all-rest}
use Rattle.pr_truss.specs.FunctionCalls.{lift_call}
use Rattle.pr_truss.specs.FunctionEvents.{begins_at}
use Rattle.pr_truss.specs.Messages.{message_call}
use Rattle.pr_truss.specs.NextCalls.{read_record}
use Rattle.pr_truss.specs.Trusses.{traced_at}
use Rattle.pr_truss.specs.declared.marks.Stepped.{Stepped}
use Rattle.pr_truss_laws.specs.Exchanges.{Exchange, exchanges}
use Rattle.pr_function_laws.proofs.CallTurns.BegunSteps.{WasBegun, each-found}
use Rattle.pr_function_laws.proofs.CallTurns.TurnWalks.{AreNoReads}
use Rattle.pr_function_laws.proofs.Marks.LiftLemmas.{step_flags}
use Rattle.pr_function_laws.specs.FunctionTurns.{is_process}
use Rattle.pr_function_laws.specs.ReachedRuns.{IsReachedFunctionRun}
use Rattle.pr_function_laws.specs.Opened.{WasNotInterrupted, functions_at}
use Rattle.pr_function_laws.specs.Steppable.{IsSteppable}
use Rattle.pr_function_laws.specs.Stretches.{acts_by}
use Rattle.pr_function_laws.specs.ToldTurns.{AreSteppable}
use Rattle.pr_function_laws.specs.PlantedByCalls.{IsFirstNamed, IsSinceOpened}
use Rattle.pr_function_hides.specs.SteppedByCalls.{IsLiftedForStep}
use Rattle.pr_function_hides.proofs.LiftedSteps.BegunLifts as lifts
use Rattle.pr_function_hides.proofs.LiftedSteps.BegunLifts.{HowFar, has_run, how-far, looks_yet}
use Rattle.pr_function_hides.proofs.LiftedSteps.LiftCalls.{OpensNone, last-acts, last-runs}
use Rattle.pr_function_hides.proofs.LiftedSteps.SinceOpened.{HasItsControls, control-is}
use Rattle.pr_function_hides.proofs.LiftedSteps.SteppedFunctions.{LastRun, is_behind, is_run, last-run, last-same, lift-same}
use Rattle.pr_function_hides.proofs.LiftedSteps.SteppedNow as ran
use Rattle.pr_function_hides.proofs.LiftedSteps.SteppedNow.{going}
use Rattle.pr_function_hides.proofs.StepsUnderWay.UnderWay.{found, its-function, options-then}

-- The step that truss began before it ran a process is the one over the function that it had lifted.

module _ (n k : ℕ) (o : Options) (s : TracedState) (h : List Entry) (run : IsReachedFunctionRun n k o s h)
    (able : AreSteppable o) (controls : HasItsControls k o h)
    (front later : List Entry) (is : h ≡ front ++ later) (calm : All WasNotInterrupted (exchanges k front))
    (pid place control : ℕ) (xs : List Exchange)
    (at : position (is_process pid) (functions_at k o front).traced ≡ Some place)
    (w : IsSinceOpened k pid front control xs) (p : TracedProcess)
    (live : live_process (state_after s front).system pid ≡ Some p) (function : ℕ)
    (z : IsLiftedForStep o control function xs) (named : IsFirstNamed o function) where
  abbrev fr : List Entry
  fr =
      ran.fr n k o s h run able controls front later is calm pid place control xs at w p live function z

  abbrev er : Entry
  er =
      ran.er n k o s h run able controls front later is calm pid place control xs at w p live function z

  abbrev fv : List Entry
  fv =
      ran.fv n k o s h run able controls front later is calm pid place control xs at w p live function z

  abbrev step : Stepped
  step =
      ran.step n k o s h run able controls front later is calm pid place control xs at w p live function z

  abbrev status : Option ℕ
  status =
      ran.status n k o s h run able controls front later is calm pid place control xs at w p live function
      z

  abbrev b : WasBegun k o fr pid status step
  b =
      ran.begun n k o s h run able controls front later is calm pid place control xs at w p live function
      z

  whole : h ≡ fr ++ er ∷ (fv ++ later)
  whole =
      ran.whole n k o s h run able controls front later is calm pid place control xs at w p live function
      z

  front-is : front ≡ fr ++ er ∷ fv
  front-is =
      ran.front-is n k o s h run able controls front later is calm pid place control xs at w p live
      function z

  since-are : exchanges k (er ∷ fv) ≡ z.run ∷ z.after
  since-are =
      ran.since-are n k o s h run able controls front later is calm pid place control xs at w p live
      function z

  calm-run : All WasNotInterrupted (exchanges k fr)
  calm-run =
      ran.calm-run n k o s h run able controls front later is calm pid place control xs at w p live
      function
      z

  -- ---- the run

  next-is : h ≡ (fr ++ er ∷ []) ++ (fv ++ later)
  next-is = whole ∙ sym (append_assoc fr (er ∷ []) (fv ++ later))

  front-next : front ≡ (fr ++ er ∷ []) ++ fv
  front-next = front-is ∙ sym (append_assoc fr (er ∷ []) fv)

  run-is : exchanges k (er ∷ []) ≡ z.run ∷ []
  run-is =
      cons-exchanges k er []
      ∙ ap (λ x. cons_option x (exchanges k []))
      (ran.own-run n k o s h run able controls front later is calm pid place control xs at w p live
      function z)
      ∙ ap (λ (ys : List Exchange). z.run ∷ ys) (no-exchanges k)

  calm-next : All WasNotInterrupted (exchanges k (fr ++ er ∷ []))
  calm-next =
      all-front WasNotInterrupted (exchanges k (fr ++ er ∷ [])) (exchanges k fv)
      (subst (All WasNotInterrupted) (ap (exchanges k) front-next ∙ exchanges-both k (fr ++ er ∷ []) fv) calm)

  calm-of-run : WasNotInterrupted z.run
  calm-of-run =
      All-head WasNotInterrupted z.run []
      (subst (All WasNotInterrupted) run-is
      (all-rest WasNotInterrupted (exchanges k fr) (exchanges k (er ∷ []))
      (subst (All WasNotInterrupted) (exchanges-both k fr (er ∷ [])) calm-next)))

  run-quiet : (m : ℕ) → AreNoReads m (exchanges k (er ∷ []))
  run-quiet m =
      subst (AreNoReads m) (sym run-is) (
        (record {
          no_read = λ same. clash m (sym z.runs ∙ same);
          no_interrupt = let c = calm-of-run in c.unbroken;
        }),
        tt,
      )
    where
      clash : (m : ℕ) → message_call control (message.Run step_flags) ≡ read_record (Some m) → ⊥
      clash m both = cc

  abbrev b1 : WasBegun k o (fr ++ er ∷ []) pid status step
  b1 =
      ran.going n k o s h run able controls front later is calm pid place control xs at w p live function
      z
      (er ∷ []) (λ m there. run-quiet m)

  p1 : (y : TracedProcess) × (live_process (state_after s (fr ++ er ∷ [])).system pid ≡ Some y)
  p1 = ran.live-since n k o s h run able controls front later is calm pid place control xs at w p live
      function z (er ∷ []) fv refl

  abbrev Far : Type 0
  Far = HowFar n k o s h run able (fr ++ er ∷ []) (fv ++ later) next-is calm-next pid status step b1

  far : Far
  far =
      how-far n k o s h run able (fr ++ er ∷ []) (fv ++ later) next-is calm-next pid status step b1 p1.0
      p1.1

  between-is : exchanges k b1.between ≡ exchanges k b.between ++ z.run ∷ []
  unfolding going
  between-is = exchanges-both k b.between (er ∷ []) ∙ ap (λ (ys : List Exchange). exchanges k b.between ++ ys) run-is

  none-opened : Far → All OpensNone (exchanges k b.between)
  none-opened (looks_yet stage its within runs opens) =
      all-front OpensNone (exchanges k b.between) (z.run ∷ []) (subst (All OpensNone) between-is opens)
  none-opened (has_run r) =
      all-front OpensNone (exchanges k b.between) (z.run ∷ []) (subst (All OpensNone) between-is r.none)

  -- its control file
  its-control : control ≡ (traced_at (functions_at k o b.before) b.place).control
  its-control =
      control-is n k o s h run able controls fr (er ∷ (fv ++ later)) whole calm-run pid control
      (z.before ++ z.x ∷ [])
      (ran.since-run n k o s h run able controls front later is calm pid place control xs at w p live
      function z)
      status step b (none-opened far)

  abbrev f0 : ℕ
  f0 = let m = b.meets in m.function

  -- the lift before the run is that of the step
  lift-is : exchanges k fr ≡ (w.earlier ++ z.before) ++ z.x ∷ []
  lift-is =
      let y = ran.entry n k o s h run able controls front later is calm pid place control xs at w p live
      function z in
      y.earlier ∙ sym (append_assoc w.earlier z.before (z.x ∷ []))

  abbrev Lifts : Type 0
  Lifts = lift_call o control function ≡ lift_call o (traced_at (functions_at k o b.before) b.place).control f0

  same-lift : Far → Lifts
  unfolding going
  same-lift (looks_yet stage its within runs opens) =
      absurd (last-runs (exchanges k b1.between) (exchanges k b.between) z.run between-is runs
      (z.runs ∙ ap (λ m. message_call m (message.Run step_flags)) its-control))
  same-lift (has_run r) =
      by (last-run (exchanges k b.between) r.before r.after z.run r.x r.run (sym between-is ∙ r.is))
    where
      by : LastRun (exchanges k b.between) r.before r.after z.run r.x → Lifts
      by (is_behind ms parts) =
          absurd (last-acts r.after ms z.run parts r.each (ap acts_by z.runs ∙ ap (λ m. Some m) its-control))
      by (is_run parts) =
          sym z.lifts
          ∙ ap (λ (y : Exchange). y.call)
          (last-same (w.earlier ++ z.before) (exchanges k b.before ++ b.x ∷ r.before) z.x r.x
          (sym lift-is
          ∙ lifts.exchanges-are n k o s h run able fr (er ∷ (fv ++ later)) whole calm-run pid status step
          b
          ∙ ap (λ (ys : List Exchange). exchanges k b.before ++ b.x ∷ ys) parts
          ∙ sym (append_assoc (exchanges k b.before) (b.x ∷ r.before) (r.x ∷ []))))
          ∙ r.lifts

  pub over-it : step.function ≡ function
  over-it =
      let g =
      found n k o s h run able fr (er ∷ (fv ++ later)) whole calm-run pid status step b in
      let opts =
      options-then n k o s h run able fr (er ∷ (fv ++ later)) whole calm-run pid status step b in
      let g_named : slice_get o.functions f0 ≡ Some g.f =
      ap (λ (y : Options). slice_get y.functions f0) (sym opts) ∙ g.named in
      let same_at : (let x = named in x.f.at) ≡ g.f.at =
      lift-same o control (traced_at (functions_at k o b.before) b.place).control function f0 named.f g.f named.named
      g_named (each-found IsSteppable o.functions function named.f able.each named.named)
      (each-found IsSteppable o.functions f0 g.f able.each g_named) (same-lift far) in
      sym
      (same_Some function f0
      (sym named.first
      ∙ ap (λ a. position (begins_at a) o.functions) same_at
      ∙ ap (λ (y : Options). position (begins_at g.f.at) y.functions) (sym opts) ∙ g.first)
      ∙ its-function n k o s h run able fr (er ∷ (fv ++ later)) whole calm-run pid status step b)
