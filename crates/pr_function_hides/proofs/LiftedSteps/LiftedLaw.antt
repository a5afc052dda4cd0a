use Rattle.std.proofs.Common.{◌≡◌, ◌≢◌, ◌++◌, ℕ, true, false, Some, List, ◌∷◌, position, sym, ap, ◌∙◌, inl, inr}
use Rattle.std.proofs.lemmas.Bool.{cases_Bool}
use Rattle.std.proofs.lemmas.Option.{none-some}
use Rattle.std.specs.List.{All}
use Rattle.pr_line.specs.declared.options.Options.{Options}
use Rattle.pr_model.proofs.TurnLemmas.{turn-taken}
use Rattle.pr_model.specs.Legal.{IsLegalEntry, state_after}
use Rattle.pr_model.specs.LwpTurns.{LwpTurn, turn_of}
use Rattle.pr_model.specs.State.{TracedProcess, TracedState, live_process}
use Rattle.pr_model.specs.declared.events.Act.TheVariants.{Turn}
use Rattle.pr_model.specs.declared.events.Actor.TheVariants.{Lwp}
use Rattle.pr_model.specs.declared.events.Entry.{Entry}
use Rattle.pr_model.specs.declared.events.Turned.{Turned}
use Rattle.pr_truss.specs.Trusses.{traced_at}
use Rattle.pr_truss_laws.proofs.Machine.StillLemmas.{frozen-turns}
use Rattle.pr_truss_laws.specs.Exchanges.{exchanges}
use Rattle.pr_function_laws.proofs.OpenedProcesses.OpenedLaws.{still-there}
use Rattle.pr_function_laws.proofs.Pending.FrontLemmas as fronts
use Rattle.pr_function_laws.specs.FunctionTurns.{is_process}
use Rattle.pr_function_laws.specs.OneEvent.{is_looked_at}
use Rattle.pr_function_laws.specs.ReachedRuns.{IsReachedFunctionRun}
use Rattle.pr_function_laws.specs.Opened.{WasNotInterrupted, functions_at}
use Rattle.pr_function_laws.specs.ToldTurns.{AreSteppable}
use Rattle.pr_function_hides.specs.SteppedByCalls.{StepsWhatItLifted}
use Rattle.pr_function_hides.proofs.LiftedSteps.LiftedNow.{lifted-now}
use Rattle.pr_function_hides.proofs.LiftedSteps.OwnControls.{has-its-controls}
use Rattle.pr_function_hides.proofs.LiftedSteps.SinceOpened.{at-place-of}
use Rattle.pr_function_hides.proofs.LiftedSteps.SteppedLast.{stepped-now}

-- At each turn of a process, until truss is interrupted, what truss has as stepped there is what it lifted for that: a
-- process at which truss looks, or which it runs next, stands still, and has no turn.

module _ (n k : ℕ) (o : Options) (s : TracedState) (h : List Entry) (run : IsReachedFunctionRun n k o s h)
    (front later : List Entry) (pid id : ℕ) (t : Turned)
    (is : h ≡ front ++ record { actor = Lwp pid id; act = Turn t } ∷ later)
    (calm : All WasNotInterrupted (exchanges k front)) where
  abbrev e : Entry
  e = record { actor = Lwp pid id; act = Turn t }

  abbrev now : TracedState
  now = state_after s front

  pub took : (turn : LwpTurn) × (turn_of now.system pid id ≡ Some turn)
  unfolding IsLegalEntry
  took =
      let legal : IsLegalEntry n now e = fronts.legal n k o s h run.of front e later is calm in
      (record { system = legal.0; turned = t }, legal.1)

  pub lives : (p : TracedProcess) × (live_process now.system pid ≡ Some p)
  lives =
      let turn = took in
      let it = turn-taken now.system pid id turn.0 turn.1 in (it.process, it.live)

  pub moves : (q : ℕ) → is_looked_at (functions_at k o front).stage q ≡ true
      → (traced_at (functions_at k o front) q).pid ≢ pid
  moves q looked its =
      let turn = took in
      let p = lives in
      none-some turn.0
      (sym (frozen-turns now.system pid p.0 p.1
      (still-there n k o s h run front (e ∷ later) is calm q p.0 (ap (live_process now.system) its ∙ p.1)
      looked) id)
      ∙ turn.1)

  pub moves-at : (place : ℕ) → position (is_process pid) (functions_at k o front).traced ≡ Some place
      → is_looked_at (functions_at k o front).stage place ≡ false
  moves-at place at = elim (cases_Bool (is_looked_at (functions_at k o front).stage place)) [
    | inl looked ↦ absurd (moves place looked (let x = at-place-of (functions_at k o front) pid place at in x.its))
    | inr away ↦ away
  ]

pub steps-what-it-lifted : (n k : ℕ) (o : Options) (s : TracedState) (h : List Entry) → IsReachedFunctionRun n k o s h
    → AreSteppable o → StepsWhatItLifted k o s h
steps-what-it-lifted n k o s h run able = record {
  lifted = λ front later pid id place control t step xs is calm at w way.
      let p = lives n k o s h run front later pid id t is calm in
      lifted-now n k o s h run able (has-its-controls n k o s h run.of) front
      (record { actor = Lwp pid id; act = Turn t } ∷ later) is calm pid place control xs at w p.0 p.1
      (moves-at n k o s h run front later pid id t is calm place at) step way;
  stepped = λ front later pid id place control function t xs is calm at w named z.
      let p = lives n k o s h run front later pid id t is calm in
      stepped-now n k o s h run able (has-its-controls n k o s h run.of) front
      (record { actor = Lwp pid id; act = Turn t } ∷ later) is calm pid place control xs at w p.0 p.1 function z named
      (moves n k o s h run front later pid id t is calm);
}

pub ruleset lifted_steps = (steps-what-it-lifted)
