use Rattle.std.proofs.Common.{◌≡◌, ◌⊎◌, ◌++◌, ℕ, Bool, true, cond, Option, Some, None, List, [], ◌∷◌, position, sym, subst, ap, ◌∙◌, refl, arith, inl, inr}
use Rattle.std.proofs.lemmas.Option.{same_Some}
use Rattle.std.specs.List.{All}
use Rattle.std.specs.Option.{option_and_then}
use Rattle.pr_line.specs.declared.options.Options.{Options}
use Rattle.pr_model.proofs.TurnLemmas.{TakesTurn, turn-taken}
use Rattle.pr_model.specs.Legal.{state_after}
use Rattle.pr_model.specs.Registers.{pc_of}
use Rattle.pr_model.specs.State.{TracedLwp, TracedProcess, TracedState, live_process, lwp_of}
use Rattle.pr_model.specs.declared.events.Act.TheVariants.{Turn}
use Rattle.pr_model.specs.declared.events.Actor.TheVariants.{Lwp}
use Rattle.pr_model.specs.declared.events.Entry.{Entry}
use Rattle.pr_model.specs.declared.events.Turned.{Turned}
use Rattle.pr_truss.specs.Asides.{marks_at}
use Rattle.pr_truss.specs.FunctionEvents.{begins_at, function_at, if_standing}
use Rattle.pr_truss.specs.Marks.{has_function, standing, with_function, with_step}
use Rattle.pr_truss.specs.Trusses.{TrussState, traced_at}
use Rattle.pr_truss.specs.declared.marks.Stepped.{Stepped}
use Rattle.pr_truss.specs.declared.reports.Report.{Report}
use Rattle.pr_truss.specs.declared.reports.Report.TheVariants.{Called}
use Rattle.pr_truss_laws.specs.Exchanges.{Exchange, exchanges}
use Rattle.pr_function_laws.proofs.Marks.MetLemmas.{found-function}
use Rattle.pr_function_laws.proofs.NextCalls.TreatedLaws.{options-at}
use Rattle.pr_function_laws.proofs.PlantedCalls.PlantedHolds.{marks-planted}
use Rattle.pr_function_laws.specs.FunctionTurns.{call_at, call_of_turn, is_in_program, is_process}
use Rattle.pr_function_laws.specs.ReachedRuns.{IsReachedFunctionRun}
use Rattle.pr_function_laws.specs.Opened.{WasNotInterrupted, functions_at}
use Rattle.pr_function_laws.specs.PlantedByCalls.{IsFirstNamed, IsNoBreakpoint, IsSinceOpened, MarksWhatItPlanted, WasPlanted, WasToldReplaced}
use Rattle.pr_function_laws.specs.ToldTurns.{AreSteppable}
use Rattle.pr_function_laws.specs.Turns.{EndsInTrap, first_arguments}
use Rattle.pr_function_hides.specs.SteppedByCalls.{IsLiftedForStep, HasAsStepped, StepsWhatItLifted}
use Rattle.pr_function_hides.specs.ToldCalls.{IsCallByCalls, TellsItsCallsByCalls}
use Rattle.pr_function_hides.proofs.LiftedSteps.LiftedLaw.{moves-at, steps-what-it-lifted, took}
use Rattle.pr_function_hides.proofs.LiftedSteps.LiftedNow.{few-now}
use Rattle.pr_function_hides.proofs.LiftedSteps.OwnControls.{has-its-controls}
use Rattle.pr_function_hides.proofs.LiftedSteps.SinceOpened.{IsAtPlace, at-place-of}
use Rattle.pr_function_hides.proofs.Replies.FunctionSets.{has-own, has-with, with-keeps}
use Rattle.pr_function_hides.proofs.StepsUnderWay.CallTurns.{MeetsFunction, at-place, what-call}
use Rattle.pr_function_hides.proofs.StepsUnderWay.LongMarks.{planted-long}

-- Which turns are calls of functions: what counts as planted is what is planted by calls, and what is lifted for a
-- step.

same-report : {x y : Report} → x ∷ [] ≡ y ∷ [] → x ≡ y
same-report is = cc

none-not : {x : Report} → (let xs : List Report = [] in xs) ≡ x ∷ [] → ⊥
none-not is = cc

module _ (n k : ℕ) (o : Options) (s : TracedState) (h : List Entry) (run : IsReachedFunctionRun n k o s h)
    (able : AreSteppable o) (others : All IsNoBreakpoint o.functions)
    (front later : List Entry) (pid id place control : ℕ) (turned : Turned) (xs : List Exchange)
    (is : h ≡ front ++ record { actor = Lwp pid id; act = Turn turned } ∷ later)
    (calm : All WasNotInterrupted (exchanges k front))
    (at : position (is_process pid) (functions_at k o front).traced ≡ Some place)
    (since : IsSinceOpened k pid front control xs) where
  abbrev t : TrussState
  t = functions_at k o front

  abbrev now : TracedState
  now = state_after s front

  abbrev e : Entry
  e = record { actor = Lwp pid id; act = Turn turned }

  abbrev its_call : List Report
  its_call = call_of_turn t now pid (Lwp pid id) (Turn turned)

  here : IsAtPlace t pid place
  here = at-place-of t pid place at

  marks : MarksWhatItPlanted k o s h
  marks = marks-planted n k o s h run.of able others

  steps : StepsWhatItLifted k o s h
  steps = steps-what-it-lifted n k o s h run able

  its-turn : TakesTurn now.system pid id
      (let x = took n k o s h run front later pid id turned is calm in x.0)
  its-turn =
      let x = took n k o s h run front later pid id turned is calm in
      turn-taken now.system pid id x.0 x.1

  abbrev p : TracedProcess
  p = let x = its-turn in x.process

  abbrev l : TracedLwp
  l = let x = its-turn in x.lwp

  live : live_process now.system pid ≡ Some p
  live = let x = its-turn in x.live

  there : lwp_of p id ≡ Some l
  there = let x = its-turn in x.there

  options-is : t.options ≡ o
  options-is = options-at o (exchanges k front)

  options-at-pc : (pc : ℕ)
      → position (begins_at pc) t.options.functions ≡ position (begins_at pc) o.functions
  options-at-pc pc = ap (λ (opts : Options). position (begins_at pc) opts.functions) options-is

  -- ---- what counts as planted

  abbrev planted : List Bool
  planted = (marks_at t place).planted

  abbrev Counts : ℕ → Type 0
  Counts function = WasPlanted o control function xs ⊎ IsLiftedForStep o control function xs

  counts-so : (function : ℕ) → has_function (standing (marks_at t place)) function ≡ true → Counts function
  unfolding standing
  counts-so function has = by (marks_at t place).stepped refl
    where
      of-planted : has_function planted function ≡ true → Counts function
      of-planted own =
          let m = marks in
          let both = m.marked front (e ∷ later) pid place control function xs is at since own in
          inl both.1

      by : (so : Option Stepped) → (marks_at t place).stepped ≡ so → Counts function
      by None none = of-planted (subst (λ st. has_function (with_step st planted) function ≡ true) none has)
      by (Some step) way =
          elim (has-with planted step.function function
          (subst (λ st. has_function (with_step st planted) function ≡ true) way has)) [
            | inl same ↦ inr
                (subst (λ i. IsLiftedForStep o control i xs) (sym same)
                (let x = steps in
                x.lifted front later pid id place control turned step xs is calm at since way))
            | inr own ↦ of-planted own
          ]

  stands-planted : (function : ℕ) → has_function planted function ≡ true
      → has_function (standing (marks_at t place)) function ≡ true
  unfolding standing
  stands-planted function own = by (marks_at t place).stepped
    where
      by : (so : Option Stepped) → has_function (with_step so planted) function ≡ true
      by None = own
      by (Some step) = with-keeps planted step.function function own

  stands-stepped : (function : ℕ) → HasAsStepped k o front place function
      → has_function (standing (marks_at t place)) function ≡ true
  unfolding standing
  stands-stepped function y =
      ap (λ st. has_function (with_step st planted) function) y.under_way
      ∙ subst (λ i. has_function (with_function planted (let z : Stepped = y.step in z.function)) i ≡ true) y.over
      (has-own planted (let z : Stepped = y.step in z.function)
      (omega (
        arith,
        few-now n k o s h run able (has-its-controls n k o s h run.of) front (e ∷ later) is calm pid place
            control xs at since p live (moves-at n k o s h run front later pid id turned is calm place at)
            y.step y.under_way,
        planted-long n k o s h run front (e ∷ later) is place (let x = here in x.within),
      )))

  -- ---- the call

  call-met : (lwp : TracedLwp) → lwp_of p id ≡ Some lwp → EndsInTrap turned → is_in_program lwp.phase ≡ true
      → (function : ℕ) → position (begins_at (pc_of lwp.regs)) o.functions ≡ Some function
      → has_function (standing (marks_at t place)) function ≡ true
      → call_of_turn t now pid (Lwp pid id) (Turn turned) ≡ Called pid id function (first_arguments lwp.regs) ∷ []
  unfolding function_at
  call-met lwp its trap program function found stands =
      at-place t now pid id turned p lwp live its place at trap
      ∙ ap
      (λ b. call_at (traced_at t place).pid id lwp
      (cond {A = Option ℕ} b (function_at t.options (marks_at t place) (pc_of lwp.regs)) None)) program
      ∙ ap (call_at (traced_at t place).pid id lwp)
      (ap (option_and_then (if_standing (marks_at t place))) (options-at-pc (pc_of lwp.regs) ∙ found)
      ∙ ap (λ b. cond b (Some function) None) stands)
      ∙ ap (λ i. Called i id function (first_arguments lwp.regs) ∷ []) (let x = here in x.its)

  module _ (report : Report) where
    abbrev Tells : Type 0
    Tells = IsCallByCalls o now control xs pid id turned report

    pub tells-so : its_call ≡ report ∷ [] → Tells
    tells-so is_call = elim (what-call t now pid id turned p l live there) [
      | inl none ↦ absurd (none-not (sym none ∙ is_call))
      | inr m ↦ met m
    ]
      where
        met : MeetsFunction t now pid id turned p l live there → Tells
        met m =
            let found : position (begins_at (pc_of l.regs)) o.functions ≡ Some m.function =
            sym (options-at-pc (pc_of l.regs)) ∙ m.found in
            let stands : has_function (standing (marks_at t place)) m.function ≡ true =
            subst (λ q. has_function (standing (marks_at t q)) m.function ≡ true)
            (same_Some m.place place (sym m.at ∙ at)) m.stands in
            let program : is_in_program l.phase ≡ true = ap is_in_program m.in_program in
            record {
              traps = m.trap;
              l = l;
              there = ap (option_and_then (λ (x : TracedProcess). lwp_of x id)) live ∙ there;
              in_program = program;
              function = m.function;
              at = found;
              counts = counts-so m.function stands;
              is = same-report (sym is_call ∙ call-met l there m.trap program m.function found stands);
            }

    pub told-so : Tells → (its_call ≡ report ∷ []) ⊎ WasToldReplaced k pid s front
    told-so z = elim z.counts [
      | inl was ↦ elim (let m = marks in
          m.planted front (e ∷ later) pid place control z.function xs is at since named was) [
            | inl own ↦ inl (so (stands-planted z.function own))
            | inr told ↦ inr told
          ]
      | inr lifted ↦ inl (so (stands-stepped z.function
          (let x = steps in
          x.stepped front later pid id place control z.function turned xs is calm at since named lifted)))
    ]
      where
        named : IsFirstNamed o z.function
        named =
            let f = found-function o (pc_of (let lwp : TracedLwp = z.l in lwp.regs)) z.function z.at in
            record {
              f = f.0;
              named = f.1.0;
              first = ap (λ a. position (begins_at a) o.functions) f.1.1 ∙ z.at;
            }

        so : has_function (standing (marks_at t place)) z.function ≡ true → its_call ≡ report ∷ []
        so stands =
            call-met z.l (sym (ap (option_and_then (λ (x : TracedProcess). lwp_of x id)) live) ∙ z.there) z.traps
            z.in_program z.function z.at stands
            ∙ ap (λ (r : Report). r ∷ []) (sym z.is)

pub tells-its-calls : (n k : ℕ) (o : Options) (s : TracedState) (h : List Entry) → IsReachedFunctionRun n k o s h
    → AreSteppable o → All IsNoBreakpoint o.functions → TellsItsCallsByCalls k o s h
tells-its-calls n k o s h run able others = record {
  tells = λ front later pid id place control t xs report is calm at since call.
      tells-so n k o s h run able others front later pid id place control t xs is calm at since report
      call;
  told = λ front later pid id place control t xs report is calm at since z.
      told-so n k o s h run able others front later pid id place control t xs is calm at since report z;
}

pub ruleset told_calls = (tells-its-calls)
