use Rattle.std.proofs.Common.{◌≡◌, ◌<◌, ◌⊎◌, ◌++◌, ℕ, true, cond, Option, Some, None, List, [], ◌∷◌, length, position, refl, sym, subst, ap, ◌∙◌, arith, inl, inr}
use Rattle.std.proofs.lemmas.Bool.{cases_Bool, cases_eq}
use Rattle.std.proofs.lemmas.Option.{none-some}
use Rattle.std.specs.List.{All, slice_get}
use Rattle.std.specs.Option.{option_and_then}
use Rattle.pr_line.specs.Functions.{function_limit}
use Rattle.pr_line.specs.declared.functions.Function.{Function}
use Rattle.pr_line.specs.declared.options.Options.{Options}
use Rattle.pr_model.proofs.TurnLemmas.{TakesTurn, turn-taken}
use Rattle.pr_model.specs.Legal.{IsLegalEntry, after, after_turn, state_after}
use Rattle.pr_model.specs.LwpTurns.{LwpTurn, turn_of}
use Rattle.pr_model.specs.Registers.{pc_of}
use Rattle.pr_model.specs.State.{TracedLwp, TracedProcess, TracedState, live_process, lwp_of}
use Rattle.pr_model.specs.declared.events.Act.TheVariants.{Turn}
use Rattle.pr_model.specs.declared.events.Actor.TheVariants.{Lwp}
use Rattle.pr_model.specs.declared.events.Did.TheVariants.{Faulted, Stopped}
use Rattle.pr_model.specs.declared.events.Entry.{Entry}
use Rattle.pr_model.specs.declared.events.Turned.{Turned}
use Rattle.pr_model.specs.declared.lwps.Phase.TheVariants.{User}
use Rattle.pr_num.specs.declared.faults.Flt.TheVariants.{Trace}
use Rattle.pr_truss.specs.Asides.{marks_at}
use Rattle.pr_truss.specs.FunctionEvents.{begins_at, function_at, if_standing}
use Rattle.pr_truss.specs.Marks.{has_function, standing, with_step}
use Rattle.pr_truss.specs.Trusses.{TrussState, traced_at}
use Rattle.pr_truss.specs.declared.marks.Stepped.{Stepped}
use Rattle.pr_truss.specs.declared.reports.Report.{Report}
use Rattle.pr_truss.specs.declared.reports.Report.TheVariants.{Called}
use Rattle.pr_truss_laws.specs.Exchanges.{exchanges}
use Rattle.pr_function_laws.proofs.CallTurns.BegunSteps.{WasBegun}
use Rattle.pr_function_laws.proofs.Marks.MetLemmas.{found-function}
use Rattle.pr_function_laws.proofs.CallTurns.OwnSteps.{its-step, steps-read}
use Rattle.pr_function_laws.proofs.CallTurns.ToldLaws.{legal}
use Rattle.pr_function_laws.specs.FunctionTurns.{call_at, call_of_turn, is_in_program, is_process}
use Rattle.pr_function_laws.specs.ReachedRuns.{IsReachedFunctionRun}
use Rattle.pr_function_laws.specs.Opened.{WasNotInterrupted, functions_at, is_opened}
use Rattle.pr_function_laws.specs.ToldTurns.{AreSteppable, HasStep}
use Rattle.pr_function_laws.specs.Turns.{EndsInTrap, first_arguments}
use Rattle.pr_function_hides.proofs.StepsUnderWay.ClosedSteps.{closed-unstepped}
use Rattle.pr_function_hides.proofs.StepsUnderWay.LongMarks.{planted-long}
use Rattle.pr_function_hides.proofs.StepsUnderWay.CallTurns.{MeetsFunction, at-place, what-call}
use Rattle.pr_function_hides.proofs.Replies.FunctionSets.{has-own}
use Rattle.pr_function_hides.proofs.StepsUnderWay.UnderWay.{StandsAtStart, apart-here, found, its-few, its-function, its-lwp, lives-on, lwp-stands, options-here, options-then, place-of}

-- Which turns are calls of functions: those of a step that is under way, and no others.

-- a turn of an lwp
abbrev pub turn_entry : ℕ → ℕ → Turned → Entry
turn_entry pid id t = record { actor = Lwp pid id; act = Turn t }

-- What is known of the breakpoints of truss along a history: no turn that ends with a trace trap begins at the address
-- of a function whose breakpoint is planted.
pub record BreakpointsHold (k : ℕ) (o : Options) (first : TracedState) (h : List Entry) : Type 0 where
  pub none_runs : (front later : List Entry) (pid place id : ℕ) (t : Turned) (p : TracedProcess) (l : TracedLwp)
      (function : ℕ) (f : Function) → h ≡ front ++ turn_entry pid id t ∷ later
      → place < length (functions_at k o front).traced → (traced_at (functions_at k o front) place).pid ≡ pid
      → EndsInTrap t → live_process (state_after first front).system pid ≡ Some p → lwp_of p id ≡ Some l
      → l.phase ≡ User
      → slice_get (functions_at k o front).options.functions function ≡ Some f → f.at ≡ pc_of l.regs
      → has_function (marks_at (functions_at k o front) place).planted function ≡ true → ⊥

stopped-not : Stopped ≡ Faulted Trace → ⊥
stopped-not same = cc

-- ---- a turn

module _ (n k : ℕ) (o : Options) (s : TracedState) (h : List Entry) (run : IsReachedFunctionRun n k o s h)
    (able : AreSteppable o) (facts : BreakpointsHold k o s h)
    (front later : List Entry) (pid id : ℕ) (turned : Turned) (is : h ≡ front ++ turn_entry pid id turned ∷ later)
    (calm : All WasNotInterrupted (exchanges k front)) where
  abbrev t : TrussState
  t = functions_at k o front

  abbrev now : TracedState
  now = state_after s front

  abbrev e : Entry
  e = turn_entry pid id turned

  pub taken : (x : LwpTurn) × (turn_of now.system pid id ≡ Some x)
  unfolding IsLegalEntry
  taken =
      let it_is : IsLegalEntry n now e = legal n k o s h run able front e later is calm in
      (record { system = it_is.0; turned = turned }, it_is.1)

  pub its-turn : TakesTurn now.system pid id taken.0
  its-turn = turn-taken now.system pid id taken.0 taken.1

  abbrev l : TracedLwp
  l = let x = its-turn in x.lwp

  l-live : live_process now.system pid ≡ Some (let x = its-turn in x.process)
  l-live = let x = its-turn in x.live

  l-there : lwp_of (let x = its-turn in x.process) id ≡ Some l
  l-there = let x = its-turn in x.there

  abbrev pub its_call : List Report
  its_call = call_of_turn t now pid (Lwp pid id) (Turn turned)

  -- the function that counts as planted at the pc
  abbrev met : ℕ → Option ℕ
  met place = function_at t.options (marks_at t place) (pc_of l.regs)

  at-there : (place : ℕ) → position (is_process pid) t.traced ≡ Some place → EndsInTrap turned
      → its_call
      ≡ call_at (traced_at t place).pid id l (cond {A = Option ℕ} (is_in_program l.phase) (met place) None)
  at-there = at-place t now pid id turned (let x = its-turn in x.process) l l-live l-there

  -- ---- the turn of a step

  module _ (place : ℕ) (step : Stepped) (under : HasStep k o front place step)
      (own : (traced_at t place).pid ≡ pid) (trap : EndsInTrap turned) where
    is-own : h ≡ front ++ turn_entry (traced_at t place).pid id turned ∷ later
    is-own = is ∙ ap (λ i. front ++ turn_entry i id turned ∷ later) (sym own)

    pub own-lwp : id ≡ step.lwp
    own-lwp = elim (cases_eq id step.lwp) [
      | inl same ↦ same
      | inr other ↦ absurd
          (stopped-not
          (ap (λ (x : Turned). x.did)
          (sym (let all = steps-read n k o s h run able in
          all.alone front later place id step turned is-own under other))
          ∙ trap))
    ]

    pub begun : WasBegun k o front (traced_at t place).pid (traced_at t place).status step
    begun = its-step n k o s h run able front later place id step turned is-own under

    same-id : (let b = begun in let m = b.meets in m.l.id) ≡ id
    same-id =
        its-lwp n k o s h run able front (e ∷ later) is calm (traced_at t place).pid
        (traced_at t place).status step begun ∙ sym own-lwp

    live-own : live_process now.system (traced_at t place).pid ≡ Some (let x = its-turn in x.process)
    live-own = let x = its-turn in ap (live_process now.system) own ∙ x.live

    -- the process lives on after it
    pub lives-behind : (q : TracedProcess) × (live_process (after now e).system pid ≡ Some q)
    unfolding after
    lives-behind =
        let x = its-turn in
        let it =
        lives-on n k o s h run able front (e ∷ later) is calm (traced_at t place).pid
        (traced_at t place).status step begun taken.0 x.process live-own
        (ap (λ i. turn_of now.system i (let b = begun in let m = b.meets in m.l.id)) own
        ∙ ap (turn_of now.system pid) same-id ∙ taken.1) in (
          it.0,
          ap (λ (v : Option LwpTurn). live_process (after_turn now v).system pid) taken.1
              ∙ ap (λ i. live_process taken.0.system i) (sym own) ∙ it.1,
        )

    stands : StandsAtStart n k o s h run able front (e ∷ later) is calm
        (traced_at t place).pid (traced_at t place).status step begun taken.0 (let x = its-turn in x.process) live-own
        (ap (λ i. turn_of now.system i (let b = begun in let m = b.meets in m.l.id)) own
        ∙ ap (turn_of now.system pid) same-id ∙ taken.1) l
    stands =
        let x = its-turn in
        lwp-stands n k o s h run able front (e ∷ later) is calm (traced_at t place).pid
        (traced_at t place).status step begun taken.0 x.process live-own
        (ap (λ i. turn_of now.system i (let b = begun in let m = b.meets in m.l.id)) own
        ∙ ap (turn_of now.system pid) same-id ∙ taken.1) l (ap (lwp_of x.process) same-id ∙ x.there)

    found-is : position (begins_at (pc_of l.regs)) t.options.functions ≡ Some step.function
    found-is =
        let f =
        found n k o s h run able front (e ∷ later) is calm (traced_at t place).pid
        (traced_at t place).status step begun in
        ap (λ pc. position (begins_at pc) t.options.functions) stands.stands
        ∙ ap (λ (opts : Options). position (begins_at f.f.at) opts.functions)
        (options-here n k o s h run.of front (e ∷ later) is calm
        ∙ sym (options-then n k o s h run able front (e ∷ later) is calm (traced_at t place).pid
        (traced_at t place).status step begun))
        ∙ f.first
        ∙ ap (λ i. Some i)
        (its-function n k o s h run able front (e ∷ later) is calm (traced_at t place).pid
        (traced_at t place).status step begun)

    few : step.function < function_limit
    few =
        subst (λ i. i < function_limit)
        (its-function n k o s h run able front (e ∷ later) is calm (traced_at t place).pid
        (traced_at t place).status step begun)
        (its-few n k o s h run able front (e ∷ later) is calm (traced_at t place).pid
        (traced_at t place).status step begun)

    standing-is : has_function (standing (marks_at t place)) step.function ≡ true
    unfolding standing
    standing-is =
        ap (λ st. has_function (with_step st (marks_at t place).planted) step.function) under.under_way
        ∙ has-own (marks_at t place).planted step.function
        (omega (
          arith,
          few,
          planted-long n k o s h run front (e ∷ later) is place under.within,
        ))

    function-is : met place ≡ Some step.function
    unfolding function_at
    function-is =
        ap (option_and_then (if_standing (marks_at t place))) found-is
        ∙ ap (λ b. cond b (Some step.function) None) standing-is

    pub step-call : its_call ≡ Called pid step.lwp step.function step.arguments ∷ []
    step-call =
        at-there place
        (place-of pid t.traced place (apart-here n k o s h run.of front (e ∷ later) is calm) under.within own) trap
        ∙ ap
        (λ phase. call_at (traced_at t place).pid id l (cond {A = Option ℕ} (is_in_program phase) (met place) None))
        stands.in_program
        ∙ ap (call_at (traced_at t place).pid id l) function-is
        ∙ ap (λ i. Called i id step.function (first_arguments l.regs) ∷ []) own
        ∙ ap (λ i. Called pid i step.function (first_arguments l.regs) ∷ []) own-lwp
        ∙ ap (λ xs. Called pid step.lwp step.function xs ∷ []) stands.holds

  -- ---- every turn

  -- It is the turn of a step that is under way in a process, and ends with a trace trap.
  pub record IsStepTurn : Type 0 where
    pub place : ℕ
    pub step : Stepped
    pub under : HasStep k o front place step
    pub own : (traced_at t place).pid ≡ pid
    pub trapped : EndsInTrap turned

  -- It is no call, or such a turn.
  pub data WhatTurn : Type 0 where
    no_call : its_call ≡ [] → WhatTurn
    step_turn : IsStepTurn → WhatTurn

  abbrev Meets : Type 0
  Meets = MeetsFunction t now pid id turned (let x = its-turn in x.process) l l-live l-there

  module _ (m : Meets) where
    live-there : live_process now.system (traced_at t m.place).pid ≡ Some (let x = its-turn in x.process)
    live-there = ap (live_process now.system) m.own ∙ l-live

    planted-not : has_function (marks_at t m.place).planted m.function ≡ true → ⊥
    planted-not planted =
        let f = found-function t.options (pc_of l.regs) m.function m.found in
        let x = its-turn in
        facts.none_runs front later pid m.place id turned x.process l m.function f.0 is m.within m.own m.trap l-live
        l-there m.in_program f.1.0 f.1.1 planted

    opened-so : (step : Stepped) → (marks_at t m.place).stepped ≡ Some step → is_opened t.stage m.place ≡ true
    opened-so step under = elim (cases_Bool (is_opened t.stage m.place)) [
      | inl opened ↦ opened
      | inr not ↦ absurd
          (none-some step
          (sym (closed-unstepped n k o s h run front (e ∷ later) is calm m.place
          (let x = its-turn in x.process) m.within live-there not) ∙ under))
    ]

    its-step-turn : IsStepTurn
    unfolding standing
    its-step-turn = by (marks_at t m.place).stepped refl
      where
        by : (so : Option Stepped) → (marks_at t m.place).stepped ≡ so → IsStepTurn
        by None none =
            absurd (planted-not
            (subst (λ st. has_function (with_step st (marks_at t m.place).planted) m.function ≡ true) none m.stands))
        by (Some step) under = record {
          place = m.place;
          step = step;
          under = record { calm = calm; within = m.within; opened = opened-so step under; under_way = under };
          own = m.own;
          trapped = m.trap;
        }

  pub what-turn : WhatTurn
  what-turn = by (what-call t now pid id turned (let x = its-turn in x.process) l l-live l-there)
    where
      by : (its_call ≡ []) ⊎ Meets → WhatTurn
      by (inl empty) = no_call empty
      by (inr m) = step_turn (its-step-turn m)
