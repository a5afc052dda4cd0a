use Rattle.std.proofs.Common.{◌≡◌, ◌<◌, ◌⊎◌, ◌&&◌, ℕ, Bool, true, false, cond, Option, Some, None, List, [], ◌∷◌, length, position, refl, subst, ap, ◌∙◌, arith, inl, inr}
use Rattle.std.proofs.lemmas.Bool.{cases_Bool, eq-eqb, eqb-true, false≢true}
use Rattle.std.proofs.lemmas.List.Quantifiers.{position-Some}
use Rattle.std.proofs.lemmas.Option.{none-some, same_Some}
use Rattle.std.specs.Option.{option_and_then}
use Rattle.pr_line.specs.Functions.{function_limit}
use Rattle.pr_model.specs.Registers.{pc_of}
use Rattle.pr_model.specs.State.{TracedLwp, TracedProcess, TracedState, live_process, lwp_of}
use Rattle.pr_model.specs.declared.events.Act.TheVariants.{Turn}
use Rattle.pr_model.specs.declared.events.Actor.TheVariants.{Lwp}
use Rattle.pr_model.specs.declared.events.Did.{Did}
use Rattle.pr_model.specs.declared.events.Did.TheVariants.{Faulted}
use Rattle.pr_model.specs.declared.events.Turned.{Turned}
use Rattle.pr_model.specs.declared.lwps.Phase.{Phase}
use Rattle.pr_model.specs.declared.lwps.Phase.TheVariants.{User}
use Rattle.pr_num.specs.declared.faults.Flt.TheVariants.{Trace}
use Rattle.pr_truss.specs.Asides.{marks_at}
use Rattle.pr_truss.specs.FunctionEvents.{begins_at, function_at, if_standing}
use Rattle.pr_truss.specs.Marks.{has_function, standing, with_step}
use Rattle.pr_truss.specs.Trusses.{TrussState, nobody, traced_at}
use Rattle.pr_truss.specs.declared.marks.Marks.{Marks}
use Rattle.pr_truss.specs.declared.marks.Stepped.{Stepped}
use Rattle.pr_truss.specs.declared.reports.Report.{Report}
use Rattle.pr_truss.specs.declared.reports.Report.TheVariants.{Called}
use Rattle.pr_truss_laws.proofs.Files.HeldLemmas.{at_place}
use Rattle.pr_function_laws.specs.FunctionTurns.{call_at, call_by, call_in, call_of_turn, is_in_program, is_process, is_trap, lwp_in}
use Rattle.pr_function_laws.specs.Turns.{EndsInTrap, first_arguments}
use Rattle.pr_function_hides.proofs.Replies.FunctionSets.{has-own}
use Rattle.pr_function_hides.proofs.StepsUnderWay.TrapStops.{IsStepOf}

-- Which call of a function a turn is, by where truss has come and where the lwp stands.

pub trap-is : (d : Did) → is_trap d ≡ true → d ≡ Faulted Trace
trap-is (Faulted Trace) is = refl
trap-is _ is = absurd (false≢true is)

user-is : (phase : Phase) → is_in_program phase ≡ true → phase ≡ User
user-is User is = refl
user-is _ is = absurd (false≢true is)

-- a function that counts as planted at an address
standing-of : (m : Marks) (place : Option ℕ) (function : ℕ) → option_and_then (if_standing m) place ≡ Some function
    → (place ≡ Some function) × (has_function (standing m) function ≡ true)
standing-of m None function is = absurd (none-some function is)
standing-of m (Some i) function is = by (has_function (standing m) i) refl is
  where
    by : (b : Bool) → has_function (standing m) i ≡ b → cond b (Some i) None ≡ Some function
        → (Some i ≡ Some function) × (has_function (standing m) function ≡ true)
    by true has same =
        (same, subst (λ j. has_function (standing m) j ≡ true) (same_Some i function same) has)
    by false has same = absurd (none-some function same)

module _ (t : TrussState) (now : TracedState) (pid id : ℕ) (turned : Turned) (p : TracedProcess) (l : TracedLwp)
    (live : live_process now.system pid ≡ Some p) (there : lwp_of p id ≡ Some l) where
  lwp-is : lwp_in now pid id ≡ Some l
  lwp-is = ap (option_and_then (λ (x : TracedProcess). lwp_of x id)) live ∙ there

  abbrev its_call : List Report
  its_call = call_of_turn t now pid (Lwp pid id) (Turn turned)

  abbrev found_call : List Report
  found_call = call_in t now pid id (position (is_process pid) t.traced)

  traps : EndsInTrap turned → its_call ≡ found_call
  traps trap =
      ap (λ b. cond (b && is_trap turned.did) found_call []) (eq-eqb pid pid refl)
      ∙ ap (λ d. cond (is_trap d) found_call []) trap

  -- the function that counts as planted at the pc
  abbrev met : ℕ → Option ℕ
  met place = function_at t.options (marks_at t place) (pc_of l.regs)

  pub at-place : (place : ℕ) → position (is_process pid) t.traced ≡ Some place → EndsInTrap turned
      → its_call
      ≡ call_at (traced_at t place).pid id l (cond {A = Option ℕ} (is_in_program l.phase) (met place) None)
  at-place place at trap =
      traps trap ∙ ap (call_in t now pid id) at ∙ ap (call_by t.options (traced_at t place) id) lwp-is

  -- ---- the turn of a step

  -- it ends with the trace trap, and the lwp is in its program, at the function of the step that is under way
  pub step-call : (place : ℕ) (step : Stepped) (stood : TracedLwp) → IsStepOf t.options step stood
      → position (is_process pid) t.traced ≡ Some place → (traced_at t place).pid ≡ pid
      → (marks_at t place).stepped ≡ Some step → length (marks_at t place).planted ≡ function_limit
      → l.phase ≡ User → l.regs ≡ stood.regs → id ≡ step.lwp → EndsInTrap turned
      → call_of_turn t now pid (Lwp pid id) (Turn turned) ≡ Called pid step.lwp step.function step.arguments ∷ []
  unfolding function_at standing
  step-call place step stood of at own under_way long in_program regs lwp trap =
      at-place place at trap
      ∙ ap
      (λ phase. call_at (traced_at t place).pid id l (cond {A = Option ℕ} (is_in_program phase) (met place) None))
      in_program
      ∙ ap (call_at (traced_at t place).pid id l) function-is
      ∙ ap (λ i. Called i id step.function (first_arguments l.regs) ∷ []) own
      ∙ ap (λ i. Called pid i step.function (first_arguments l.regs) ∷ []) lwp
      ∙ ap (λ xs. Called pid step.lwp step.function xs ∷ []) (ap first_arguments regs ∙ of.holds)
    where
      standing-is : has_function (standing (marks_at t place)) step.function ≡ true
      standing-is =
          ap (λ st. has_function (with_step st (marks_at t place).planted) step.function) under_way
          ∙ has-own (marks_at t place).planted step.function (omega (arith, of.few, long))

      function-is : met place ≡ Some step.function
      function-is =
          ap (option_and_then (if_standing (marks_at t place)))
          (ap (λ pc. position (begins_at pc) t.options.functions) (ap pc_of regs) ∙ of.found)
          ∙ ap (λ b. cond b (Some step.function) None) standing-is

  -- ---- every turn

  -- It ends with a trace trap, in a process that truss traces, and the lwp is in its program, at a function that counts
  -- as planted.
  pub record MeetsFunction : Type 0 where
    pub trap : EndsInTrap turned
    pub place : ℕ
    pub at : position (is_process pid) t.traced ≡ Some place
    pub within : place < length t.traced
    pub own : (traced_at t place).pid ≡ pid
    pub in_program : l.phase ≡ User
    pub function : ℕ
    pub found : position (begins_at (pc_of l.regs)) t.options.functions ≡ Some function
    pub stands : has_function (standing (marks_at t place)) function ≡ true

  pub what-call : (call_of_turn t now pid (Lwp pid id) (Turn turned) ≡ []) ⊎ MeetsFunction
  unfolding function_at
  what-call = elim (cases_Bool (is_trap turned.did)) [
    | inl it ↦ trapped (trap-is turned.did it)
    | inr not ↦ inl (ap (λ b. cond (b && is_trap turned.did) found_call []) (eq-eqb pid pid refl)
        ∙ ap (λ b. cond b found_call []) not)
  ]
    where
      placed : EndsInTrap turned → (place : ℕ) → position (is_process pid) t.traced ≡ Some place
          → place < length t.traced → (traced_at t place).pid ≡ pid
          → (its_call ≡ []) ⊎ MeetsFunction
      placed trap place at within own = by (is_in_program l.phase) refl (met place) refl
        where
          by : (b : Bool) → is_in_program l.phase ≡ b → (f : Option ℕ) → met place ≡ f
              → (its_call ≡ []) ⊎ MeetsFunction
          by false not f is =
              inl (at-place place at trap
              ∙ ap (λ b. call_at (traced_at t place).pid id l (cond {A = Option ℕ} b (met place) None)) not)
          by true it None is =
              inl (at-place place at trap
              ∙ ap (λ b. call_at (traced_at t place).pid id l (cond {A = Option ℕ} b (met place) None)) it
              ∙ ap (call_at (traced_at t place).pid id l) is)
          by true it (Some function) is =
              let both = standing-of (marks_at t place) _ function is in
              inr (record {
                trap = trap;
                place = place;
                at = at;
                within = within;
                own = own;
                in_program = user-is l.phase it;
                function = function;
                found = both.0;
                stands = both.1;
              })

      trapped : EndsInTrap turned → (its_call ≡ []) ⊎ MeetsFunction
      trapped trap = by (position (is_process pid) t.traced) refl
        where
          by : (place : Option ℕ) → position (is_process pid) t.traced ≡ place
              → (its_call ≡ []) ⊎ MeetsFunction
          by None none = inl (traps trap ∙ ap (call_in t now pid id) none)
          by (Some place) at =
              let found = position-Some (is_process pid) t.traced place nobody at in
              placed trap place at found.0 (eqb-true (at_place t.traced place).pid pid found.1)

  -- another turn is none
  pub no-trap : (turned.did ≡ Faulted Trace → ⊥)
      → call_of_turn t now pid (Lwp pid id) (Turn turned) ≡ []
  no-trap not = elim (cases_Bool (is_trap turned.did)) [
    | inl it ↦ absurd (not (trap-is turned.did it))
    | inr off ↦ ap (λ b. cond (b && is_trap turned.did) found_call []) (eq-eqb pid pid refl)
        ∙ ap (λ b. cond b found_call []) off
  ]
