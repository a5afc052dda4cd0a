-- Who hides breakpoints among the controllers of a scenario that was read.
use Rattle.std.proofs.Common.{◌≡◌, ◌≢◌, ◌∙◌, ℕ, Bool, true, false, Option, Some, None, List, [], refl, sym, ap}
use Rattle.std.specs.List.{slice_get}
use Rattle.std.specs.Option.{option_map}
use Rattle.std.specs.Prelude.{map}
use Rattle.std.proofs.lemmas.Bool.{false≢true}
use Rattle.std.proofs.lemmas.List.Elements.{All-weaker}
use Rattle.std.proofs.lemmas.Option.{slice_get-map}
use Rattle.pr_function_hides.specs.FunctionHiders.{ArePatchable, AreTrusses, IsPatchable}
use Rattle.pr_hidden.specs.Hiders.{Hiders}
use Rattle.pr_line.specs.declared.options.Options.{Options}
use Rattle.pr_model.specs.FirstState.{first_state}
use Rattle.pr_num.proofs.SearchLemmas.{All-at}
use Rattle.pr_run_laws.proofs.TrussControllers.TrussLemmas.{nothing-held}
use Rattle.pr_run_laws.proofs.TrussControllers.TrussOptions.{bare-truss, first-options}
use Rattle.pr_run_laws.specs.FunctionRuns.{HideBreakpoints}
use Rattle.pr_run_laws.specs.NamedFunctions.{AreShowable, IsShowable, NamesShowable}
use Rattle.pr_run_laws.specs.ScenarioRanges.{IsScenarioInRange}
use Rattle.pr_run_laws.specs.ScenarioRuns.{controller_of, controllers_of, first_state_of, truss_of}
use Rattle.pr_scen.specs.Scenarios.{Scenario}
use Rattle.pr_scen.specs.declared.plans.Plan.{Plan}
use Rattle.pr_scen.specs.declared.plans.Plan.TheVariants as plan
use Rattle.pr_truss.specs.Marks.{has_functions}
use Rattle.pr_truss.specs.Trusses.{TrussState, first_truss}
use Rattle.pr_truss_laws.specs.Handles.{HasNothingOpen}
use Rattle.pr_world.specs.ControllerStates.{FnTruss}

-- the functions that a truss of a scenario names
pub plan-named : (s : Scenario) → IsScenarioInRange s → (k : ℕ) (o : Options)
    → slice_get s.controllers k ≡ Some (plan.Truss o) → AreShowable o
unfolding NamesShowable
plan-named s range k o at = All-at NamesShowable s.controllers k (plan.Truss o) at range.functions

-- ---- a controller that is a truss with functions was planned as one

record WasPlanned (plans : List Plan) (k : ℕ) (o : Options) : Type 0 where
  at : slice_get plans k ≡ Some (plan.Truss o)
  has : has_functions o ≡ true

first-alike : (u o : Options) → first_truss u ≡ first_truss o → u ≡ o
first-alike u o same =
    sym (first-options u) ∙ ap (λ (t : TrussState). t.options) same ∙ first-options o

truss-planned : (u o : Options) (b : Bool) → has_functions u ≡ b → truss_of u b ≡ FnTruss (first_truss o)
    → (u ≡ o) × (has_functions o ≡ true)
truss-planned u o true has is =
    let same : u ≡ o = first-alike u o (let firsts : first_truss u ≡ first_truss o = cc in firsts) in
    (same, sym (ap has_functions same) ∙ has)
truss-planned u o false has is = absurd (cc)

was-planned : (plans : List Plan) (k : ℕ) (o : Options)
    → slice_get (map controller_of plans) k ≡ Some (FnTruss (first_truss o)) → WasPlanned plans k o
unfolding controller_of
was-planned plans k o is = by (slice_get plans k) refl (sym (slice_get-map controller_of plans k) ∙ is)
  where
    by : (p : Option Plan) → slice_get plans k ≡ p → option_map controller_of p ≡ Some (FnTruss (first_truss o))
        → WasPlanned plans k o
    by None there same = absurd (cc)
    by (Some (plan.Truss u)) there same =
        let truss : truss_of u (has_functions u) ≡ FnTruss (first_truss o) = cc in
        let it = truss-planned u o (has_functions u) refl truss in
        record { at = there ∙ ap (λ (x : Options). Some (plan.Truss x)) it.0; has = it.1 }
    by (Some (plan.Script script)) there same = absurd (cc)
    by (Some (plan.Tool kind pid)) there same = absurd (cc)
    by (Some (plan.Gcore pid)) there same = absurd (cc)
    by (Some (plan.Probe pid)) there same = absurd (cc)

has-some : (o : Options) → has_functions o ≡ true → o.functions ≢ []
has-some o has none = false≢true (sym (bare-truss o none) ∙ has)

-- so it has functions, as they are asked for
pub shown-truss : (s : Scenario) → IsScenarioInRange s → (k : ℕ) (o : Options)
    → slice_get (controllers_of s) k ≡ Some (FnTruss (first_truss o)) → (o.functions ≢ []) × AreShowable o
shown-truss s range k o starts =
    let planned = was-planned s.controllers k o starts in
    (has-some o planned.has, plan-named s range k o planned.at)

-- ---- the first state

pub first-held : (s : Scenario) (k : ℕ) → HasNothingOpen k (first_state_of s)
unfolding first_state
first-held s k = nothing-held k (first_state_of s) refl

-- ---- who hides

-- truss can plant a breakpoint at each function that it was given
pub all-patchable : (o : Options) → AreShowable o → ArePatchable o
all-patchable o named = record {
  few = named.few;
  each = All-weaker IsShowable IsPatchable (λ f at. at.patchable) o.functions named.each;
  alike = named.alike;
}

-- each who hides breakpoints is such a truss as its laws speak of
pub hide-trusses : (s : Scenario) → IsScenarioInRange s → (who : Hiders) → HideBreakpoints who (controllers_of s)
    → AreTrusses who (controllers_of s) (first_state_of s)
hide-trusses s range who hide = record {
  no_probes = hide.no_probes;
  begins = λ k hides_it. first-held s k;
  trusses = λ k hides_it.
      let it = hide.trusses k hides_it in
      let planned = was-planned s.controllers k it.options it.starts in
      let named = plan-named s range k it.options planned.at in
      record {
        options = it.options;
        starts = it.starts;
        has = planned.has;
        follows_none = named.follows_none (has-some it.options planned.has);
        patchable = all-patchable it.options named;
        hides_these = it.hides_these;
      };
}
