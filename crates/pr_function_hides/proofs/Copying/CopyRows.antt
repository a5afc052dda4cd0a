use Rattle.std.proofs.Common.{◌≡◌, ◌≢◌, ◌⊎◌, ℕ, Bool, true, false, cond, Option, Some, None, List, refl, sym, subst, ap, ◌∙◌, inl, inr}
use Rattle.std.proofs.lemmas.Bool.{cases_Bool, cases_eq, false≢true}
use Rattle.std.proofs.lemmas.Option.{none-some}
use Rattle.std.specs.List.{position}
use Rattle.std.specs.Option.{option_and_then}
use Rattle.pr_laws.proofs.RunLemmas.{representative-stands}
use Rattle.pr_line.specs.Events.{event_of}
use Rattle.pr_line.specs.declared.events.Event.{Event}
use Rattle.pr_line.specs.declared.options.Options.{Options}
use Rattle.pr_model.specs.Running.{with_run}
use Rattle.pr_model.specs.State.{TracedLwp, TracedProcess, lwp_of}
use Rattle.pr_model.specs.Statuses.{lwpstatus_of}
use Rattle.pr_model.specs.Stops.{representative}
use Rattle.pr_num.specs.ById.{IsRising}
use Rattle.pr_reached.specs.Fits.{IsFitLwp}
use Rattle.pr_report_laws.specs.AtBirth.{has_met, is_met_if}
use Rattle.pr_truss.specs.FunctionEvents.{begins_at, breakpoint_event, function_at, function_event, if_standing}
use Rattle.pr_truss.specs.Marks.{has_function, no_functions, put_back, standing, with_step}
use Rattle.pr_truss.specs.declared.function_events.FunctionEvent.{FunctionEvent}
use Rattle.pr_truss.specs.declared.function_events.FunctionEvent.TheVariants.{AfterCopy, AtBreakpoint, BeforeCopy, Completed, Other, Replaced, TraceTrap}
use Rattle.pr_truss.specs.declared.marks.Marks.{Marks}
use Rattle.pr_truss.specs.declared.marks.Stepped.{Stepped}
use Rattle.pr_function_laws.proofs.Marks.MetLemmas.{completes, event-breaks, event-completes}
use Rattle.pr_function_hides.proofs.Copying.CopyReads.{ended-out, never-after, other-out, still-out}
use Rattle.pr_function_hides.proofs.StoppedCopies.CopyTurns.{alike-clear}
use Rattle.pr_function_hides.proofs.StoppedCopies.CopyRuns.{none-goes, one-goes, own-over, run-clear}
use Rattle.pr_function_hides.proofs.Replies.FunctionSets.{has-none}
use Rattle.pr_function_hides.specs.Copying.{ArePlantedOf, CopiesStand, HasNoCopyGoing, HaveNoCopyGoing, IsEmpty, IsLifted, IsNot, IsTreated, PlantsNone, Tells, bare, ends_copy, is_in_copy, none_goes, one_goes}

-- What truss has read of a process stands until it runs it: so its forks, vforks and execs stand with what is planted
-- there, whatever event it was told of, a row an event.

-- ---- sets

empty-so : (set : List Bool) → ((function : ℕ) → has_function set function ≡ true → ⊥) → IsEmpty set
empty-so set none function = elim (cases_Bool (has_function set function)) [
  | inl is ↦ absurd (none function is)
  | inr not ↦ not
]

empty-same : (a b : List Bool) → b ≡ a → IsEmpty a → IsEmpty b
empty-same a b same none function = ap (λ set. has_function set function) same ∙ none function

standing-empty : (m : Marks) → IsLifted m → IsEmpty (standing m)
unfolding standing
standing-empty m lifted function =
    ap (λ step. has_function (with_step step m.planted) function) lifted.no_step ∙ lifted.none_planted function

fewer-empty : (m n : Marks) → PlantsNone m n → IsEmpty m.planted → IsEmpty n.planted
fewer-empty m n fewer none =
    empty-so n.planted (λ function is. false≢true (sym (none function) ∙ fewer function is))

planted-empty : (set : List Bool) (m n : Marks) → IsLifted m → IsEmpty set → ArePlantedOf set m n → IsEmpty n.planted
planted-empty set m n lifted none planted = empty-so n.planted (λ function is. by function (planted function is))
  where
    by : (function : ℕ) → (has_function m.planted function ≡ true) ⊎ (has_function set function ≡ true) → ⊥
    by function (inl was) = false≢true (sym (lifted.none_planted function) ∙ was)
    by function (inr new) = false≢true (sym (none function) ∙ new)

back-empty : (m : Marks) → IsLifted m → IsEmpty (put_back m)
unfolding put_back
back-empty m lifted function =
    ap (λ step. has_function (with_step step no_functions) function) lifted.no_step ∙ has-none function

-- with the step that is under way, where none is
step-empty : (m : Marks) (set : List Bool) → IsLifted m → IsEmpty set → IsEmpty (with_step m.stepped set)
step-empty m set lifted none function =
    ap (λ step. has_function (with_step step set) function) lifted.no_step ∙ none function

-- ---- an event of a breakpoint

-- a breakpoint stands at which an lwp is
module _ (o : Options) (m : Marks) (of : ℕ) where
  found-stands : (place : Option ℕ) (function : ℕ)
      → breakpoint_event (option_and_then (if_standing m) place) ≡ AtBreakpoint function
      → has_function (standing m) function ≡ true
  found-stands None function is = cc
  found-stands (Some i) function is = by (has_function (standing m) i) refl is
    where
      by : (b : Bool) → has_function (standing m) i ≡ b
          → breakpoint_event (cond b (Some i) None) ≡ AtBreakpoint function → has_function (standing m) function ≡ true
      by true has found =
          let same : i ≡ function = cc in subst (λ j. has_function (standing m) j ≡ true) same has
      by false has found = cc

  pub breakpoint-stands : (e : Event) (function : ℕ) → function_event o m of e ≡ AtBreakpoint function
      → has_function (standing m) function ≡ true
  unfolding function_event function_at
  breakpoint-stands e function is =
      let b = event-breaks o m of e function is in
      found-stands (position (begins_at b.pc) o.functions) function
      (ap (function_event o m of) (sym b.is) ∙ is)

  -- where all is lifted an lwp is at none, and no step is completed
  no-breakpoint : IsLifted m → (e : Event) (function : ℕ) → function_event o m of e ≡ AtBreakpoint function → ⊥
  no-breakpoint lifted e function is =
      false≢true (sym (standing-empty m lifted function) ∙ breakpoint-stands e function is)

  no-completion : IsLifted m → (e : Event) (step : Stepped) → function_event o m of e ≡ Completed step → ⊥
  no-completion lifted e step is =
      let c = event-completes o m of e step (ap completes is) in none-some step (sym lifted.no_step ∙ c.under_way)

-- ---- what an event says

-- of the lwp whose status tells it
pub tells-of : (p : TracedProcess) (id : ℕ) (l : TracedLwp) (o : Options) (m : Marks) (ev : Event)
    → event_of (lwpstatus_of p id l) ≡ Some ev → IsFitLwp l → Tells m (function_event o m id ev) l
tells-of p id l o m ev told fit = record {
  other = λ clear other. other-out p id l o m id clear ev told other;
  never = λ clear. never-after p id l o m id clear ev told;
  ended = λ is. ended-out p id l o m id fit ev told is;
  no_breakpoint = λ lifted function is. no-breakpoint o m id lifted ev function is;
  no_completion = λ lifted step is. no-completion o m id lifted ev step is;
}

-- it says so of another one at the same call and on the same stop
pub tells-alike : (m : Marks) (e : FunctionEvent) (l k : TracedLwp) → k.control.stop ≡ l.control.stop
    → k.phase ≡ l.phase → Tells m e l → Tells m e k
tells-alike m e l k stops phase t = record {
  other = λ clear other. ap is_in_copy phase ∙ t.other (alike-clear k l (sym stops) (sym phase) clear) other;
  never = λ clear. t.never (alike-clear k l (sym stops) (sym phase) clear);
  ended = λ is. ap is_in_copy phase ∙ t.ended is;
  no_breakpoint = t.no_breakpoint;
  no_completion = t.no_completion;
}

-- one that met nothing is at no copy where none of it goes on
unmet-out : (l : TracedLwp) → has_met l ≡ false → HasNoCopyGoing l → is_in_copy l.phase ≡ false
unmet-out l unmet clear = elim (cases_Bool (is_in_copy l.phase)) [
  | inl is ↦
      let w = clear.waits is in
      absurd (false≢true (sym unmet ∙ ap is_met_if w.stop))
  | inr out ↦ out
]

-- ---- a row an event

module _ (p : TracedProcess) (flags : ℕ) (e : ℕ × TracedLwp) (rises : IsRising p.lwps)
    (leads : representative p ≡ Some e) (m : Marks) where
  there : lwp_of p e.0 ≡ Some e.1
  there = representative-stands p e rises leads

  -- an lwp that is at no copy where none of it goes on
  quiet-stands : (n : Marks) → (HasNoCopyGoing e.1 → is_in_copy e.1.phase ≡ false) → PlantsNone m n
      → n.lifted ≡ m.lifted → n.stepped ≡ m.stepped → CopiesStand m p → CopiesStand n (with_run flags p)
  quiet-stands n out planted lifted stepped stands = by stands
    where
      now : IsLifted m → IsLifted n
      now was = record {
        none_planted = fewer-empty m n planted was.none_planted;
        no_step = stepped ∙ was.no_step;
      }

      by : CopiesStand m p → CopiesStand n (with_run flags p)
      by (none_goes all) =
          none_goes (none-goes p flags e rises leads None (out (all.each e.0 e.1 tt there)) all)
      by (one_goes id was all) =
          one_goes id (now was)
          (run-clear (Some id) (Some id) flags p rises all (Some e) leads (λ n other apart. other)
          (λ own. out (all.each e.0 e.1 own there)))
      by (bare was left) = bare (now was) (empty-same m.lifted n.lifted lifted left)

  -- whose status tells no event, and that met nothing
  pub still-stands : (n : Marks) → event_of (lwpstatus_of p e.0 e.1) ≡ None → PlantsNone m n
      → n.lifted ≡ m.lifted → n.stepped ≡ m.stepped → CopiesStand m p → CopiesStand n (with_run flags p)
  still-stands n none planted lifted stepped stands =
      quiet-stands n (λ clear. still-out p e.0 e.1 clear none) planted lifted stepped stands

  pub unmet-stands : (n : Marks) → has_met e.1 ≡ false → PlantsNone m n → n.lifted ≡ m.lifted → n.stepped ≡ m.stepped
      → CopiesStand m p → CopiesStand n (with_run flags p)
  unmet-stands n unmet planted lifted stepped stands =
      quiet-stands n (λ clear. unmet-out e.1 unmet clear) planted lifted stepped stands

  module _ (its : FunctionEvent) (tells : Tells m its e.1) where
    -- of none that goes on it is told that it was made
    never : {A : Type 0} → ends_copy its ≡ true → (but : Option ℕ) → IsNot but e.0 → HaveNoCopyGoing but p → A
    never is but other all =
        absurd (false≢true (sym (tells.never (all.each e.0 e.1 other there)) ∙ is))

    -- where a copy was made all is lifted
    pub lifted-after : ends_copy its ≡ true → CopiesStand m p → IsLifted m
    lifted-after is (none_goes all) = never is None tt all
    lifted-after is (one_goes id lifted all) = lifted
    lifted-after is (bare lifted none) = lifted

    module _ (n : Marks) where
      -- none goes on, and it comes before none
      none-on : its ≢ BeforeCopy → HaveNoCopyGoing None p → CopiesStand n (with_run flags p)
      none-on other all =
          none_goes (none-goes p flags e rises leads None (tells.other (all.each e.0 e.1 tt there) other) all)

      -- that of one goes on, and it comes before none
      one-on : its ≢ BeforeCopy → (id : ℕ) → IsLifted n → HaveNoCopyGoing (Some id) p → CopiesStand n (with_run flags p)
      one-on other id lifted all =
          one_goes id lifted
          (run-clear (Some id) (Some id) flags p rises all (Some e) leads (λ i not_one apart. not_one)
          (λ own. tells.other (all.each e.0 e.1 own there) other))

      trap-lifted : IsTreated m TraceTrap n → IsLifted m → IsLifted n
      trap-lifted t was = record {
        none_planted = fewer-empty m n t.0 was.none_planted;
        no_step = t.1.1 ∙ was.no_step;
      }

      other-lifted : IsTreated m Other n → IsLifted m → IsLifted n
      other-lifted t was = record {
        none_planted = planted-empty (put_back m) m n was (back-empty m was) t.0;
        no_step = t.1.1;
      }

      row : (fe : FunctionEvent) → its ≡ fe → IsTreated m fe n → CopiesStand m p → CopiesStand n (with_run flags p)
      row BeforeCopy is t (none_goes all) = one_goes e.0 t.0 (one-goes p flags e rises leads all)
      row BeforeCopy is t (one_goes id lifted all) =
          bare t.0 (empty-same (standing m) n.lifted t.1 (standing-empty m lifted))
      row BeforeCopy is t (bare lifted none) =
          bare t.0 (empty-same (standing m) n.lifted t.1 (standing-empty m lifted))
      row AfterCopy is t (none_goes all) = never (ap ends_copy is) None tt all
      row AfterCopy is t (one_goes id lifted all) = elim (cases_eq e.0 id) [
        | inl same ↦ none_goes
            (own-over p flags e rises leads (tells.ended (ap ends_copy is))
            (subst (λ i. HaveNoCopyGoing (Some i) p) (sym same) all))
        | inr apart ↦ never (ap ends_copy is) (Some id) apart all
      ]
      row AfterCopy is t (bare lifted none) =
          bare (record {
            none_planted = planted-empty (with_step m.stepped m.lifted) m n lifted
                (step-empty m m.lifted lifted none) t.0;
            no_step = t.1.1;
          }) t.1.0
      row Replaced is t (none_goes all) = never (ap ends_copy is) None tt all
      row Replaced is t (one_goes id lifted all) = bare t.0 t.1
      row Replaced is t (bare lifted none) = bare t.0 t.1
      row (AtBreakpoint function) is t (none_goes all) = none-on (λ same. not-before (sym is ∙ same)) all
        where
          not-before : AtBreakpoint function ≡ BeforeCopy → ⊥
          not-before same = cc
      row (AtBreakpoint function) is t (one_goes id lifted all) = absurd (tells.no_breakpoint lifted function is)
      row (AtBreakpoint function) is t (bare lifted none) = absurd (tells.no_breakpoint lifted function is)
      row (Completed step) is t (none_goes all) = none-on (λ same. not-before (sym is ∙ same)) all
        where
          not-before : Completed step ≡ BeforeCopy → ⊥
          not-before same = cc
      row (Completed step) is t (one_goes id lifted all) = absurd (tells.no_completion lifted step is)
      row (Completed step) is t (bare lifted none) = absurd (tells.no_completion lifted step is)
      row TraceTrap is t (none_goes all) = none-on (λ same. not-before (sym is ∙ same)) all
        where
          not-before : TraceTrap ≡ BeforeCopy → ⊥
          not-before same = cc
      row TraceTrap is t (one_goes id lifted all) =
          one-on (λ same. not-before (sym is ∙ same)) id (trap-lifted t lifted) all
        where
          not-before : TraceTrap ≡ BeforeCopy → ⊥
          not-before same = cc
      row TraceTrap is t (bare lifted none) =
          bare (trap-lifted t lifted) (empty-same m.lifted n.lifted t.1.0 none)
      row Other is t (none_goes all) = none-on (λ same. not-before (sym is ∙ same)) all
        where
          not-before : Other ≡ BeforeCopy → ⊥
          not-before same = cc
      row Other is t (one_goes id lifted all) =
          one-on (λ same. not-before (sym is ∙ same)) id (other-lifted t lifted) all
        where
          not-before : Other ≡ BeforeCopy → ⊥
          not-before same = cc
      row Other is t (bare lifted none) =
          bare (other-lifted t lifted) (empty-same m.lifted n.lifted t.1.0 none)

      pub read-stands : IsTreated m its n → CopiesStand m p → CopiesStand n (with_run flags p)
      read-stands t stands = row its refl t stands

pub ruleset copy_rows = (tells-of, tells-alike, lifted-after)
