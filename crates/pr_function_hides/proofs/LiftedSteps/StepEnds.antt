use Rattle.std.proofs.Common.{◌≡◌, ℕ, Bool, true, false, cond, not, nat_lt, option_map, Option, Some, None, refl, sym, subst, ap, ◌∙◌}
use Rattle.std.proofs.lemmas.Bool.{eq-eqb}
use Rattle.std.proofs.lemmas.Option.{none-some, same_Some}
use Rattle.pr_line.specs.Events.{event_of}
use Rattle.pr_line.specs.Selections.{is_selected}
use Rattle.pr_line.specs.declared.events.Event.{Event}
use Rattle.pr_line.specs.declared.events.Event.TheVariants as event
use Rattle.pr_line.specs.declared.options.Options.{Options}
use Rattle.pr_model.specs.Points.{stop_at}
use Rattle.pr_model.specs.Registers.{pc_of}
use Rattle.pr_model.specs.State.{TracedLwp, TracedProcess}
use Rattle.pr_model.specs.Statuses.{lwpstatus_of, reason_shown, what_shown}
use Rattle.pr_model.specs.Stops.{shown}
use Rattle.pr_model.specs.declared.stops.Point.{Point}
use Rattle.pr_model.specs.declared.stops.Point.TheVariants.{Fault, Signal}
use Rattle.pr_model.specs.declared.stops.Stop.{Stop}
use Rattle.pr_model.specs.declared.stops.Stop.TheVariants as stop
use Rattle.pr_num.specs.declared.faults.Flt.{Flt}
use Rattle.pr_num.specs.declared.faults.Flt.TheVariants.{Bpt, Trace}
use Rattle.pr_num.specs.declared.infos.Info.{Info}
use Rattle.pr_num.specs.declared.signals.Sig.{Sig}
use Rattle.pr_rec.specs.declared.lwps.Disposition.{Disposition}
use Rattle.pr_rec.specs.declared.lwps.LwpStatus.{LwpStatus}
use Rattle.pr_truss.specs.Asides.{with_marks, with_patches}
use Rattle.pr_truss.specs.Closings.{with_closing}
use Rattle.pr_truss.specs.FunctionEvents.{breakpoint_event, function_at, function_event, trap_event}
use Rattle.pr_truss.specs.FunctionStops.{with_call_shown, with_function_event, with_other_event, with_step_begun, with_step_completed}
use Rattle.pr_truss.specs.Records.{child_of, is_on_event}
use Rattle.pr_truss.specs.Stops.{asked_range, followed_child, with_child_or, with_event, with_event_over, with_event_shown, with_old_stop_over, with_stop, with_stop_over, with_text_or_shown}
use Rattle.pr_truss.specs.Trusses.{TrussState, traced_at, with_stage}
use Rattle.pr_truss.specs.declared.function_events.FunctionEvent.{FunctionEvent}
use Rattle.pr_truss.specs.declared.function_events.FunctionEvent.TheVariants.{AfterCopy, AtBreakpoint, BeforeCopy, Completed, Other, Replaced, TraceTrap}
use Rattle.pr_truss.specs.declared.marks.Marks.{Marks}
use Rattle.pr_truss.specs.declared.marks.Stepped.{Stepped}
use Rattle.pr_truss.specs.declared.stages.Stage.TheVariants.{Running}
use Rattle.pr_function_laws.proofs.CallTurns.TurnPoints.{IsOfStep}
use Rattle.pr_function_laws.proofs.CallTurns.TurnReads.{fault-told}
use Rattle.pr_function_laws.specs.OneEvent.{is_looked_at}
use Rattle.pr_function_laws.specs.Returns.{EndsStep}

-- A signal or a fault that the lwp of a step met ends the step; and truss looks at the process then.

-- ---- what ends a step

breakpoint-ends : (function : Option ℕ) → EndsStep (breakpoint_event function)
breakpoint-ends None = tt
breakpoint-ends (Some function) = tt

trap-ends : (step : Stepped) (id : ℕ) → step.lwp ≡ id → (stepped : Option Stepped) → stepped ≡ Some step
    → EndsStep (trap_event stepped id)
trap-ends step id own None is = absurd (none-some step is)
trap-ends step id own (Some x) is =
    subst (λ b. EndsStep (cond b (Completed x) TraceTrap))
    (sym (eq-eqb x.lwp id (ap (λ (y : Stepped). y.lwp) (same_Some x step is) ∙ own))) tt

module _ (o : Options) (m : Marks) (id : ℕ) (step : Stepped) (under_way : m.stepped ≡ Some step)
    (own : step.lwp ≡ id) where
  fault-ends : (f : Flt) (pc : ℕ) → EndsStep (function_event o m id (event.Incurred f pc))
  unfolding function_event
  fault-ends Bpt pc = breakpoint-ends (function_at o m pc)
  fault-ends Trace pc = trap-ends step id own m.stepped under_way
  fault-ends _ pc = tt

  received-ends : (disposition : Disposition) (info : Info) (x : Option Sig) (ev : Event)
      → option_map (λ signal. event.Received signal disposition info) x ≡ Some ev
      → EndsStep (function_event o m id ev)
  unfolding function_event
  received-ends disposition info None ev is = absurd (none-some ev is)
  received-ends disposition info (Some g) ev is =
      subst (λ e. EndsStep (function_event o m id e)) (same_Some (event.Received g disposition info) ev is) tt

  module _ (p : TracedProcess) (l : TracedLwp) where
    -- the lwp with this stop
    abbrev told_with : Option Stop → Option Event
    told_with at = event_of (lwpstatus_of p id (record l { control = record l.control { stop = at } }))

    signal-ends : (g : Sig) (ev : Event) → told_with (Some (stop.Signalled g)) ≡ Some ev
        → EndsStep (function_event o m id ev)
    unfolding event_of lwpstatus_of shown reason_shown what_shown
    signal-ends g ev is = received-ends _ _ _ ev is

    -- what it met, as its status tells
    pub met-ends : (point : Point) → IsOfStep point → l.control.stop ≡ Some (stop_at point) → (ev : Event)
        → event_of (lwpstatus_of p id l) ≡ Some ev → EndsStep (function_event o m id ev)
    met-ends (Signal g) kind is ev on = signal-ends g ev (sym (ap told_with is) ∙ on)
    met-ends (Fault f) kind is ev on =
        subst (λ e. EndsStep (function_event o m id e)) (same_Some _ ev (sym (fault-told p id l f is) ∙ on))
        (fault-ends f (pc_of l.regs))
    met-ends _ kind is ev on = absurd kind

-- ---- it looks at the process then

module _ (place : ℕ) (l : LwpStatus) where
  abbrev IsLooked : TrussState → Type 0
  IsLooked u = is_looked_at u.stage place ≡ true

  either : (b : Bool) (u v : TrussState) → IsLooked u → IsLooked v → IsLooked (cond b u v)
  either true u v one two = one
  either false u v one two = two

  over-looked : (u : TrussState) → u.leaving ≡ false → IsLooked (with_stop_over u place)
  unfolding with_stop_over
  over-looked u off =
      ap (λ b. is_looked_at (cond b (with_closing u place) (with_stage u (Running place))).stage place) off
      ∙ eq-eqb place place refl

  event-over-looked : (u : TrussState) → u.leaving ≡ false → u.options.follow ≡ false
      → IsLooked (with_event_over u place l)
  unfolding with_event_over followed_child
  event-over-looked u off follow =
      ap (λ f. is_looked_at (with_child_or u place (cond f (child_of l) None)).stage place) follow
      ∙ over-looked u off

  shown-looked : (u : TrussState) → u.leaving ≡ false → u.options.follow ≡ false → (range : Option (ℕ × ℕ))
      → IsLooked (with_text_or_shown u place l range)
  unfolding with_event_shown
  shown-looked u off follow None = event-over-looked (with_event_shown u place l None) off follow
  shown-looked u off follow (Some range) = eq-eqb place place refl

  any-looked : (u : TrussState) → u.leaving ≡ false → u.options.follow ≡ false → (e : Option Event)
      → IsLooked (with_event u place l e)
  any-looked u off follow None = over-looked u off
  any-looked u off follow (Some e) =
      either (is_selected u.options e) _ _ (shown-looked u off follow (asked_range u.options e))
      (event-over-looked u off follow)

  stop-looked : (u : TrussState) → u.leaving ≡ false → u.options.follow ≡ false → IsLooked (with_stop u place l)
  unfolding with_stop with_old_stop_over
  stop-looked u off follow =
      either (not (is_on_event l)) _ _ (over-looked u off)
      (either (nat_lt 0 (traced_at u place).old) _ _ (over-looked _ off)
      (either (traced_at u place).seen _ _ (over-looked u off) (any-looked u off follow (event_of l))))

  pub end-looked : (u : TrussState) → u.leaving ≡ false → u.options.follow ≡ false → (e : FunctionEvent) → EndsStep e
      → is_looked_at (with_function_event u place l e).stage place ≡ true
  unfolding with_function_event with_step_begun with_step_completed with_other_event with_patches with_call_shown
  end-looked u off follow (AtBreakpoint function) ends = over-looked (with_marks u place _) off
  end-looked u off follow (Completed step) ends = over-looked _ off
  end-looked u off follow Other ends = stop-looked (with_marks u place _) off follow
  end-looked u off follow TraceTrap ends = absurd ends
  end-looked u off follow BeforeCopy ends = absurd ends
  end-looked u off follow AfterCopy ends = absurd ends
  end-looked u off follow Replaced ends = absurd ends
