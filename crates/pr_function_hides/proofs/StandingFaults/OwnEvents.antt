use Rattle.std.proofs.Common.{◌≡◌, ◌==◌, ℕ, true, false, cond, Option, Some, None, List, position, refl, sym, ap, ◌∙◌}
use Rattle.std.proofs.lemmas.Bool.{eq-eqb}
use Rattle.std.specs.Option.{option_and_then}
use Rattle.pr_function_hides.proofs.Replies.FunctionSets.{with-keeps}
use Rattle.pr_function_hides.proofs.Memory.MarkedPatches.{patch-there}
use Rattle.pr_function_hides.proofs.StandingFaults.OwnFaults.{IsOwnKind, OwnCleared, OwnStand, own-leads, own-met, planted, trap}
use Rattle.pr_function_hides.proofs.StandingFaults.SoonRuns.{flags_fresh, flags_met, flags_read}
use Rattle.pr_function_hides.specs.FunctionHiders.{IsMarked, StandAsMarked}
use Rattle.pr_function_laws.proofs.CallTurns.TurnReads.{fault-told}
use Rattle.pr_function_laws.specs.OneEvent.{HasOneEventAtMost}
use Rattle.pr_hidden.specs.Covers.{Cover, Patch}
use Rattle.pr_hidden.specs.Hiders.{patch_at}
use Rattle.pr_line.specs.Events.{event_of}
use Rattle.pr_line.specs.declared.events.Event.TheVariants as event
use Rattle.pr_line.specs.declared.options.Options.{Options}
use Rattle.pr_model.specs.Registers.{pc_of}
use Rattle.pr_model.specs.State.{TracedProcess, has_agent}
use Rattle.pr_model.specs.Statuses.{lwpstatus_of, status_of_found}
use Rattle.pr_model.specs.Stops.{representative}
use Rattle.pr_model.specs.declared.stops.Stop.TheVariants as stop
use Rattle.pr_num.specs.ById.{IsRising}
use Rattle.pr_num.specs.Control.{clear_fault, has_flags, single_step}
use Rattle.pr_num.specs.Sets.{common_word, union_word}
use Rattle.pr_rec.specs.declared.lwps.LwpStatus.{LwpStatus}
use Rattle.pr_truss.specs.Asides.{marks_at}
use Rattle.pr_truss.specs.FunctionEvents.{begins_at, breakpoint_event, fresh_event, function_at, function_event, if_standing, trap_event}
use Rattle.pr_truss.specs.Marks.{has_function, standing, with_step}
use Rattle.pr_truss.specs.Trusses.{TrussState, traced_at}
use Rattle.pr_truss.specs.declared.function_events.FunctionEvent.TheVariants.{Completed, TraceTrap}
use Rattle.pr_truss.specs.declared.marks.Marks.{Marks}
use Rattle.pr_truss.specs.declared.marks.Stepped.{Stepped}
use Rattle.pr_truss_laws.specs.Stills.{IsFrozen}

-- Where truss reads that the representative stands at a fault of its own, it will run the process with PRCFAULT.

-- ---- PRCFAULT

clears-alone : has_flags clear_fault clear_fault ≡ true
unfolding has_flags common_word
clears-alone = refl

clears-both : has_flags (union_word clear_fault single_step) clear_fault ≡ true
unfolding has_flags common_word union_word
clears-both = refl

-- ---- the function of a breakpoint

module _ (o : Options) (m : Marks) (ps : List Patch) (stand : StandAsMarked o m.planted ps) where
  -- where a patch begins truss has a breakpoint
  pub stands-function : (pc : ℕ) (g : Patch) → patch_at pc ps ≡ Some g
      → (function : ℕ) × (function_at o m pc ≡ Some function)
  unfolding function_at standing
  stands-function pc g there =
      let it = patch-there (IsMarked o m.planted) pc ps g stand.all there in
      let mark = it.0 in
      let at : mark.f.at ≡ pc = ap (λ (x : Patch). x.at) (sym mark.is) ∙ it.1 in
      let first : position (begins_at pc) o.functions ≡ Some mark.function =
      ap (λ a. position (begins_at a) o.functions) (sym at)
      ∙ stand.first mark.function mark.f mark.named mark.marked in (
        mark.function,
        ap (option_and_then (if_standing m)) first
            ∙ ap (λ b. cond b (Some mark.function) None) (steps m.stepped mark.function mark.marked),
      )
    where
      steps : (step : Option Stepped) (i : ℕ) → has_function m.planted i ≡ true
          → has_function (with_step step m.planted) i ≡ true
      steps None i has = has
      steps (Some step) i has = with-keeps m.planted step.function i has

-- ---- the event

module _ (o : Options) (m : Marks) (id pc : ℕ) where
  -- a trace trap is cleared
  trap-clears : (step : Option Stepped) → has_flags (flags_met m (trap_event step id)) clear_fault ≡ true
  trap-clears None = clears-alone
  trap-clears (Some step) =
      elim (step.lwp == id)
      as (λ b. has_flags (flags_met m (cond b (Completed step) TraceTrap)) clear_fault ≡ true)
      [ true ↦ clears-alone | false ↦ clears-alone ]

  -- and so is a fault at a breakpoint
  breakpoint-clears : (function : ℕ) → function_at o m pc ≡ Some function
      → has_flags (flags_met m (breakpoint_event (function_at o m pc))) clear_fault ≡ true
  breakpoint-clears function is =
      ap (λ x. has_flags (flags_met m (breakpoint_event x)) clear_fault) is ∙ clears-both

-- ---- the status that is read

module _ (t : TrussState) (q : ℕ) (c : Cover) (p : TracedProcess)
    (stand : StandAsMarked t.options (marks_at t q).planted c.patches) (new : (traced_at t q).old ≡ 0)
    (unseen : (traced_at t q).seen ≡ false) (rises : IsRising p.lwps) (no_agent : has_agent p ≡ false)
    (frozen : IsFrozen p) (few : HasOneEventAtMost p) (own : OwnStand c p) where
  -- with the run flags after it the fault is cleared
  pub read-cleared : OwnCleared (flags_read t q (Some (status_of_found p (representative p)))) c p
  unfolding fresh_event function_event lwpstatus_of
  read-cleared id w = (stands.0, status ∙ ends)
    where
      stands : (w.lwp.control.stop ≡ Some (stop.Faulted w.fault)) × IsOwnKind c w.lwp w.fault
      stands = own id w

      m : Marks
      m = marks_at t q

      pc : ℕ
      pc = pc_of w.lwp.regs

      l : LwpStatus
      l = lwpstatus_of p id w.lwp

      leads : representative p ≡ Some (id, w.lwp)
      leads = own-leads p id w.lwp rises no_agent frozen few w.there (own-met w.lwp w.fault stands.0)

      fresh : fresh_event (traced_at t q) l ≡ Some (event.Incurred w.fault pc)
      fresh =
          ap (λ b. cond b (cond (traced_at t q).seen None (event_of l)) None) (eq-eqb (traced_at t q).old 0 new)
          ∙ ap (λ b. cond b None (event_of l)) unseen ∙ fault-told p id w.lwp w.fault stands.0

      status : has_flags (flags_read t q (Some (status_of_found p (representative p)))) clear_fault
          ≡ has_flags (flags_met m (function_event t.options m id (event.Incurred w.fault pc))) clear_fault
      status =
          ap (λ x. has_flags (flags_read t q (Some (status_of_found p x))) clear_fault) leads
          ∙ ap (λ e. has_flags (flags_fresh t q l e) clear_fault) fresh

      ends : has_flags (flags_met m (function_event t.options m id (event.Incurred w.fault pc))) clear_fault ≡ true
      ends = by stands.1
        where
          by : IsOwnKind c w.lwp w.fault
              → has_flags (flags_met m (function_event t.options m id (event.Incurred w.fault pc))) clear_fault ≡ true
          by (trap is) =
              ap (λ f. has_flags (flags_met m (function_event t.options m id (event.Incurred f pc))) clear_fault) is
              ∙ trap-clears t.options m id pc m.stepped
          by (planted g is there) =
              let f = stands-function t.options m c.patches stand pc g there in
              ap (λ x. has_flags (flags_met m (function_event t.options m id (event.Incurred x pc))) clear_fault) is
              ∙ breakpoint-clears t.options m id pc f.0 f.1
