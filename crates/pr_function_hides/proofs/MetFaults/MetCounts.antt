use Rattle.std.proofs.Common.{◌≡◌, ℕ, Bool, true, false, cond, is_some, Option, Some, None, Result, List, refl, sym, ap}
use Rattle.std.proofs.Common.{◌∙◌, inl, inr}
use Rattle.std.proofs.lemmas.Bool.{cases_Bool, eqb-true, false≢true}
use Rattle.std.proofs.lemmas.Option.{same_Some}
use Rattle.std.specs.Option.{option_and_then, option_map}
use Rattle.pr_function_hides.proofs.StandingFaults.OwnFaults.{AreOld, CountLess, own-met}
use Rattle.pr_function_hides.proofs.StandingFaults.SoonRuns.{flags_fresh, flags_met, flags_read}
use Rattle.pr_function_laws.proofs.Marks.MetLemmas.{fresh-stands}
use Rattle.pr_function_laws.proofs.OpenedProcesses.StoodCalls.{KeepsLwps}
use Rattle.pr_function_laws.proofs.CallTurns.TurnReads.{fault-told, fresh-new, shown-lwp, told-stop}
use Rattle.pr_function_laws.specs.OneEvent.{HasMetNothing}
use Rattle.pr_hidden.specs.Covers.{Cover}
use Rattle.pr_hidden.specs.Tidiness.{is_step_flags}
use Rattle.pr_line.specs.Events.{event_for, event_of, named_call, result_of, stopped_call}
use Rattle.pr_line.specs.declared.events.Event.{Event}
use Rattle.pr_line.specs.declared.events.Event.TheVariants as event
use Rattle.pr_line.specs.declared.options.Options.{Options}
use Rattle.pr_model.specs.Registers.{pc_of}
use Rattle.pr_model.specs.State.{TracedLwp, TracedProcess, lwp_of}
use Rattle.pr_model.specs.Statuses.{call_in, lwpstatus_of, status_of_found}
use Rattle.pr_model.specs.Stops.{representative}
use Rattle.pr_model.specs.declared.lwps.Phase.TheVariants.{Faulted as AtFault}
use Rattle.pr_model.specs.declared.stops.Stop.TheVariants as stop
use Rattle.pr_num.specs.ById.{IsRising, under}
use Rattle.pr_num.specs.Faults.{fault_of_number}
use Rattle.pr_num.specs.Signals.{signal_of_number}
use Rattle.pr_num.specs.declared.errnos.Errno.{Errno}
use Rattle.pr_num.specs.declared.faults.Flt.{Flt}
use Rattle.pr_num.specs.declared.faults.Flt.TheVariants.{Bpt, Trace}
use Rattle.pr_num.specs.declared.stop_reasons.StopReason.{StopReason}
use Rattle.pr_num.specs.declared.stop_reasons.StopReason.TheVariants as reason
use Rattle.pr_num.specs.declared.syscalls.Sysno.{Sysno}
use Rattle.pr_rec.specs.declared.lwps.LwpStatus.{LwpStatus}
use Rattle.pr_report_laws.proofs.Machine.EventStopLemmas.{unmet-off}
use Rattle.pr_report_laws.proofs.Machine.FrameLaws.{alone-lwp}
use Rattle.pr_report_laws.specs.AtBirth.{has_met}
use Rattle.pr_truss.specs.Asides.{marks_at}
use Rattle.pr_truss.specs.FunctionEvents.{breakpoint_event, copies_memory, fresh_event, function_at, function_event}
use Rattle.pr_truss.specs.FunctionEvents.{keeps_memory, left_event}
use Rattle.pr_truss.specs.Records.{is_on_event}
use Rattle.pr_truss.specs.Trusses.{TrussState, traced_at}
use Rattle.pr_truss.specs.declared.function_events.FunctionEvent.{FunctionEvent}
use Rattle.pr_truss.specs.declared.function_events.FunctionEvent.TheVariants.{AfterCopy, Other, Replaced}
use Rattle.pr_truss.specs.declared.marks.Marks.{Marks}
use Rattle.pr_truss_laws.specs.Stills.{IsUndisturbed}

-- The lwps of a process that stand on the stop of a fault which truss takes for its own, and what PCRUN clears of them.

-- ---- what is said of them

-- A fault that truss takes for its own, by its marks: a trace trap, or FLTBPT where it has a breakpoint, which is
-- planted, or lifted for a step.
pub data IsTakenKind (o : Options) (m : Marks) (l : TracedLwp) (f : Flt) : Type 0 where
  trap : f ≡ Trace → IsTakenKind o m l f
  breaks : (function : ℕ) → f ≡ Bpt → function_at o m (pc_of l.regs) ≡ Some function → IsTakenKind o m l f

-- each lwp that stands on the stop of such a fault counts as standing at one of those who hide
abbrev pub MetCount : Cover → Options → Marks → TracedProcess → Type 0
MetCount c o m p =
    (id : ℕ) (l : TracedLwp) → lwp_of p id ≡ Some l → (f : Flt) → l.control.stop ≡ Some (stop.Faulted f)
    → IsTakenKind o m l f → c.faulted id ≡ true

-- where none stands on an event that it met
pub unmet-count : (c : Cover) (o : Options) (m : Marks) (p : TracedProcess) → HasMetNothing p → MetCount c o m p
unmet-count c o m p none id l there f is kind = absurd (false≢true (sym (none id l there) ∙ own-met l f is))

kind-on : (o : Options) (m : Marks) (l k : TracedLwp) (f : Flt) → k.regs ≡ l.regs → IsTakenKind o m k f
    → IsTakenKind o m l f
kind-on o m l k f regs (trap is) = trap is
kind-on o m l k f regs (breaks function is at) =
    breaks function is (ap (λ (rs : List ℕ). function_at o m (pc_of rs)) (sym regs) ∙ at)

-- where each lwp was there before, and no fewer count
pub old-count : (c d : Cover) (o : Options) (m : Marks) (p q : TracedProcess) → CountLess d c → AreOld p q
    → MetCount c o m p → MetCount d o m q
old-count c d o m p q more old count id k there f is kind =
    let was = old id k there in
    more id (count id was.0 was.1.0 f (sym was.1.1.1.0 ∙ is) (kind-on o m was.0 k f was.1.1.1.1 kind))

-- An lwp stands on an event that it met, and if it is at a fault it counts so.
pub record MetOwn (c : Cover) (p : TracedProcess) : Type 0 where
  pub id : ℕ
  pub lwp : TracedLwp
  pub there : lwp_of p id ≡ Some lwp
  pub met : has_met lwp ≡ true
  pub own : (f : Flt) (address : ℕ) → lwp.phase ≡ AtFault f address → c.faulted id ≡ true

-- where these run flags have PRCFAULT, PRSTEP or both
abbrev pub StepClears : ℕ → Cover → TracedProcess → Type 0
StepClears flags c p = is_step_flags flags ≡ true → MetOwn c p

-- of a process that others left alone
pub alone-clears : (c d : Cover) (p q : TracedProcess) → CountLess d c → IsUndisturbed p q → (flags : ℕ)
    → StepClears flags c p → StepClears flags d q
alone-clears c d p q more alone flags clears steps =
    let w = clears steps in
    let it = alone-lwp p q alone w.id w.lwp w.there in
    record {
      id = w.id;
      lwp = it.0;
      there = it.1.0;
      met = sym (ap has_met it.1.1) ∙ w.met;
      own = λ f address at. more w.id (w.own f address (ap (λ (x : TracedLwp). x.phase) it.1.1 ∙ at));
    }

-- of one whose lwps stay
pub lwps-clears : (c d : Cover) (p q : TracedProcess) → CountLess d c → KeepsLwps p q → (flags : ℕ)
    → StepClears flags c p → StepClears flags d q
lwps-clears c d p q more keeps flags clears steps =
    let w = clears steps in
    record {
      id = w.id;
      lwp = w.lwp;
      there = ap (under w.id) keeps.lwps ∙ w.there;
      met = w.met;
      own = λ f address at. more w.id (w.own f address at);
    }

-- ---- run flags

none-steps : {A : Type 0} (flags : ℕ) → flags ≡ 0 → is_step_flags flags ≡ true → A
none-steps flags none steps = absurd (false≢true (ap is_step_flags (sym none) ∙ steps))

pub plain-clears : (flags : ℕ) (c : Cover) (p : TracedProcess) → flags ≡ 0 → StepClears flags c p
plain-clears flags c p none steps = none-steps flags none steps

-- ---- what an event says

-- an event says that an lwp comes to a call
abbrev enters : Option Event → Bool
enters (Some (event.Entered call arguments)) = true
enters _ = false

mapped-none : {X : Type 0} (f : X → Event) → ((x : X) → enters (Some (f x)) ≡ false) → (o : Option X)
    → enters (option_map f o) ≡ false
mapped-none f never None = refl
mapped-none f never (Some x) = never x

callless : (s : LwpStatus) (why : Option StopReason) → s.call ≡ None
    → enters (option_and_then (event_for s) why) ≡ false
callless s None none = refl
callless s (Some reason.SysEntry) none =
    ap (λ c. enters (option_map (λ call. event.Entered call s.arguments) (option_and_then (named_call s.what) c))) none
callless s (Some reason.SysExit) none =
    mapped-none (λ call. event.Left call s.arguments (result_of s.result s.errno)) (λ x. refl) (stopped_call s)
callless s (Some reason.Signalled) none =
    mapped-none (λ signal. event.Received signal s.disposition s.info) (λ x. refl) (signal_of_number s.what)
callless s (Some reason.Faulted) none =
    mapped-none (λ fault. event.Incurred fault (pc_of s.regs)) (λ x. refl) (fault_of_number s.what)
callless s (Some _) none = refl

module _ (p : TracedProcess) (id : ℕ) (l : TracedLwp) where
  -- an lwp at a fault comes to none
  fault-callless : (f : Flt) (address : ℕ) → l.phase ≡ AtFault f address
      → enters (event_of (lwpstatus_of p id l)) ≡ false
  unfolding event_of lwpstatus_of call_in
  fault-callless f address at = callless (lwpstatus_of p id l) (lwpstatus_of p id l).why (ap call_in at)

  told-met : (e : Event) → event_of (lwpstatus_of p id l) ≡ Some e → has_met l ≡ true
  unfolding is_on_event
  told-met e on = elim (cases_Bool (has_met l)) [
    | inl has ↦ has
    | inr none ↦ absurd (false≢true (sym (unmet-off p id l none) ∙ ap (λ (x : Option Event). is_some x) on))
  ]

-- what such flags say of the event
data SaysStep (o : Options) (m : Marks) (id : ℕ) (e : Event) : Type 0 where
  comes : enters (Some e) ≡ true → SaysStep o m id e
  traps : (pc : ℕ) → e ≡ event.Incurred Trace pc → SaysStep o m id e
  at_break : (pc function : ℕ) → e ≡ event.Incurred Bpt pc → function_at o m pc ≡ Some function → SaysStep o m id e

module _ (o : Options) (m : Marks) (plain : m.flags ≡ 0) (id : ℕ) where
  abbrev Steps : FunctionEvent → Type 0
  Steps fe = is_step_flags (flags_met m fe) ≡ true

  other-none : {A : Type 0} → Steps Other → A
  other-none steps = none-steps m.flags plain steps

  left-step : {A : Type 0} (call : Sysno) (result : Result ℕ Errno)
      → Steps (cond (copies_memory call) (left_event call result) Other) → A
  left-step call result = by (copies_memory call) (keeps_memory call result)
    where
      by : {A : Type 0} (a b : Bool) → Steps (cond a (cond b AfterCopy Replaced) Other) → A
      by true true steps = none-steps m.flags plain steps
      by true false steps = none-steps 0 refl steps
      by false b steps = none-steps m.flags plain steps

  break-step : (pc : ℕ) (x : Option ℕ) → function_at o m pc ≡ x → Steps (breakpoint_event x)
      → SaysStep o m id (event.Incurred Bpt pc)
  break-step pc None is steps = other-none steps
  break-step pc (Some function) is steps = at_break pc function refl is

  says-step : (e : Event) → Steps (function_event o m id e) → SaysStep o m id e
  unfolding function_event
  says-step (event.Entered call arguments) steps = comes refl
  says-step (event.Left call arguments result) steps = left-step call result steps
  says-step (event.Received signal disposition info) steps = other-none steps
  says-step (event.Incurred Bpt pc) steps = break-step pc (function_at o m pc) refl steps
  says-step (event.Incurred Trace pc) steps = traps pc refl
  says-step (event.Incurred f pc) steps = other-none steps

-- ---- the status that is read

module _ (o : Options) (m : Marks) (plain : m.flags ≡ 0) (c : Cover) (p : TracedProcess)
    (counts : MetCount c o m p) where
  pub event-clears : (id : ℕ) (l : TracedLwp) → lwp_of p id ≡ Some l → (e : Event)
      → event_of (lwpstatus_of p id l) ≡ Some e → is_step_flags (flags_met m (function_event o m id e)) ≡ true
      → MetOwn c p
  event-clears id l there e on steps = record {
    id = id;
    lwp = l;
    there = there;
    met = told-met p id l e on;
    own = λ f address at. by f address at (says-step o m plain id e steps);
  }
    where
      pc-same : {f : Flt} {a b : ℕ} → event.Incurred f a ≡ event.Incurred f b → a ≡ b
      pc-same is = cc

      by : (f : Flt) (address : ℕ) → l.phase ≡ AtFault f address → SaysStep o m id e → c.faulted id ≡ true
      by f address at (comes is) =
          absurd (false≢true (sym (fault-callless p id l f address at) ∙ ap enters on ∙ is))
      by f address at (traps pc is) =
          counts id l there Trace (told-stop p id l Trace pc (on ∙ ap (λ x. Some x) is)) (trap refl)
      by f address at (at_break pc function is found) =
          let stops = told-stop p id l Bpt pc (on ∙ ap (λ x. Some x) is) in
          let own : pc_of l.regs ≡ pc =
          pc-same (same_Some _ _ (sym (fault-told p id l Bpt stops) ∙ on ∙ ap (λ x. Some x) is)) in
          counts id l there Bpt stops (breaks function refl (ap (function_at o m) own ∙ found))

-- where truss will run the process with such flags, since it read its status
pub read-clears : (t : TrussState) (q : ℕ) (c : Cover) (p : TracedProcess) → IsRising p.lwps
    → (marks_at t q).flags ≡ 0 → ((traced_at t q).old ≡ 0 → MetCount c t.options (marks_at t q) p)
    → StepClears (flags_read t q (Some (status_of_found p (representative p)))) c p
read-clears t q c p rises plain counts steps =
    by (fresh_event (traced_at t q) l) refl steps
  where
    l : LwpStatus
    l = status_of_found p (representative p)

    by : (x : Option Event) → fresh_event (traced_at t q) l ≡ x → is_step_flags (flags_fresh t q l x) ≡ true
        → MetOwn c p
    by None is set = none-steps (marks_at t q).flags plain set
    by (Some e) is set =
        let on : event_of l ≡ Some e = fresh-stands (traced_at t q) l e is in
        let shown = shown-lwp p l e rises refl on in
        let new = fresh-new (traced_at t q) l e is in
        event-clears t.options (marks_at t q) plain c p (counts (eqb-true (traced_at t q).old 0 new.new)) l.id
        shown.lwp shown.there e
        (ap event_of (sym shown.is) ∙ on) set
