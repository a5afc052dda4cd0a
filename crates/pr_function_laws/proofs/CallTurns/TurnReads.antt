use Rattle.std.proofs.Common.{◌≡◌, ◌==◌, ℕ, Bool, true, false, cond, Option, Some, None, Result, List, [], ◌∷◌, refl, sym, ap, ◌∙◌}
use Rattle.std.proofs.lemmas.Bool.{eq-eqb}
use Rattle.std.proofs.lemmas.Option.{none-some, same_Some}
use Rattle.std.specs.Option.{option_and_then, option_map}
use Rattle.pr_laws.proofs.RunLemmas.{representative-stands}
use Rattle.pr_line.specs.Events.{event_of}
use Rattle.pr_line.specs.declared.events.Event.{Event}
use Rattle.pr_line.specs.declared.events.Event.TheVariants as event
use Rattle.pr_model.specs.Registers.{pc_of}
use Rattle.pr_model.specs.Replies.{bytes_in}
use Rattle.pr_model.specs.State.{TracedLwp, TracedProcess, lwp_of}
use Rattle.pr_model.specs.Statuses.{lwpstatus_of, reason_shown, status_of_found, what_shown}
use Rattle.pr_model.specs.Stops.{representative, shown}
use Rattle.pr_model.specs.declared.calls.Reply.{Reply}
use Rattle.pr_model.specs.Points.{stop_at}
use Rattle.pr_model.specs.declared.stops.Point.{Point}
use Rattle.pr_model.specs.declared.stops.Point.TheVariants.{Fault, Signal}
use Rattle.pr_model.specs.declared.stops.Stop.{Stop}
use Rattle.pr_model.specs.declared.stops.Stop.TheVariants as stop
use Rattle.pr_num.proofs.EntryLemmas.{fault_of_number-number, signal_of_number-number}
use Rattle.pr_num.specs.ById.{IsRising}
use Rattle.pr_num.specs.Signals.{signal_number, signal_of_number}
use Rattle.pr_num.specs.declared.errnos.Errno.{Errno}
use Rattle.pr_num.specs.declared.faults.Flt.{Flt}
use Rattle.pr_num.specs.declared.faults.Flt.TheVariants.{Trace}
use Rattle.pr_num.specs.declared.infos.Info.{Info}
use Rattle.pr_num.specs.declared.signals.Sig.{Sig}
use Rattle.pr_num.specs.declared.syscalls.Sysno.{Sysno}
use Rattle.pr_rec.specs.declared.lwps.Disposition.{Disposition}
use Rattle.pr_rec.specs.declared.lwps.LwpStatus.{LwpStatus}
use Rattle.pr_truss.specs.Asides.{marks_at}
use Rattle.pr_truss.specs.FunctionEvents.{fresh_event, function_event, trap_event}
use Rattle.pr_truss.specs.Records.{status_lwp}
use Rattle.pr_truss.specs.Trusses.{TrussState, traced_at}
use Rattle.pr_truss.specs.declared.asides.Aside.TheVariants.{Nothing}
use Rattle.pr_truss.specs.declared.function_events.FunctionEvent.{FunctionEvent}
use Rattle.pr_truss.specs.declared.function_events.FunctionEvent.TheVariants.{Completed, TraceTrap}
use Rattle.pr_truss.specs.declared.marks.Stepped.{Stepped}
use Rattle.pr_truss.specs.declared.processes.Traced.{Traced}
use Rattle.pr_truss.specs.declared.reports.Report.{Report}
use Rattle.pr_truss.specs.declared.reports.Report.TheVariants.{Called}
use Rattle.pr_truss.specs.declared.stages.Stage.TheVariants.{ReadingStatus}
use Rattle.pr_function_laws.proofs.Marks.MetLemmas.{completes, event-completes, fresh-stands}
use Rattle.pr_function_laws.proofs.Stepping.ToldLemmas.{no-event, none-on}
use Rattle.pr_function_laws.proofs.CallTurns.TurnPoints.{IsOfStep}
use Rattle.pr_function_laws.specs.Calls.{call_beside, call_of_event, call_of_fresh, call_of_lwp, call_read, call_told}
use Rattle.pr_function_laws.specs.Turns.{ends_step}

-- What truss makes of the status of an lwp that stands at a trace trap, and how that lwp stands.

-- ---- the stop that an event tells

-- the fault of an event
abbrev pub incurs : Option Event → Option Flt
incurs (Some (event.Incurred f pc)) = Some f
incurs _ = None

entered-none : (arguments : List ℕ) (o : Option Sysno)
    → incurs (option_map (λ call. event.Entered call arguments) o) ≡ None
entered-none arguments None = refl
entered-none arguments (Some call) = refl

left-none : (arguments : List ℕ) (result : Result ℕ Errno) (o : Option Sysno)
    → incurs (option_map (λ call. event.Left call arguments result) o) ≡ None
left-none arguments result None = refl
left-none arguments result (Some call) = refl

received-none : (disposition : Disposition) (info : Info) (o : Option Sig)
    → incurs (option_map (λ signal. event.Received signal disposition info) o) ≡ None
received-none disposition info None = refl
received-none disposition info (Some signal) = refl

signalled-some : (disposition : Disposition) (info : Info) (o : Option Sig) (g : Sig) → o ≡ Some g
    → (e : Event) × ((option_map (λ signal. event.Received signal disposition info) o ≡ Some e) × (ends_step e ≡ true))
signalled-some disposition info o g is =
    (event.Received g disposition info, (ap (option_map (λ signal. event.Received signal disposition info)) is, refl))

module _ (p : TracedProcess) (id : ℕ) (l : TracedLwp) where
  -- the lwp with this stop
  abbrev told_with : Option Stop → Option Event
  told_with o = event_of (lwpstatus_of p id (record l { control = record l.control { stop = o } }))

  told-faulted : (f : Flt) → told_with (Some (stop.Faulted f)) ≡ Some (event.Incurred f (pc_of l.regs))
  unfolding event_of lwpstatus_of shown reason_shown what_shown
  told-faulted f =
      ap (option_map (λ (fault : Flt). event.Incurred fault (pc_of l.regs))) (fault_of_number-number f)

  -- the event of an lwp that stands at a fault
  pub fault-told : (f : Flt) → l.control.stop ≡ Some (stop.Faulted f)
      → event_of (lwpstatus_of p id l) ≡ Some (event.Incurred f (pc_of l.regs))
  fault-told f is = ap told_with is ∙ told-faulted f

  told-signalled : (g : Sig) → (e : Event) × ((told_with (Some (stop.Signalled g)) ≡ Some e) × (ends_step e ≡ true))
  unfolding event_of lwpstatus_of shown reason_shown what_shown
  told-signalled g = signalled-some _ _ (signal_of_number (signal_number g)) g (signal_of_number-number g)

  -- an lwp that stands on what a step met tells a signal or a fault
  pub step-told : (point : Point) → IsOfStep point → l.control.stop ≡ Some (stop_at point)
      → (e : Event) × ((event_of (lwpstatus_of p id l) ≡ Some e) × (ends_step e ≡ true))
  step-told (Signal g) kind is = let it = told-signalled g in (it.0, (ap told_with is ∙ it.1.0, it.1.1))
  step-told (Fault f) kind is = (event.Incurred f (pc_of l.regs), (fault-told f is, refl))
  step-told _ kind is = absurd kind

  told-incurs : (o : Option Stop) (f : Flt) → incurs (told_with o) ≡ Some f → o ≡ Some (stop.Faulted f)
  unfolding event_of lwpstatus_of shown reason_shown what_shown
  told-incurs None f is =
      absurd (none-some f (sym (ap incurs
      (no-event (lwpstatus_of p id (record l { control = record l.control { stop = None } })) l.suspended p.job_stop))
      ∙ is))
  told-incurs (Some stop.Requested) f is = absurd (none-some f is)
  told-incurs (Some (stop.Signalled g)) f is =
      absurd (none-some f (sym (received-none _ _ _) ∙ is))
  told-incurs (Some (stop.SysEntry c)) f is = absurd (none-some f (sym (entered-none _ _) ∙ is))
  told-incurs (Some (stop.SysExit c)) f is = absurd (none-some f (sym (left-none _ _ _) ∙ is))
  told-incurs (Some (stop.Faulted g)) f is =
      ap (λ x. Some (stop.Faulted x)) (same_Some g f (sym (ap incurs (told-faulted g)) ∙ is))

  -- an lwp of which a fault is told stands at it
  pub told-stop : (f : Flt) (pc : ℕ) → event_of (lwpstatus_of p id l) ≡ Some (event.Incurred f pc)
      → l.control.stop ≡ Some (stop.Faulted f)
  told-stop f pc is = told-incurs l.control.stop f (ap incurs is)

-- ---- the lwp of which the status of a process tells

pub record ShownLwp (p : TracedProcess) (l : LwpStatus) : Type 0 where
  pub lwp : TracedLwp
  pub there : lwp_of p l.id ≡ Some lwp
  pub is : l ≡ lwpstatus_of p l.id lwp

pub shown-lwp : (p : TracedProcess) (l : LwpStatus) (e : Event) → IsRising p.lwps
    → status_of_found p (representative p) ≡ l → event_of l ≡ Some e → ShownLwp p l
unfolding lwpstatus_of
shown-lwp p l e rises same on = by (representative p) refl
  where
    by : (o : Option (ℕ × TracedLwp)) → representative p ≡ o → ShownLwp p l
    by None none =
        absurd (none-some e (sym none-on ∙ ap event_of (sym (ap (status_of_found p) none) ∙ same) ∙ on))
    by (Some x) leads =
        let is : l ≡ lwpstatus_of p x.0 x.1 = sym same ∙ ap (status_of_found p) leads in
        let own : l.id ≡ x.0 = ap (λ (y : LwpStatus). y.id) is in
        record {
          lwp = x.1;
          there = ap (lwp_of p) own ∙ representative-stands p x rises leads;
          is = is ∙ ap (λ i. lwpstatus_of p i x.1) (sym own);
        }

-- ---- what truss makes of it

module _ (t : TrussState) (r : Reply) (place : ℕ) (idle : t.aside ≡ Nothing) (reads : t.stage ≡ ReadingStatus place)
    (l : LwpStatus) (told : option_and_then status_lwp (bytes_in r) ≡ Some l) where
  told-is : call_told t r ≡ call_of_fresh t place l.id (fresh_event (traced_at t place) l)
  unfolding call_told
  told-is = ap (call_beside t r) idle ∙ ap (call_read t r) reads ∙ ap (call_of_lwp t place) told

  -- a call that is told: the step of the lwp was under way, and it stands at a trace trap
  pub record ShowsCall (rpt : Report) : Type 0 where
    pub step : Stepped
    pub pc : ℕ
    pub stands : event_of l ≡ Some (event.Incurred Trace pc)
    pub under_way : (marks_at t place).stepped ≡ Some step
    pub own : step.lwp ≡ l.id
    pub is : rpt ≡ Called (traced_at t place).pid step.lwp step.function step.arguments

  module _ (rpt : Report) where
    abbrev Shows : List Report → Type 0
    Shows rs = rs ≡ rpt ∷ [] → ShowsCall rpt

    shows-nothing : Shows []
    shows-nothing is = cc

    event-shows : (e : Event) → event_of l ≡ Some e → (fe : FunctionEvent)
        → function_event t.options (marks_at t place) l.id e ≡ fe
        → Shows (call_of_event (traced_at t place).pid fe)
    event-shows e on (Completed step) at is =
        let c = event-completes t.options (marks_at t place) l.id e step (ap completes at) in
        record {
          step = step;
          pc = c.pc;
          stands = on ∙ ap (λ x. Some x) c.is;
          under_way = c.under_way;
          own = c.own;
          is = cc;
        }
    event-shows e on _ at is = shows-nothing is

    fresh-shows : (o : Option Event) → fresh_event (traced_at t place) l ≡ o → Shows (call_of_fresh t place l.id o)
    fresh-shows None at is = shows-nothing is
    fresh-shows (Some e) at is =
        event-shows e (fresh-stands (traced_at t place) l e at)
        (function_event t.options (marks_at t place) l.id e) refl is

    pub shows-call : call_told t r ≡ rpt ∷ [] → ShowsCall rpt
    shows-call is = fresh-shows (fresh_event (traced_at t place) l) refl (sym told-is ∙ is)

  -- the trace trap of the lwp whose step is under way tells of the call
  trap-tells : (step : Stepped) → step.lwp ≡ l.id → (o : Option Stepped) → o ≡ Some step
      → trap_event o l.id ≡ Completed step
  trap-tells step own None is = absurd (none-some step is)
  trap-tells step own (Some x) is =
      let same : x ≡ step = same_Some x step is in
      ap (λ b. cond b (Completed x) TraceTrap) (eq-eqb x.lwp l.id (ap (λ (y : Stepped). y.lwp) same ∙ own))
      ∙ ap (λ y. Completed y) same

  pub tells-call : (pc : ℕ) (step : Stepped) → event_of l ≡ Some (event.Incurred Trace pc)
      → (marks_at t place).stepped ≡ Some step → step.lwp ≡ l.id → ((traced_at t place).old == 0) ≡ true
      → (traced_at t place).seen ≡ false
      → call_told t r ≡ Called (traced_at t place).pid step.lwp step.function step.arguments ∷ []
  unfolding fresh_event function_event
  tells-call pc step on under_way own new unseen =
      let fresh : fresh_event (traced_at t place) l ≡ Some (event.Incurred Trace pc) =
      ap (λ b. cond b (cond (traced_at t place).seen None (event_of l)) None) new
      ∙ ap (λ b. cond b None (event_of l)) unseen ∙ on in
      told-is ∙ ap (call_of_fresh t place l.id) fresh
      ∙ ap (call_of_event (traced_at t place).pid) (trap-tells step own (marks_at t place).stepped under_way)

-- ---- a stop that was not looked at before

pub record IsNew (t : Traced) : Type 0 where
  pub new : (t.old == 0) ≡ true
  pub unseen : t.seen ≡ false

pub fresh-new : (t : Traced) (l : LwpStatus) (e : Event) → fresh_event t l ≡ Some e → IsNew t
unfolding fresh_event
fresh-new t l e is = by (t.old == 0) refl t.seen refl is
  where
    by : (a : Bool) → (t.old == 0) ≡ a → (b : Bool) → t.seen ≡ b → cond a (cond b None (event_of l)) None ≡ Some e
        → IsNew t
    by true new true seen found = absurd (none-some e found)
    by true new false unseen found = record { new = new; unseen = unseen }
    by false old b seen found = absurd (none-some e found)
