use Rattle.std.proofs.Common.{◌≡◌, ◌≢◌, ◌==◌, ℕ, Bool, true, false, cond, Option, Some, None, List, Result, refl, sym, ap, ◌∙◌, inl, inr}
use Rattle.std.proofs.lemmas.Bool.{cases_Bool, eq-eqb, eqb-true, false≢true}
use Rattle.std.proofs.lemmas.Option.{none-some, same_Some}
use Rattle.std.specs.Option.{option_and_then, option_map}
use Rattle.pr_line.specs.Events.{event_of, named_call}
use Rattle.pr_line.specs.declared.events.Event.{Event}
use Rattle.pr_line.specs.declared.events.Event.TheVariants as event
use Rattle.pr_line.specs.declared.options.Options.{Options}
use Rattle.pr_model.specs.State.{TracedLwp, TracedProcess}
use Rattle.pr_model.specs.Statuses.{arguments_in, call_in, lwpstatus_of, reason_shown, what_shown}
use Rattle.pr_model.specs.Stops.{shown}
use Rattle.pr_model.specs.declared.stops.Stop.{Stop}
use Rattle.pr_model.specs.declared.stops.Stop.TheVariants as stop
use Rattle.pr_num.proofs.EntryLemmas.{syscall_of_number-number}
use Rattle.pr_num.specs.Syscalls.{syscall_number, syscall_of_number}
use Rattle.pr_num.specs.declared.errnos.Errno.{Errno}
use Rattle.pr_num.specs.declared.faults.Flt.{Flt}
use Rattle.pr_num.specs.declared.faults.Flt.TheVariants.{Bpt, Trace}
use Rattle.pr_num.specs.declared.infos.Info.{Info}
use Rattle.pr_num.specs.declared.signals.Sig.{Sig}
use Rattle.pr_num.specs.declared.syscalls.Sysno.{Sysno}
use Rattle.pr_reached.specs.Fits.{IsFitLwp}
use Rattle.pr_rec.specs.declared.lwps.Disposition.{Disposition}
use Rattle.pr_truss.specs.FunctionEvents.{breakpoint_event, copies_memory, fault_event, function_at, function_event, left_event, trap_event}
use Rattle.pr_truss.specs.declared.function_events.FunctionEvent.{FunctionEvent}
use Rattle.pr_truss.specs.declared.function_events.FunctionEvent.TheVariants.{BeforeCopy, Completed, Other, TraceTrap}
use Rattle.pr_truss.specs.declared.marks.Marks.{Marks}
use Rattle.pr_truss.specs.declared.marks.Stepped.{Stepped}
use Rattle.pr_function_laws.proofs.Stepping.ToldLemmas.{no-event}
use Rattle.pr_function_hides.specs.Copying.{HasNoCopyGoing, IsAtEntry, ends_copy, is_in_copy, leaves_copy}

-- What truss reads of an lwp none of whose forks, vforks and execs goes on: where it is at one, that it comes before a
-- copy; and never that one was made.

-- ---- the entry

module _ (p : TracedProcess) (id : ℕ) (l : TracedLwp) where
  entry-told : (w : IsAtEntry l)
      → event_of (lwpstatus_of p id l) ≡ Some (event.Entered w.call (arguments_in l.regs l.phase))
  unfolding event_of lwpstatus_of shown reason_shown what_shown call_in
  entry-told w =
      ap (λ (o : Option Stop). event_of (lwpstatus_of p id (record l { control = record l.control { stop = o } })))
      w.stop
      ∙ ap (option_map (λ call. event.Entered call (arguments_in l.regs l.phase)))
      (ap (λ x. option_and_then (named_call (syscall_number w.call)) (call_in x)) w.phase
      ∙ ap (λ b. cond b (Some w.call) None) (eq-eqb (syscall_number w.call) (syscall_number w.call) refl))

  module _ (o : Options) (m : Marks) (of : ℕ) (clear : HasNoCopyGoing l) where
    entry-before : (e : Event) → event_of (lwpstatus_of p id l) ≡ Some e → is_in_copy l.phase ≡ true
        → function_event o m of e ≡ BeforeCopy
    unfolding function_event
    entry-before e told is =
        let w = clear.waits is in
        let same : event.Entered w.call (arguments_in l.regs l.phase) ≡ e =
        same_Some _ e (sym (entry-told w) ∙ told) in
        ap (function_event o m of) (sym same) ∙ ap (λ b. cond b BeforeCopy Other) w.copies

    -- at another event it is at no such call
    pub other-out : (e : Event) → event_of (lwpstatus_of p id l) ≡ Some e → function_event o m of e ≢ BeforeCopy
        → is_in_copy l.phase ≡ false
    other-out e told other = elim (cases_Bool (is_in_copy l.phase)) [
      | inl is ↦ absurd (other (entry-before e told is))
      | inr out ↦ out
    ]

  -- nor where it stands on no event
  pub still-out : HasNoCopyGoing l → event_of (lwpstatus_of p id l) ≡ None → is_in_copy l.phase ≡ false
  still-out clear none = elim (cases_Bool (is_in_copy l.phase)) [
    | inl is ↦
        let w = clear.waits is in
        absurd (none-some (event.Entered w.call (arguments_in l.regs l.phase)) (sym none ∙ entry-told w))
    | inr out ↦ out
  ]

-- ---- the exit

-- the call that an event tells as ended
abbrev ended_call : Option Event → Option Sysno
ended_call (Some (event.Left call arguments result)) = Some call
ended_call _ = None

choice-after : (b : Bool) (u v : FunctionEvent) → ends_copy u ≡ false → ends_copy v ≡ false
    → ends_copy (cond b u v) ≡ false
choice-after true u v one other = one
choice-after false u v one other = other

breakpoint-after : (function : Option ℕ) → ends_copy (breakpoint_event function) ≡ false
breakpoint-after None = refl
breakpoint-after (Some function) = refl

trap-after : (step : Option Stepped) (id : ℕ) → ends_copy (trap_event step id) ≡ false
trap-after None id = refl
trap-after (Some step) id = choice-after (step.lwp == id) (Completed step) TraceTrap refl refl

-- what comes after a copy is the end of such a call
record EndsCopy (e : Event) : Type 0 where
  call : Sysno
  is : ended_call (Some e) ≡ Some call
  copies : copies_memory call ≡ true

module _ (o : Options) (m : Marks) (of : ℕ) where
  fault-after : (f : Flt) (pc : ℕ) → ends_copy (fault_event o m of f pc) ≡ false
  fault-after Bpt pc = breakpoint-after (function_at o m pc)
  fault-after Trace pc = trap-after m.stepped of
  fault-after _ pc = refl

  left-after : (call : Sysno) (arguments : List ℕ) (result : Result ℕ Errno) → (b : Bool) → copies_memory call ≡ b
      → ends_copy (cond b (left_event call result) Other) ≡ true → EndsCopy (event.Left call arguments result)
  left-after call arguments result true copies is = record { call = call; is = refl; copies = copies }
  left-after call arguments result false copies is = absurd (false≢true is)

  after-ends : (e : Event) → ends_copy (function_event o m of e) ≡ true → EndsCopy e
  unfolding function_event
  after-ends (event.Entered call arguments) is =
      absurd (false≢true (sym (choice-after (copies_memory call) BeforeCopy Other refl refl) ∙ is))
  after-ends (event.Left call arguments result) is = left-after call arguments result (copies_memory call) refl is
  after-ends (event.Received signal disposition info) is = absurd (false≢true is)
  after-ends (event.Incurred f pc) is = absurd (false≢true (sym (fault-after f pc) ∙ is))

-- numbers tell calls apart
same-call : (c d : Sysno) → syscall_number c ≡ syscall_number d → c ≡ d
same-call c d same =
    same_Some c d (sym (syscall_of_number-number c) ∙ ap syscall_of_number same ∙ syscall_of_number-number d)

module _ (p : TracedProcess) (id : ℕ) (l : TracedLwp) where
  abbrev told_with : Option Stop → Option Event
  told_with o = event_of (lwpstatus_of p id (record l { control = record l.control { stop = o } }))

  named-is : (what : ℕ) (x : Option Sysno) (arguments : List ℕ) (result : Result ℕ Errno) (c : Sysno)
      → ended_call (option_map (λ call. event.Left call arguments result) (option_and_then (named_call what) x))
      ≡ Some c → syscall_number c ≡ what
  named-is what None arguments result c is = absurd (none-some c is)
  named-is what (Some y) arguments result c is = by (syscall_number y == what) refl is
    where
      by : (b : Bool) → (syscall_number y == what) ≡ b
          → ended_call (option_map (λ call. event.Left call arguments result) (cond b (Some y) None)) ≡ Some c
          → syscall_number c ≡ what
      by true same found = ap syscall_number (sym (same_Some y c found)) ∙ eqb-true (syscall_number y) what same
      by false other found = absurd (none-some c found)

  entered-none : (arguments : List ℕ) (x : Option Sysno)
      → ended_call (option_map (λ call. event.Entered call arguments) x) ≡ None
  entered-none arguments None = refl
  entered-none arguments (Some call) = refl

  received-none : (disposition : Disposition) (info : Info) (x : Option Sig)
      → ended_call (option_map (λ signal. event.Received signal disposition info) x) ≡ None
  received-none disposition info None = refl
  received-none disposition info (Some signal) = refl

  incurred-none : (pc : ℕ) (x : Option Flt) → ended_call (option_map (λ fault. event.Incurred fault pc) x) ≡ None
  incurred-none pc None = refl
  incurred-none pc (Some fault) = refl

  told-ended : (o : Option Stop) (c : Sysno) → ended_call (told_with o) ≡ Some c → o ≡ Some (stop.SysExit c)
  unfolding event_of lwpstatus_of shown reason_shown what_shown
  told-ended None c is =
      absurd (none-some c (sym (ap ended_call
      (no-event (lwpstatus_of p id (record l { control = record l.control { stop = None } })) l.suspended p.job_stop))
      ∙ is))
  told-ended (Some stop.Requested) c is = absurd (none-some c is)
  told-ended (Some (stop.Signalled g)) c is = absurd (none-some c (sym (received-none _ _ _) ∙ is))
  told-ended (Some (stop.SysEntry d)) c is = absurd (none-some c (sym (entered-none _ _) ∙ is))
  told-ended (Some (stop.SysExit d)) c is =
      ap (λ x. Some (stop.SysExit x))
      (sym (same-call c d (named-is (syscall_number d) (call_in l.phase) _ _ c is)))
  told-ended (Some (stop.Faulted f)) c is = absurd (none-some c (sym (incurred-none _ _) ∙ is))

  -- an lwp that tells of one that was made is at none
  pub ended-out : (o : Options) (m : Marks) (of : ℕ) → IsFitLwp l → (e : Event)
      → event_of (lwpstatus_of p id l) ≡ Some e → ends_copy (function_event o m of e) ≡ true
      → is_in_copy l.phase ≡ false
  ended-out o m of fit e told is =
      let w = after-ends o m of e is in
      let exits = fit.exit w.call (told-ended l.control.stop w.call (ap ended_call told ∙ w.is)) in
      ap is_in_copy exits.1.1

  -- an lwp of which it is so tells of no copy that was made
  pub never-after : (o : Options) (m : Marks) (of : ℕ) → HasNoCopyGoing l → (e : Event)
      → event_of (lwpstatus_of p id l) ≡ Some e → ends_copy (function_event o m of e) ≡ false
  never-after o m of clear e told = elim (cases_Bool (ends_copy (function_event o m of e))) [
    | inl is ↦
        let w = after-ends o m of e is in
        let at : l.control.stop ≡ Some (stop.SysExit w.call) =
        told-ended l.control.stop w.call (ap ended_call told ∙ w.is) in
        absurd (false≢true (sym clear.left_none ∙ ap leaves_copy at ∙ w.copies))
    | inr none ↦ none
  ]
