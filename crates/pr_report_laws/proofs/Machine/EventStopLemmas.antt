use Rattle.std.proofs.Common.{◌≡◌, ◌≢◌, ◌==◌, ◌+◌, ℕ, Bool, true, false, cond, is_some, None, Some, Option, List, [], ◌∷◌, length, count_by, slice_get, All, refl, sym, ap, ◌∙◌, arith, inl, inr}
use Rattle.std.specs.List.{filter}
use Rattle.std.proofs.lemmas.Bool.{cases_Bool, eqb-false, eqb-true, eq-eqb}
use Rattle.std.proofs.lemmas.List.Elements.{All-cons, All-head, All-nil, All-tail}
use Rattle.std.proofs.lemmas.List.Sums.{length-filter, sum_by-cons}
use Rattle.std.proofs.lemmas.Option.{none-some, same_Some}
use Rattle.pr_line.specs.Events.{event_of}
use Rattle.pr_line.specs.declared.events.Event.{Event}
use Rattle.pr_model.specs.Records.{lstatus_of, statuses_of_lwps}
use Rattle.pr_model.specs.State.{TracedLwp, TracedProcess, lwp_of}
use Rattle.pr_model.specs.Statuses.{call_in, lwpstatus_of, reason_of_stop, reason_shown, what_of_stop, what_shown}
use Rattle.pr_model.specs.Stops.{shown, shown_by_job}
use Rattle.pr_model.specs.declared.lwps.Phase.{Phase}
use Rattle.pr_model.specs.declared.lwps.Phase.TheVariants.{Entered, Exiting}
use Rattle.pr_model.specs.declared.stops.Shown.TheVariants.{Event as OnEvent, Suspended}
use Rattle.pr_model.specs.declared.stops.Stop.{Stop}
use Rattle.pr_model.specs.declared.stops.Stop.TheVariants.{Faulted, Requested, Signalled, SysEntry, SysExit}
use Rattle.pr_num.proofs.ByIdLemmas.{rises_from-tail}
use Rattle.pr_num.proofs.EntryLemmas.{fault_of_number-number, signal_of_number-number}
use Rattle.pr_num.specs.ById.{IsRising, rises_from, under}
use Rattle.pr_num.specs.Faults.{fault_number}
use Rattle.pr_num.specs.Signals.{signal_number}
use Rattle.pr_num.specs.Syscalls.{syscall_number}
use Rattle.pr_num.specs.declared.faults.Flt.{Flt}
use Rattle.pr_num.specs.declared.signals.Sig.{Sig}
use Rattle.pr_num.specs.declared.stop_reasons.StopReason.{StopReason}
use Rattle.pr_num.specs.declared.stop_reasons.StopReason.TheVariants as reason
use Rattle.pr_num.specs.declared.syscalls.Sysno.{Sysno}
use Rattle.pr_rec.specs.declared.lwps.LwpStatus.{LwpStatus}
use Rattle.pr_truss.specs.Records.{is_on_event}
use Rattle.pr_truss_laws.proofs.EventStops.OneEventLemmas.{under-above, under-first, under-later}
use Rattle.pr_truss_laws.specs.Stills.{IsQuiet}
use Rattle.pr_reached.specs.Fits.{IsFitLwp, IsFitProcess}
use Rattle.pr_report_laws.proofs.Invariant.Positions.{HasEvent, has_met, is_met_if, met_in}

-- Which lwps of a process stand on events by their statuses: those that stand on events that they met.

-- ---- what a status tells by its reason

module _ (s : LwpStatus) where
  signal-on : (g : Sig) → s.why ≡ Some reason.Signalled → s.what ≡ signal_number g → is_on_event s ≡ true
  unfolding is_on_event event_of
  signal-on g why what = rw (why, what, signal_of_number-number g) refl

  fault-on : (f : Flt) → s.why ≡ Some reason.Faulted → s.what ≡ fault_number f → is_on_event s ≡ true
  unfolding is_on_event event_of
  fault-on f why what = rw (why, what, fault_of_number-number f) refl

  -- at the entry or the exit of the call that the lwp is in
  entry-on : (c : Sysno) → s.why ≡ Some reason.SysEntry → s.what ≡ syscall_number c → s.call ≡ Some c
      → is_on_event s ≡ true
  unfolding is_on_event event_of
  entry-on c why what call = rw (why, what, call, eq-eqb (syscall_number c) (syscall_number c) refl) refl

  exit-on : (c : Sysno) → s.why ≡ Some reason.SysExit → s.what ≡ syscall_number c → s.call ≡ Some c
      → is_on_event s ≡ true
  unfolding is_on_event event_of
  exit-on c why what call = rw (why, what, call, eq-eqb (syscall_number c) (syscall_number c) refl) refl

  -- A stop on request, by job control or by lwp_suspend tells no event, and neither does an lwp that is not stopped.
  abbrev TellsNothing : Option StopReason → Type 0
  TellsNothing None = Unit {0}
  TellsNothing (Some reason.Requested) = Unit {0}
  TellsNothing (Some reason.JobControl) = Unit {0}
  TellsNothing (Some reason.Suspended) = Unit {0}
  TellsNothing (Some _) = ⊥

  nothing-on : (why : Option StopReason) → s.why ≡ why → TellsNothing why → is_on_event s ≡ false
  unfolding is_on_event event_of
  nothing-on None is nothing = rw is refl
  nothing-on (Some reason.Requested) is nothing = rw is refl
  nothing-on (Some reason.JobControl) is nothing = rw is refl
  nothing-on (Some reason.Suspended) is nothing = rw is refl
  nothing-on _ is nothing = absurd nothing

  -- a status that has an event stands on one
  event-on : (e : Event) → event_of s ≡ Some e → is_on_event s ≡ true
  unfolding is_on_event
  event-on e is = ap (λ o. is_some o) is

-- ---- what the status of an lwp tells by its stop

module _ (p : TracedProcess) (id : ℕ) (l : TracedLwp) where
  abbrev status : LwpStatus
  status = lwpstatus_of p id l

  shown-stop : (stop : Stop) → l.control.stop ≡ Some stop → shown p.job_stop l ≡ Some (OnEvent stop)
  unfolding shown
  shown-stop stop is = rw is refl

  stop-why : (stop : Stop) → l.control.stop ≡ Some stop → status.why ≡ Some (reason_of_stop stop)
  unfolding lwpstatus_of reason_shown
  stop-why stop is = ap reason_shown (shown-stop stop is)

  stop-what : (stop : Stop) → l.control.stop ≡ Some stop → status.what ≡ what_of_stop stop
  unfolding lwpstatus_of what_shown
  stop-what stop is = ap what_shown (shown-stop stop is)

  status-call : (phase : Phase) → l.phase ≡ phase → status.call ≡ call_in phase
  unfolding lwpstatus_of
  status-call phase is = ap call_in is

  -- an lwp that stands on no event of interest is suspended, or stopped by job control, or runs
  shown-none : l.control.stop ≡ None → shown p.job_stop l ≡ cond l.suspended (Some Suspended) (shown_by_job p.job_stop)
  unfolding shown
  shown-none is = rw is refl

  none-off : l.control.stop ≡ None → is_on_event status ≡ false
  unfolding lwpstatus_of reason_shown
  none-off is = by l.suspended p.job_stop (ap reason_shown (shown-none is))
    where
      by : (b : Bool) (job : Option Sig) → status.why ≡ reason_shown (cond b (Some Suspended) (shown_by_job job))
          → is_on_event status ≡ false
      by true job why = nothing-on status (Some reason.Suspended) why tt
      by false None why = nothing-on status None why tt
      by false (Some g) why = nothing-on status (Some reason.JobControl) why tt

  -- an lwp that stands on no event that it met tells none
  pub unmet-off : has_met l ≡ false → is_on_event status ≡ false
  unmet-off unmet = by l.control.stop refl unmet
    where
      by : (o : Option Stop) → l.control.stop ≡ o → is_met_if o ≡ false → is_on_event status ≡ false
      by None is unmet = none-off is
      by (Some Requested) is unmet = nothing-on status (Some reason.Requested) (stop-why Requested is) tt
      by _ is unmet = cc

  -- A status tells an event exactly where its lwp stands on one that it met. A stop at a call tells it where the lwp is
  -- in the call that the stop names.
  pub on-where-met : IsFitLwp l → is_on_event status ≡ has_met l
  unfolding call_in
  on-where-met fit = by l.control.stop refl
    where
      by : (o : Option Stop) → l.control.stop ≡ o → is_on_event status ≡ is_met_if o
      by None is = none-off is
      by (Some Requested) is = nothing-on status (Some reason.Requested) (stop-why Requested is) tt
      by (Some (Signalled g)) is = signal-on status g (stop-why (Signalled g) is) (stop-what (Signalled g) is)
      by (Some (Faulted f)) is = fault-on status f (stop-why (Faulted f) is) (stop-what (Faulted f) is)
      by (Some (SysEntry c)) is =
          entry-on status c (stop-why (SysEntry c) is) (stop-what (SysEntry c) is)
          (status-call (Entered c) (fit.entry c is))
      by (Some (SysExit c)) is =
          let exits = fit.exit c is in
          exit-on status c (stop-why (SysExit c) is) (stop-what (SysExit c) is)
          (status-call (Exiting c exits.0 exits.1.0) exits.1.1)

-- ---- how many of the lwps of a process tell events

module _ (p : TracedProcess) where
  stops-counted : (es : List (ℕ × TracedLwp)) → All (λ (e : ℕ × TracedLwp). IsFitLwp e.1) es
      → count_by is_on_event (statuses_of_lwps p es) ≡ count_by (λ (e : ℕ × TracedLwp). has_met e.1) es
  stops-counted [] fit = refl
  stops-counted (e ∷ es) fit =
      let first = on-where-met p e.0 e.1 (All-head (λ (d : ℕ × TracedLwp). IsFitLwp d.1) e es fit) in
      let others = stops-counted es (All-tail (λ (d : ℕ × TracedLwp). IsFitLwp d.1) e es fit) in
      sum_by-cons (λ s. cond (is_on_event s) 1 0) (lwpstatus_of p e.0 e.1) (statuses_of_lwps p es)
      ∙ ap (λ b. cond {A = ℕ} b 1 0 + count_by is_on_event (statuses_of_lwps p es)) first
      ∙ ap (λ (n : ℕ). cond (has_met e.1) 1 0 + n) others
      ∙ sym (sum_by-cons (λ (d : ℕ × TracedLwp). cond (has_met d.1) 1 0) e es)

  -- as many lwps tell events as stand on events that they met
  pub stops-met : IsFitProcess p → length (filter is_on_event (lstatus_of p)) ≡ met_in p
  unfolding lstatus_of
  stops-met fit = length-filter is_on_event (statuses_of_lwps p p.lwps) ∙ stops-counted p.lwps fit.lwps

-- ---- which of them do

-- what holds of each thing that is found under its id holds of each pair
pub each-under : {X : Type 0} (P : ℕ × X → Type 0) (low : ℕ) (es : List (ℕ × X)) → rises_from low es ≡ true
    → ((id : ℕ) (x : X) → under id es ≡ Some x → P (id, x)) → All P es
each-under P low [] rises each = All-nil P
each-under P low (e ∷ es) rises each =
    All-cons P e es (each e.0 e.1 (under-first e es))
    (each-under P (e.0 + 1) es (rises_from-tail low e es rises)
    (λ id x at. each id x (under-later low id x e es rises at)))

-- the first lwp of a process that stands on an event by its status: that is the one that truss shows where it leaves
pub record FirstStop (p : TracedProcess) (id : ℕ) (event : Event) : Type 0 where
  pub lwp : TracedLwp
  pub there : lwp_of p id ≡ Some lwp
  pub is : slice_get (filter is_on_event (lstatus_of p)) 0 ≡ Some (lwpstatus_of p id lwp)
  pub tells : event_of (lwpstatus_of p id lwp) ≡ Some event
  pub own : (lwpstatus_of p id lwp).id ≡ id

module _ (p : TracedProcess) where
  abbrev IsOff : ℕ × TracedLwp → Type 0
  IsOff e = is_on_event (lwpstatus_of p e.0 e.1) ≡ false

  abbrev stops_of : List (ℕ × TracedLwp) → List LwpStatus
  stops_of es = filter is_on_event (statuses_of_lwps p es)

  off-step : (e : ℕ × TracedLwp) (es : List (ℕ × TracedLwp)) → IsOff e → stops_of (e ∷ es) ≡ stops_of es
  off-step e es off = ap (λ b. cond b (lwpstatus_of p e.0 e.1 ∷ stops_of es) (stops_of es)) off

  on-step : (e : ℕ × TracedLwp) (es : List (ℕ × TracedLwp)) → is_on_event (lwpstatus_of p e.0 e.1) ≡ true
      → stops_of (e ∷ es) ≡ lwpstatus_of p e.0 e.1 ∷ stops_of es
  on-step e es on = ap (λ b. cond b (lwpstatus_of p e.0 e.1 ∷ stops_of es) (stops_of es)) on

  none-on : (es : List (ℕ × TracedLwp)) → All IsOff es → stops_of es ≡ []
  none-on [] off = refl
  none-on (e ∷ es) off = off-step e es (All-head IsOff e es off) ∙ none-on es (All-tail IsOff e es off)

  one-on : (id : ℕ) (l : TracedLwp) → is_on_event (lwpstatus_of p id l) ≡ true → (low : ℕ) (es : List (ℕ × TracedLwp))
      → rises_from low es ≡ true
      → under id es ≡ Some l → ((other : ℕ) (k : TracedLwp) → other ≢ id → under other es ≡ Some k → IsOff (other, k))
      → stops_of es ≡ lwpstatus_of p id l ∷ []
  one-on id l on low [] rises there others = absurd (none-some l there)
  one-on id l on low (e ∷ es) rises there others =
      elim (cases_Bool (e.0 == id)) [
        | inl here ↦ found here
        | inr away ↦ passed away
            (one-on id l on (e.0 + 1) es tail (rw away at there) later)
      ]
    where
      tail : rises_from (e.0 + 1) es ≡ true
      tail = rises_from-tail low e es rises

      later : (other : ℕ) (k : TracedLwp) → other ≢ id → under other es ≡ Some k → IsOff (other, k)
      later other k differs at = others other k differs (under-later low other k e es rises at)

      found : (e.0 == id) ≡ true → stops_of (e ∷ es) ≡ lwpstatus_of p id l ∷ []
      found here =
          let same : e.0 ≡ id = eqb-true e.0 id here in
          let thing : e.1 ≡ l = same_Some e.1 l (rw here at there) in
          let status : lwpstatus_of p e.0 e.1 ≡ lwpstatus_of p id l =
          ap (λ n. lwpstatus_of p n e.1) same ∙ ap (lwpstatus_of p id) thing in
          let rest =
          each-under IsOff (e.0 + 1) es tail
          (λ other k at. let above = under-above (e.0 + 1) other k es tail at in later other k
          (λ is. absurd (omega arith)) at) in
          on-step e es (ap is_on_event status ∙ on) ∙ ap (λ s. s ∷ stops_of es) status
          ∙ ap (λ ss. lwpstatus_of p id l ∷ ss) (none-on es rest)

      passed : (e.0 == id) ≡ false → stops_of es ≡ lwpstatus_of p id l ∷ []
          → stops_of (e ∷ es) ≡ lwpstatus_of p id l ∷ []
      passed away rest = off-step e es (others e.0 e.1 (eqb-false e.0 id away) (under-first e es)) ∙ rest

  module _ (rises : IsRising p.lwps) where
    -- where one lwp stands on an event that its status tells and the others are held, it alone does
    pub one-stop : (id : ℕ) (event : Event) (h : HasEvent p id event)
        → filter is_on_event (lstatus_of p) ≡ lwpstatus_of p id h.lwp ∷ []
    unfolding lstatus_of
    one-stop id event h =
        one-on id h.lwp (event-on (lwpstatus_of p id h.lwp) event h.tells) 0 p.lwps rises h.there
        (λ other k differs at. unmet-off p other k (h.others other k differs at).met_nothing)

    -- of a quiet process none does
    pub no-stop : IsQuiet p → filter is_on_event (lstatus_of p) ≡ []
    unfolding lstatus_of
    no-stop quiet =
        none-on p.lwps (each-under IsOff 0 p.lwps rises (λ id l at. none-off p id l (quiet.each id l at).no_stop))

    pub first-stop : (id : ℕ) (event : Event) → HasEvent p id event → FirstStop p id event
    unfolding lwpstatus_of
    first-stop id event h = record {
      lwp = h.lwp;
      there = h.there;
      is = ap (λ (ss : List LwpStatus). slice_get ss 0) (one-stop id event h);
      tells = h.tells;
      own = refl;
    }

    pub first-none : IsQuiet p → slice_get (filter is_on_event (lstatus_of p)) 0 ≡ None
    first-none quiet = ap (λ (ss : List LwpStatus). slice_get ss 0) (no-stop quiet)
